use Rattle.std.proofs.Common.{◌≡◌, ◌+◌, ◌++◌, length, length-append, arith, ap, ◌∙◌}
use Rattle.std.proofs.lemmas.Result.{IfOk-weaker}
use Rattle.std.proofs.lemmas.Slice.{take-put_mid}
use Rattle.std.proofs.Math.Seq.{take-append_seam}
use Rattle.match_features.proofs.control_pair.joined.Goals as goal

pub returns-then-size-le-LONGEST_SHORT : goal.returns-then-size-le-LONGEST_SHORT
returns-then-size-le-LONGEST_SHORT c =
    let first = c.args.first.now in
    let second = c.args.second.now in
    let size : c.saturating_add-size.result ≡ length first + length second = omega (arith, c.saturating_add-size.ensures, c.if-size-le-LONGEST_SHORT.true) in
    IfOk-weaker c.of.result _ _
    (λ text is. rw is (rw (c.copy_from_slice.ensures.after, c.copy_from_slice-then-size-le-LONGEST_SHORT.ensures.after)
    (take-put_mid (length first) _ _ second _ size (simp length-append (omega arith)) ∙ ap (λ front. front ++ second) (take-append_seam first _))))
    c.of.ensures
