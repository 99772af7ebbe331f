use Rattle.std.proofs.Common.{◌≡◌, ◌<◌, true, [], ◌∷◌, ◌++◌, length, refl, sym, subst, append-nil, arith}
use Rattle.std.proofs.lemmas.Bool.Decides.{nat_tests}
use Rattle.std.proofs.lemmas.Result.{err_from_is_err_and}
use Rattle.library_batches.specs.Rounds.{AreGiven}
use Rattle.library_batches.proofs.BlockLaws.{some_in-none}
use Rattle.library_batches.proofs.PassedLaws.{is_batch-block}
use Rattle.library_batches.proofs.RoundLaws.{given-block, given-batch}
use Rattle.library_batches.proofs.ShareLaws.{front-none}
use Rattle.library_batches.proofs.working.add_work.Goals as goal

pub returns-in_err-part-clause-kept : goal.returns-in_err-part-clause-kept
returns-in_err-part-clause-kept c =
    let p = err_from_is_err_and c.from_residual.result c.from_residual.ensures.1 in
    rw (p.1, c.in_err-part.ensures.kept) (front-none c.args.work.first c.args.work.frames.items c.args.refused.now.items)

pub returns-then-is_empty-clause-given : goal.returns-then-is_empty-clause-given
returns-then-is_empty-clause-given c = λ done first before.
    let origin = c.args.origin.now in
    let part = c.in_ok-part.part in
    let none : length part.items ≡ 0 = grind (arith, nat_tests, c.if-is_empty.ensures, part.ok) in
    given-block origin.prefer.now origin.library.now done c.args.work (record { ops = part; ended = true }) first c.args.refused.now.items
    c.add_refused.new.refused.items (c.in_ok-part.ensures.ops origin.prefer.now origin.library.now c.requires) c.args.batches.now.items
    (some_in-none part.items none) before

pub invariant_of-push : goal.invariant_of-push
invariant_of-push c =
    let origin = c.args.origin.now in
    let part = c.in_ok-part.part in
    let some : 0 < length part.items = grind (arith, nat_tests, c.if-is_empty.ensures, part.ok) in
    record {
      fits = rw c.from.ensures
          (is_batch-block origin.prefer.now origin.library.now _ c.args.work.frames.items part.items _ _
          (c.in_ok-part.ensures.ops origin.prefer.now origin.library.now c.requires) c.requires.short some);
    }

pub returns-clause-given : goal.returns-clause-given
returns-clause-given c = λ done first before.
    let origin = c.args.origin.now in
    let part = c.in_ok-part.part in
    let later = c.add_refused.new.refused.items in
    let some : 0 < length part.items = grind (arith, nat_tests, c.if-is_empty.ensures, part.ok) in
    subst (λ bs. AreGiven origin.prefer.now origin.library.now (done ++ c.args.work ∷ []) first later bs) (sym c.in_ok-push.ensures.items)
    (given-batch origin.prefer.now origin.library.now done c.args.work (record { ops = part; ended = true }) first c.args.refused.now.items later
    (c.in_ok-part.ensures.ops origin.prefer.now origin.library.now c.requires) c.args.batches.now.items _ some refl c.from.ensures before)

pub returns-in_err-push-clause-kept : goal.returns-in_err-push-clause-kept
returns-in_err-push-clause-kept c =
    let origin = c.args.origin.now in
    let checked = c.in_ok-part.ensures.ops origin.prefer.now origin.library.now c.requires in
    let p = err_from_is_err_and c.from_residual-in_err-push.result c.from_residual-in_err-push.ensures.1 in
    rw p.1 (record { checked = c.args.work.frames.items; rest = []; all = sym (append-nil c.args.work.frames.items); refused = checked.refused })
