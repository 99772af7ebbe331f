use Rattle.std.proofs.Common.{◌≡◌, refl, subst, false, true, List, ℕ, length, arith}
use Rattle.std.specs.Prelude.{nat_le}
use Rattle.std.proofs.lemmas.Bool.Decides.{nat_tests}
use Rattle.marc_fields.specs.Fronts.{IsFront}
use Rattle.marc_fields.specs.Rows.{Checks}
use Rattle.marc_fields.specs.Rules.{head_failure, leader_failure}
use Rattle.marc_fields.proofs.head.check_head.Goals as goal

pub returns-then-frame-lt-SMALLEST_FRAME : goal.returns-then-frame-lt-SMALLEST_FRAME
unfolding head_failure
returns-then-frame-lt-SMALLEST_FRAME c =
    let short : nat_le 26 (length c.args.frame.now) ≡ false = grind (arith, nat_tests) in
    rw short refl

pub returns : goal.returns
unfolding head_failure
returns c =
    let long : nat_le 26 (length c.args.frame.now) ≡ true = grind (arith, nat_tests) in
    let Is : List ℕ → Type 0 = λ leader. Checks c.check_leader.result (leader_failure leader c.args.frame.now) (λ front. IsFront leader c.args.frame.now front.codes front.base) in
    rw long (subst Is c.split_at.ensures.front c.check_leader.ensures)
