use Rattle.std.proofs.Common.{◌≡◌, sym, ap, ◌∙◌, None, Ok}
use Rattle.marc_leader.specs.Leader.{leader_text, misfit, length_place, base_place}
use Rattle.marc_leader.specs.Numeral.{are_digits, number_of}
use Rattle.marc_leader.proofs.LeaderLaws.{leader_at-is, leader_of-kept, leader_text-at, printable-at}
use Rattle.marc_leader.proofs.Numerals.{told}
use Rattle.marc_leader.proofs.leader.Leader.read.Goals as goal

pub invariant_of-result : goal.invariant_of-result
invariant_of-result c = printable-at c.args.text.now c.requires (sym c.in_default-first_misfit.ensures)

pub returns-clause-value : goal.returns-clause-value
returns-clause-value c =
    let text = c.args.text.now in
    let size = told (are_digits (length_place text)) c.in-Some.length (number_of (length_place text)) c.in-Some.ensures.value in
    let base = told (are_digits (base_place text)) c.in-Some-digits.base (number_of (base_place text)) c.in-Some-digits.ensures.value in
    sym (leader_of-kept text size.0 base.0 (sym c.in_default-first_misfit.ensures) ∙ ap (λ l. Ok l) (leader_at-is text c.in-Some.length c.in-Some-digits.base size.1 base.1))

pub returns-clause-spelled : goal.returns-clause-spelled
returns-clause-spelled c =
    let text = c.args.text.now in
    let size = told (are_digits (length_place text)) c.in-Some.length (number_of (length_place text)) c.in-Some.ensures.value in
    let base = told (are_digits (base_place text)) c.in-Some-digits.base (number_of (base_place text)) c.in-Some-digits.ensures.value in
    let m : misfit text ≡ None = sym c.in_default-first_misfit.ensures in
    leader_text-at text c.requires size.0 base.0 m ∙ ap leader_text (leader_at-is text c.in-Some.length c.in-Some-digits.base size.1 base.1)
