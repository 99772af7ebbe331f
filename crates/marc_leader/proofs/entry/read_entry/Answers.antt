use Rattle.std.proofs.Common.{◌≡◌, true, ap, sym, ◌∙◌}
use Rattle.std.specs.Prelude.{Ok}
use Rattle.std.proofs.lemmas.Bool.{and_parts}
use Rattle.marc_leader.specs.Entry.{entry_text, is_tag, tag_place, size_place, start_place}
use Rattle.marc_leader.specs.Numeral.{are_digits}
use Rattle.marc_leader.proofs.EntryLaws.{digits-both, entry_of-digits, entry_of-tag, entry_of-kept, tag_place-reads, entry_at-is, entry_text-at}
use Rattle.marc_leader.proofs.entry.read_entry.Goals as goal

pub number_of-requires-clause-digits : goal.number_of-requires-clause-digits
number_of-requires-clause-digits c =
    let text = c.args.text.now in
    (and_parts (are_digits (size_place text)) (are_digits (start_place text)) (sym (digits-both text c.requires) ∙ sym c.if-not-are_digits.ensures)).0

pub returns-then-not-are_digits-clause-value : goal.returns-then-not-are_digits-clause-value
returns-then-not-are_digits-clause-value c =
    entry_of-digits c.args.text.now (sym (digits-both c.args.text.now c.requires) ∙ sym c.if-not-are_digits.ensures)

pub returns-then-not-are_alphanumeric-clause-value : goal.returns-then-not-are_alphanumeric-clause-value
returns-then-not-are_alphanumeric-clause-value c =
    let text = c.args.text.now in
    entry_of-tag text (sym (digits-both text c.requires) ∙ sym c.if-not-are_digits.ensures)
    (ap is_tag (tag_place-reads text c.requires) ∙ sym c.if-not-are_alphanumeric.ensures)

pub returns-clause-value : goal.returns-clause-value
returns-clause-value c =
    let text = c.args.text.now in
    let both = and_parts (are_digits (size_place text)) (are_digits (start_place text)) (sym (digits-both text c.requires) ∙ sym c.if-not-are_digits.ensures) in
    let tag : is_tag (tag_place text) ≡ true = ap is_tag (tag_place-reads text c.requires) ∙ sym c.if-not-are_alphanumeric.ensures in
    sym (entry_of-kept text both.0 both.1 tag ∙ ap Ok (entry_at-is text c.number_of.result c.number_of-2.result c.requires c.number_of.ensures.value c.number_of-2.ensures.value))

pub returns-clause-spelled : goal.returns-clause-spelled
returns-clause-spelled c =
    let text = c.args.text.now in
    let both = and_parts (are_digits (size_place text)) (are_digits (start_place text)) (sym (digits-both text c.requires) ∙ sym c.if-not-are_digits.ensures) in
    entry_text-at text c.requires both.0 both.1
    ∙ ap entry_text (entry_at-is text c.number_of.result c.number_of-2.result c.requires c.number_of.ensures.value c.number_of-2.ensures.value)
