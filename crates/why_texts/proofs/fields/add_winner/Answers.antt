use Rattle.std.proofs.Common.{refl}
use Rattle.why_texts.specs.Fields.{winner_text}
use Rattle.why_texts.proofs.fields.add_winner.Goals as goal

pub returns : goal.returns
unfolding winner_text
returns c = rw (c.in_ok-add_line.ensures, c.field-field.ensures) refl
