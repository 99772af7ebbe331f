use Rattle.std.proofs.Common.{refl}
use Rattle.union_base.specs.Fields.{is_text_byte}
use Rattle.union_trial.proofs.Digits.{digit-text, fixed-all}
use Rattle.union_trial.proofs.records.fixed_field.Goals as goal

pub control_field-requires : goal.control_field-requires
control_field-requires c = rw c.fixed_text.ensures (fixed-all is_text_byte digit-text refl refl c.args.draws.now.year)

pub returns : goal.returns
returns c = rw c.fixed_text.ensures at c.control_field.ensures
