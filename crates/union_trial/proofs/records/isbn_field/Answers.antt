use Rattle.std.proofs.Common.{true, refl}
use Rattle.union_base.specs.Both.{true_both}
use Rattle.union_base.specs.Fields.{is_text_byte, is_text}
use Rattle.union_trial.specs.TrialRecords.{isbn_text}
use Rattle.union_trial.proofs.Digits.{digit-text, isbn-all}
use Rattle.union_trial.proofs.records.isbn_field.Goals as goal

pub text_field-requires : goal.text_field-requires
text_field-requires c =
    rw c.isbn_text.ensures (true_both (is_text (isbn_text c.args.draws.now.number)) true (isbn-all is_text_byte digit-text refl c.args.draws.now.number) refl)

pub returns : goal.returns
returns c = rw c.isbn_text.ensures at c.text_field.ensures
