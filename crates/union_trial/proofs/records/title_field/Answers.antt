use Rattle.std.proofs.Common.{true, ◌++◌, refl}
use Rattle.std.specs.Prelude.{codes}
use Rattle.marc_leader.specs.Numeral.{numeral}
use Rattle.union_base.specs.Both.{true_both}
use Rattle.union_base.specs.Fields.{is_text_byte, is_text}
use Rattle.union_trial.proofs.Digits.{digit-text, named-all}
use Rattle.union_trial.proofs.records.title_field.Goals as goal

pub text_field-requires : goal.text_field-requires
text_field-requires c =
    let number = c.args.draws.now.title in
    rw c.title.ensures (true_both (is_text (codes "Title " ++ numeral 8 number)) true (named-all is_text_byte digit-text (codes "Title ") refl number) refl)

pub returns : goal.returns
returns c = rw c.title.ensures at c.text_field.ensures
