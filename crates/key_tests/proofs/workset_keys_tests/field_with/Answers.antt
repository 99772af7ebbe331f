use Rattle.std.proofs.Common.{subst, sym}
use Rattle.std.proofs.lemmas.Option.{same_Some}
use Rattle.union_base.specs.declared.field.Field.{Field}
use Rattle.workset_keys.specs.Names.{HasTexts}
use Rattle.key_tests.proofs.workset_keys_tests.field_with.Goals as goal

pub returns-then-starts_with : goal.returns-then-starts_with
returns-then-starts_with c =
    let here = subst (λ (f : Field). HasTexts f) (sym c.field-item.is) (c.requires c.loop-field.field-index c.field-item.result c.loop-field-test.true) in
    λ f e. subst (λ (g : Field). HasTexts g) (same_Some c.field-item.result f e) here
