use Rattle.std.proofs.Common.{subst, sym}
use Rattle.union_base.specs.declared.field.Field.{Field}
use Rattle.workset_keys.specs.Names.{HasTexts}
use Rattle.authority_names.proofs.authority.variants_in.Goals as goal

pub push_variant-requires : goal.push_variant-requires
push_variant-requires c = subst (λ (f : Field). HasTexts f) (sym c.field-item.is) (c.requires c.loop-field.field-index c.field-item.result c.loop-field-test.true)
