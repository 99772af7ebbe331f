use Rattle.std.proofs.Common.{subst, sym}
use Rattle.union_base.specs.declared.field.Field.{Field}
use Rattle.workset_keys.specs.Names.{HasTexts}
use Rattle.record_features.proofs.gathering.gathered.Goals as goal

pub take-requires : goal.take-requires
take-requires c = subst (λ (f : Field). HasTexts f) (sym c.field-item.is) (c.requires c.loop-field.field-index c.field-item.result c.loop-field-test.true)
