use Rattle.std.proofs.Common.{All, subst, sym}
use Rattle.workset_keys.specs.Names.{HasTexts}
use Rattle.key_tests.proofs.workset_keys_tests.has_key.Goals as goal

pub key_of_fields-requires-clause-fields : goal.key_of_fields-requires-clause-fields
key_of_fields-requires-clause-fields c = subst (All HasTexts) (sym c.deref.ensures.value) c.in_ok-fields.ensures

pub key_of_fields-requires-clause-added : goal.key_of_fields-requires-clause-added
key_of_fields-requires-clause-added c = subst (All HasTexts) (sym c.deref-2.ensures.value) c.in_ok-added.ensures
