use Rattle.std.proofs.Common.{refl}
use Rattle.std.proofs.lemmas.Result.{IfOk-weaker}
use Rattle.merge_tests.proofs.counted_sets.CountedSetResolvable.sought_beside.Goals as goal

pub returns-clause-keys : goal.returns-clause-keys
returns-clause-keys c = IfOk-weaker c.sought_keys.result _ _ (λ keys had k. (had k).0) c.sought_keys.ensures.keys

pub returns-clause-whole : goal.returns-clause-whole
returns-clause-whole c = IfOk-weaker c.sought_keys.result _ _ (λ keys had x met apart. (0, (had 0).1 refl, refl)) c.sought_keys.ensures.keys
