use Rattle.std.proofs.Common.{ap}
use Rattle.union_keys.specs.Tables.{key_number}
use Rattle.union_keys.proofs.laws.equal_keys_have_equal_numbers.Goals as goal

pub returns : goal.returns
returns c a b same = ap key_number same
