-- Ids of records as the keys of a table.
use Rattle.std.proofs.Common.{◌≡◌, IsTrue, ap}
use Rattle.std.specs.Prelude.{ℕ, List, [], ◌∷◌}
use Rattle.std.specs.BTreeMap.{is_at}
use Rattle.union_base.specs.declared.record_id.RecordId.{RecordId}
use Rattle.union_base.specs.RecordIds.{id_cmp}
use Rattle.record_homes.proofs.MapLaws.{one-id}

-- what is hashed of an id
abbrev pub hash_input : RecordId → List (List ℕ)
hash_input id = id.library ∷ id.control ∷ []

-- it is the same of ids that compare equal
pub same_input : (x y : RecordId) → IsTrue (is_at (id_cmp x) y) → hash_input x ≡ hash_input y
same_input x y same = ap hash_input (one-id x y same)
