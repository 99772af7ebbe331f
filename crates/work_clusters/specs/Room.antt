-- Works with the room that is ready in them, and how much room a change takes.
use Rattle.std.specs.Prelude.{ℕ, ◌≤◌, List, count_by, unwrap_or}
use Rattle.std.specs.Map.{lookup}
use Rattle.union_base.specs.declared.record_id.RecordId.{RecordId}
use Rattle.work_clusters.specs.Works.{is_key}

-- works in the order of their keys, each with its ids; and beside them how many ids can enter under a key with no memory
pub record WorkMap : Type 0 where
  pub works : List (List ℕ × List RecordId)
  pub room : List (List ℕ × ℕ)

-- how many ids can enter under the key with no memory
abbrev pub room_under : List (List ℕ × ℕ) → List ℕ → ℕ
room_under room key = unwrap_or (lookup (is_key key) room) 0

-- there is room for the pairs: under each key, for as many ids as they bring there
abbrev pub HasRoomForPairs : List (List ℕ × ℕ) → List (List ℕ × RecordId) → Type 0
HasRoomForPairs room come = (key : List ℕ) → count_by (λ p. is_key key p.0) come ≤ room_under room key
