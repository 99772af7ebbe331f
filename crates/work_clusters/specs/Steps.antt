-- What a step of a change makes of works and their room.
use Rattle.std.specs.Prelude.{◌≡◌, ℕ, ◌+◌, ◌≤◌, not, ◌&&◌, ◌||◌, List, count_by}
use Rattle.union_base.specs.SortedLists.{has}
use Rattle.union_base.specs.declared.record_id.RecordId.{RecordId}
use Rattle.work_clusters.specs.Works.{pair_cmp, is_key, ids_under}
use Rattle.union_base.specs.RecordIds.{id_cmp}
use Rattle.work_clusters.specs.Room.{WorkMap, room_under}

-- the gone pairs leave, and no room is lost
pub record TakesOut (old new : WorkMap) (gone : List (List ℕ × RecordId)) : Type 0 where
  pub left : (q : List ℕ) (id : RecordId) → has id_cmp (ids_under new.works q) id ≡ (has id_cmp (ids_under old.works q) id && not (has pair_cmp gone (q, id)))
  pub room : (q : List ℕ) → room_under old.room q ≤ room_under new.room q

-- the come pairs enter, and take no more room than one place each
pub record PutsIn (old new : WorkMap) (come : List (List ℕ × RecordId)) : Type 0 where
  pub entered : (q : List ℕ) (id : RecordId) → has id_cmp (ids_under new.works q) id ≡ (has id_cmp (ids_under old.works q) id || has pair_cmp come (q, id))
  pub room : (q : List ℕ) → room_under old.room q ≤ room_under new.room q + count_by (λ p. is_key q p.0) come
