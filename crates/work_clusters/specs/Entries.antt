-- Works as they are kept: a work under each key, in the order of the keys. A work with no ids counts as absent.
use Rattle.std.specs.Prelude.{◌≡◌, ℕ, true, List, length, map, filter}
use Rattle.std.specs.List.{list_all}
use Rattle.union_base.specs.SortedLists.{is_ascending}
use Rattle.union_base.specs.declared.record_id.RecordId.{RecordId}
use Rattle.work_clusters.specs.Works.{key_cmp, keys_of, some}
use Rattle.union_base.specs.RecordIds.{id_cmp}

-- a work: the ids of its editions, and how many more can enter with no memory
pub record Kept : Type 0 where
  pub ids : List RecordId
  pub room : ℕ

-- what f says of each work, by key
abbrev pub by_key : {X : Type 0} → (Kept → X) → List (List ℕ × Kept) → List (List ℕ × X)
by_key f entries = map (λ entry. (entry.0, f entry.1)) entries

-- the keys and ids of the entries
abbrev pub listed : List (List ℕ × Kept) → List (List ℕ × List RecordId)
listed entries = by_key (λ work. work.ids) entries

-- the works: keys and ids of the entries that have ids
abbrev pub works_in : List (List ℕ × Kept) → List (List ℕ × List RecordId)
works_in entries = filter (λ work. some work.1) (listed entries)

-- the room of each entry
abbrev pub room_in : List (List ℕ × Kept) → List (List ℕ × ℕ)
room_in entries = by_key (λ work. work.room) entries

-- the keys ascend, and so do the ids of each entry
pub record AreEntries (entries : List (List ℕ × Kept)) : Type 0 where
  pub keys : is_ascending key_cmp (keys_of (listed entries)) ≡ true
  pub ids : list_all (λ work. is_ascending id_cmp work.1) (listed entries) ≡ true

-- the entries are in order, and the number is that of those with ids
pub record AreCounted (entries : List (List ℕ × Kept)) (filled : ℕ) : Type 0 where
  pub well : AreEntries entries
  pub count : filled ≡ length (works_in entries)
