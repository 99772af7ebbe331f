-- Works: the ids of editions by work key.
use Rattle.std.specs.Prelude.{◌≡◌, ℕ, Bool, not, true, false, ◌&&◌, ◌↔◌, ◌⊎◌, List, [], ◌∷◌, ◌++◌, map, filter, find, unwrap_or, Option, Some, None, Contains}
use Rattle.std.specs.declared.cmp.Ordering.{Ordering}
use Rattle.std.specs.Ordering.{nat_cmp, then_cmp, on, eq_by_cmp, is_lt}
use Rattle.std.specs.Cmp.Lexicographic.{slice_cmp}
use Rattle.std.specs.List.{flat_map, list_all}
use Rattle.std.specs.Map.{lookup}
use Rattle.union_base.specs.RecordIds.{id_cmp}
use Rattle.union_base.specs.SortedLists.{is_ascending, set_of, has}
use Rattle.union_base.specs.declared.record_id.RecordId.{RecordId}

-- work keys in the order of their bytes
abbrev pub key_cmp : List ℕ → List ℕ → Ordering
key_cmp = slice_cmp nat_cmp

-- pairs of a work key and an id: by key, then by id
abbrev pub pair_cmp : List ℕ × RecordId → List ℕ × RecordId → Ordering
pair_cmp = then_cmp (on (λ p. p.0) key_cmp) (on (λ p. p.1) id_cmp)

-- whether the texts are one key
abbrev pub is_key : List ℕ → List ℕ → Bool
is_key key other = eq_by_cmp key_cmp key other

-- the ids that stand with the key in the pairs, in ascending order
abbrev pub ids_with : List (List ℕ × RecordId) → List ℕ → List RecordId
ids_with pairs key = set_of id_cmp (map (λ p. p.1) (filter (λ p. is_key key p.0) pairs))

-- the keys of the pairs, in ascending order
abbrev pub keys_in : List (List ℕ × RecordId) → List (List ℕ)
keys_in pairs = set_of key_cmp (map (λ p. p.0) pairs)

-- the works of pairs: their keys in ascending order, each with the ids that stand with it, in ascending order
abbrev pub works_of : List (List ℕ × RecordId) → List (List ℕ × List RecordId)
works_of pairs = map (λ key. (key, ids_with pairs key)) (keys_in pairs)

-- the pairs of works: each key with each of its ids
abbrev pub pairs_of : List (List ℕ × List RecordId) → List (List ℕ × RecordId)
pairs_of works = flat_map (λ work. map (λ id. (work.0, id)) work.1) works

-- the pairs that are not among the gone ones
abbrev pub without : List (List ℕ × RecordId) → List (List ℕ × RecordId) → List (List ℕ × RecordId)
without gone pairs = filter (λ p. not (has pair_cmp gone p)) pairs

-- works after a change: the pairs of `gone` are removed, then those of `come` are added
abbrev pub changed : List (List ℕ × List RecordId) → List (List ℕ × RecordId) → List (List ℕ × RecordId) → List (List ℕ × List RecordId)
changed works gone come = works_of (without gone (pairs_of works) ++ come)

-- the ids under the key, none where the key is absent
abbrev pub ids_under : List (List ℕ × List RecordId) → List ℕ → List RecordId
ids_under works key = unwrap_or (lookup (is_key key) works) []

-- the keys of works, which ascend
abbrev pub keys_of : List (List ℕ × List RecordId) → List (List ℕ)
keys_of works = map (λ work. work.0) works

-- whether a key is above the given one, as every key is where none is given
abbrev pub is_above : Option (List ℕ) → List ℕ → Bool
is_above None key = true
is_above (Some given) key = is_lt (key_cmp given key)

-- the least key above the given one: the first, since keys ascend
abbrev pub key_after : List (List ℕ × List RecordId) → Option (List ℕ) → Option (List ℕ)
key_after works given = find (is_above given) (keys_of works)

-- whether a list has a member at all
abbrev pub some : {X : Type 0} → List X → Bool
some [] = false
some (x ∷ xs) = true

-- the keys ascend, and under each key stand some ids, in ascending order
pub record AreWorks (works : List (List ℕ × List RecordId)) : Type 0 where
  pub keys : is_ascending key_cmp (keys_of works) ≡ true
  pub ids : list_all (λ work. some work.1 && is_ascending id_cmp work.1) works ≡ true

-- the pairs after a change: those that were there and are not gone, and those that came
abbrev pub AreAfter : List (List ℕ × RecordId) → List (List ℕ × RecordId) → List (List ℕ × RecordId) → List (List ℕ × RecordId) → Type 0
AreAfter pairs gone come after = (p : List ℕ × RecordId) → Contains after p ↔ ((Contains pairs p × ¬ Contains gone p) ⊎ Contains come p)

-- the first of a list, if there is one
abbrev pub first_of_list : {X : Type 0} → List X → Option X
first_of_list [] = None
first_of_list (x ∷ xs) = Some x
