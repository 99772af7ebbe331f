-- What is told of a turn: the lines of a notice.
use Rattle.std.specs.Prelude.{ℕ, List, ◌∷◌, ◌++◌, map, find, codes, Option, Some, None}
use Rattle.std.specs.Option.{option_map}
use Rattle.std.specs.List.{flat_map}
use Rattle.union_base.specs.SortedLists.{has}
use Rattle.union_base.specs.declared.record_id.RecordId.{RecordId}
use Rattle.union_base.specs.RecordIds.{id_cmp}
use Rattle.workset_keys.specs.WorkKeys.{own_name}
use Rattle.catalogue_editions.specs.Ids.{least}
use Rattle.catalogue_editions.specs.declared.edition.Edition.{Edition}

-- the least contributor of the edition that has the contributor
abbrev pub name_in : List Edition → RecordId → Option RecordId
name_in editions id = option_map least (find (λ e. has id_cmp e.content.contributors id) editions)

-- where a contributor stands on the other side of the turn: the word and the edition's name, or the other word where it stands
-- nowhere
abbrev pub end_by : List ℕ → List ℕ → Option RecordId → List ℕ
end_by word alone (Some id) = word ++ own_name id
end_by word alone None = alone

-- the line of an edition, and one for each of its contributors
abbrev pub edition_lines : List ℕ → List ℕ → List ℕ → (RecordId → Option RecordId) → Edition → List (List ℕ)
edition_lines head word alone named e =
    (head ++ own_name (least e)) ∷ map (λ id. codes " " ++ own_name id ++ end_by word alone (named id)) e.content.contributors

-- the notice of a turn that closed and opened these editions, where these editions stood before it, and those stand after it
abbrev pub notice_lines : List Edition → List Edition → List Edition → List Edition → List (List ℕ)
notice_lines before after closed opened =
    flat_map (edition_lines (codes "closed ") (codes " to ") (codes " gone") (name_in after)) closed
    ++ flat_map (edition_lines (codes "opened ") (codes " from ") (codes " new") (name_in before)) opened
