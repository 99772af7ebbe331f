-- The id by which an edition is named, and the order of editions.
use Rattle.std.specs.Prelude.{Bool, List, [], ◌∷◌}
use Rattle.std.specs.declared.cmp.Ordering.{Ordering}
use Rattle.union_base.specs.declared.record_id.RecordId.{RecordId}
use Rattle.union_base.specs.SortedLists.{has}
use Rattle.union_base.specs.RecordIds.{id_cmp}
use Rattle.catalogue_editions.specs.declared.edition.Edition.{Edition}

-- the first of some ids; where there is none, an id without a library and a number
abbrev pub first_id : List RecordId → RecordId
first_id [] = record { library = []; control = [] }
first_id (id ∷ ids) = id

-- the least contributor; an edition has one
abbrev pub least : Edition → RecordId
least e = first_id e.content.contributors

-- editions are in order of their least contributors
abbrev pub edition_cmp : Edition → Edition → Ordering
edition_cmp x y = id_cmp (least x) (least y)

-- whether the record is among the edition's contributors
abbrev pub has_contributor : RecordId → Edition → Bool
has_contributor id e = has id_cmp e.content.contributors id
