-- What is asked of the editions of a catalogue, which stand in order of their least contributors.
use Rattle.std.specs.Prelude.{List, Option, find}
use Rattle.union_base.specs.declared.record_id.RecordId.{RecordId}
use Rattle.union_base.specs.SortedLists.{has}
use Rattle.union_base.specs.RecordIds.{id_cmp}
use Rattle.catalogue_editions.specs.declared.edition.Edition.{Edition}

-- the one that has that contributor
abbrev pub holder_of : List Edition → RecordId → Option Edition
holder_of editions id = find (λ e. has id_cmp e.content.contributors id) editions
