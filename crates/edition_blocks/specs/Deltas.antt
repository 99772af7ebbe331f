-- What two lists of editions differ in.
use Rattle.std.specs.Prelude.{◌↔◌, IsTrue, List, Contains}
use Rattle.union_base.specs.SortedLists.{is_ascending}
use Rattle.catalogue_editions.specs.Ids.{edition_cmp}
use Rattle.catalogue_editions.specs.declared.edition.Edition.{Edition}

-- the members of one list of editions that are no members of the other, in order of their least contributors
pub record AreOnlyIn (one other found : List Edition) : Type 0 where
  pub members : (e : Edition) → Contains found e ↔ (Contains one e × (Contains other e → ⊥))
  pub ascending : IsTrue (is_ascending edition_cmp found)

-- the editions that were closed are those of the list before that are not in the list after, and the opened ones the other way round
pub record IsDelta (before after gone come : List Edition) : Type 0 where
  pub closed : AreOnlyIn before after gone
  pub opened : AreOnlyIn after before come
