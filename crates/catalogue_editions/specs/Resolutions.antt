-- The editions that a list of editions comes to.
use Rattle.std.specs.Prelude.{IsTrue, List}
use Rattle.union_base.specs.SortedLists.{is_ascending}
use Rattle.merge_laws.specs.Resolution.{IsResolution}
use Rattle.catalogue_editions.specs.Joining.{join}
use Rattle.catalogue_editions.specs.Matching.{match}
use Rattle.catalogue_editions.specs.Ids.{edition_cmp}
use Rattle.catalogue_editions.specs.declared.edition.Edition.{Edition}

-- the editions are the resolution of the list, in order of their least contributors
pub record IsOrderedResolution (list editions : List Edition) : Type 0 where
  pub resolved : IsResolution match join list editions
  pub ascending : IsTrue (is_ascending edition_cmp editions)
