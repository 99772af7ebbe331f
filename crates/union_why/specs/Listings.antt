-- The list of the merged editions that deserve a look.
use Rattle.std.specs.Prelude.{ℕ, List}
use Rattle.catalogue_editions.specs.Resolutions.{IsOrderedResolution}
use Rattle.catalogue_editions.specs.declared.edition.Edition.{Edition}
use Rattle.edition_doubts.specs.Groups.{gathered}
use Rattle.doubt_texts.specs.Editions.{IsListing}
use Rattle.doubt_texts.specs.declared.form.Form.{Form}

-- the editions to which the records resolve are listed in order of their ids, each by the records that match it
pub record TellsDoubtful (form : Form) (records : List Edition) (text : List ℕ) : Type 0 where
  pub editions : List Edition
  pub resolved : IsOrderedResolution records editions
  pub told : IsListing form (gathered records editions) text
