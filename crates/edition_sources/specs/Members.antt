-- What an edition shows is its records': of what it shows once the greatest, and all of their other fields.
use Rattle.std.specs.Prelude.{◌≡◌, List, filter, Contains}
use Rattle.std.specs.Option.{option_cmp}
use Rattle.union_base.specs.declared.field.Field.{Field}
use Rattle.field_merge.specs.Merging.{greater}
use Rattle.field_merge.specs.Orders.{slot_cmp, fixed_cmp}
use Rattle.field_merge.specs.declared.content.Content.{Content}
use Rattle.catalogue_editions.specs.Matching.{match}
use Rattle.catalogue_editions.specs.declared.edition.Edition.{Edition}

-- of the records of a resolution, those of one of its editions: they match it
abbrev pub members : List Edition → Edition → List Edition
members records e = filter (λ r. match r e) records

-- the content of one of the records has the property
abbrev pub SomeHas : List Edition → (Content → Type 0) → Type 0
SomeHas records P = (r : Edition) × Contains records r × P r.content

-- each part of the content is one of the records'
pub record IsOfRecords (records : List Edition) (c : Content) : Type 0 where
  pub fixed : SomeHas records (λ d. d.fixed ≡ c.fixed)
  pub f005 : SomeHas records (λ d. d.f005 ≡ c.f005)
  pub f010 : SomeHas records (λ d. d.f010 ≡ c.f010)
  pub f040 : SomeHas records (λ d. d.f040 ≡ c.f040)
  pub f1xx : SomeHas records (λ d. d.f1xx ≡ c.f1xx)
  pub f240 : SomeHas records (λ d. d.f240 ≡ c.f240)
  pub f245 : SomeHas records (λ d. d.f245 ≡ c.f245)
  pub united : (f : Field) → Contains c.united f → SomeHas records (λ d. Contains d.united f)

-- nothing of which one is shown is greater in the record's content than in the other, which has all its other fields
pub record IsShownIn (c d : Content) : Type 0 where
  pub fixed : greater fixed_cmp d.fixed c.fixed ≡ c.fixed
  pub f005 : greater (option_cmp slot_cmp) d.f005 c.f005 ≡ c.f005
  pub f010 : greater (option_cmp slot_cmp) d.f010 c.f010 ≡ c.f010
  pub f040 : greater (option_cmp slot_cmp) d.f040 c.f040 ≡ c.f040
  pub f1xx : greater (option_cmp slot_cmp) d.f1xx c.f1xx ≡ c.f1xx
  pub f240 : greater (option_cmp slot_cmp) d.f240 c.f240 ≡ c.f240
  pub f245 : greater slot_cmp d.f245 c.f245 ≡ c.f245
  pub united : (f : Field) → Contains d.united f → Contains c.united f
