-- A value by which records match, the record of an edition that brings it, and the field that gives it to that record.
use Rattle.std.specs.Prelude.{ℕ, ◌&&◌, Bool, List, Option, Some, None, find}
use Rattle.union_base.specs.SortedLists.{has}
use Rattle.union_base.specs.declared.field.Field.{Field}
use Rattle.match_features.specs.Kept.{texts_cmp, pairs_cmp}
use Rattle.match_features.specs.declared.features.Features.{Features}
use Rattle.field_merge.specs.declared.content.Content.{Content}
use Rattle.catalogue_editions.specs.Ids.{least}
use Rattle.catalogue_editions.specs.declared.edition.Edition.{Edition}
use Rattle.edition_derivations.specs.Steps.{holds}
use Rattle.edition_sources.specs.GivingFields.{number_field, isbn_field, issn_field, name_field}
use Rattle.edition_sources.specs.declared.values.Value.{Value as ValueInPlace}
use Rattle.edition_sources.specs.declared.values.Value.TheVariants.{Control as ControlInPlace, Isbn as IsbnInPlace, Issn as IssnInPlace, Title as TitleInPlace, Date as DateInPlace, Name as NameInPlace, Kind as KindInPlace}

-- a control number with its source, an ISBN, an ISSN, a title, a date, a name, or a type of record with its bibliographic level
pub data Value : Type 0 where
  Control : (pair : List ℕ × List ℕ) → Value
  Isbn : (isbn : List ℕ) → Value
  Issn : (issn : List ℕ) → Value
  Title : (title : List ℕ) → Value
  Date : (date : List ℕ) → Value
  Name : (name : List ℕ) → Value
  Kind : (kind : List ℕ) → Value

-- what the code's value stands for
abbrev pub value_meaning : ValueInPlace → Value
value_meaning (ControlInPlace pair) = Control pair.now
value_meaning (IsbnInPlace isbn) = Isbn isbn.now
value_meaning (IssnInPlace issn) = Issn issn.now
value_meaning (TitleInPlace title) = Title title.now
value_meaning (DateInPlace date) = Date date.now
value_meaning (NameInPlace name) = Name name.now
value_meaning (KindInPlace kind) = Kind kind.now

-- whether the value is among the features
abbrev pub is_in : Value → Features → Bool
is_in (Control pair) f = has pairs_cmp f.control pair
is_in (Isbn isbn) f = has texts_cmp f.isbns isbn
is_in (Issn issn) f = has texts_cmp f.issns issn
is_in (Title title) f = has texts_cmp f.titles title
is_in (Date date) f = has texts_cmp f.dates date
is_in (Name name) f = has texts_cmp f.names name
is_in (Kind kind) f = has texts_cmp f.types kind

-- the record is one of the edition's, and has the value
abbrev pub brings : Value → Edition → Edition → Bool
brings value e r = is_in value r.features && holds e (least r)

-- the first of the edition's records that has the value
abbrev pub bearer : Value → List Edition → Edition → Option Edition
bearer value records e = find (brings value e) records

-- the field that gives a record the value: none where that is its 001, its 008 or its leader
abbrev pub field_with : Value → Content → Option Field
field_with (Control pair) c = number_field pair c
field_with (Isbn isbn) c = isbn_field isbn c
field_with (Issn issn) c = issn_field issn c
field_with (Title title) c = Some c.f245.field
field_with (Date date) c = None
field_with (Name name) c = name_field c
field_with (Kind kind) c = None
