-- The edition of one record.
use Rattle.std.specs.Prelude.{◌≡◌, ℕ, Bool, true, false, ◌++◌, IsTrue, List, Option, Some, None, refl}
use Rattle.std.specs.List.{flat_map}
use Rattle.marc_parts.specs.declared.marc_record.Record.{Record}
use Rattle.record_features.specs.Gathering.{assigned_pair, numbers_in, features}
use Rattle.field_merge.specs.Contents.{contributor, content}
use Rattle.catalogue_editions.specs.LinkedLaws.{linked-one}
use Rattle.record_editions.specs.RecordLaws.{is_loaded, sound_record}
use Rattle.catalogue_editions.specs.declared.edition.Edition.{Edition}

-- the edition has the features and, by the preference, the content of the library's record
pub record IsEditionOf (prefer : List (List ℕ)) (library : List ℕ) (r : Record) (e : Edition) : Type 0 where
  pub features : e.features ≡ features library r
  pub content : e.content ≡ content prefer library r

-- the value, where the test holds
abbrev pub where_true : {A : Type 0} → (b : Bool) → (b ≡ true → A) → Option A
where_true true value = Some (value refl)
where_true false value = None

-- the edition of one record that can be loaded
abbrev pub edition_made : (prefer : List (List ℕ)) (library : List ℕ) (r : Record) → IsTrue (is_loaded library r) → Edition
edition_made prefer library r loaded = record {
  features = features library r;
  content = content prefer library r;
  linked = linked-one (contributor library r) (assigned_pair r ++ flat_map numbers_in r.fields);
  sound = sound_record prefer library r loaded;
}

-- the edition of the library's record by the preference, where it can be loaded
abbrev pub edition : List (List ℕ) → List ℕ → Record → Option Edition
edition prefer library r = where_true (is_loaded library r) (edition_made prefer library r)
