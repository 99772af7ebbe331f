-- The edition of a record is told by its features and its content.
use Rattle.std.proofs.Common.{◌≡◌, ℕ, Bool, true, false, IsTrue, List, refl, sym, ap}
use Rattle.std.specs.Prelude.{Some}
use Rattle.marc_parts.specs.declared.marc_record.Record.{Record}
use Rattle.record_editions.specs.RecordLaws.{is_loaded}
use Rattle.record_editions.specs.Records.{IsEditionOf, where_true, edition_made, edition}
use Rattle.catalogue_editions.specs.Equal.{same_editions}
use Rattle.catalogue_editions.specs.declared.edition.Edition.{Edition}

where_true-some : {A : Type 0} (b : Bool) (value : b ≡ true → A) (x : A) → ((h : b ≡ true) → value h ≡ x) → b ≡ true → where_true b value ≡ Some x
where_true-some true value x same h = ap Some (same refl)
where_true-some false value x same h = cc

-- what has the parts of a record's edition is that edition
pub edition-is : (prefer : List (List ℕ)) (library : List ℕ) (r : Record) (e : Edition) → IsTrue (is_loaded library r) → IsEditionOf prefer library r e
    → edition prefer library r ≡ Some e
edition-is prefer library r e loaded is =
    where_true-some (is_loaded library r) (edition_made prefer library r) e
    (λ h. same_editions (edition_made prefer library r h) e (sym is.features) (sym is.content)) loaded
