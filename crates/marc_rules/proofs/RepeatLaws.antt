-- The place at which a field is one too many.
use Rattle.std.proofs.Common.{◌≡◌, ℕ, suc, Bool, true, false, not, List, [], ◌∷◌, ◌++◌, refl, sym, ◌∙◌, ap, arith, None, Some}
use Rattle.std.specs.Prelude.{◌↔◌, ◌==◌, Option, if◌then◌else◌}
use Rattle.std.specs.List.{list_any}
use Rattle.std.specs.Option.{option_map_or}
use Rattle.std.proofs.lemmas.Bool.{eqb-true}
use Rattle.std.proofs.lemmas.Bool.Decides.{nat_tests}
use Rattle.marc_leader.specs.declared.entry.Entry.{Entry}
use Rattle.marc_fields.specs.Places.{IsLeast}
use Rattle.marc_fields.proofs.PlaceLaws.{first_amiss, IsAmissAt, amiss-least, least-amiss}
use Rattle.marc_fields.proofs.TilingPlaces.{member-passes, passes-member}
use Rattle.marc_rules.specs.declared.required_fields.SingleClass.{SingleClass}
use Rattle.marc_rules.specs.declared.required_fields.SingleClass.TheVariants.{NumberSource, LatestChange, CongressNumber, CatalogingSource, UniformTitle, MainEntry}
use Rattle.marc_rules.proofs.RequiredLaws.{repeats-class, repeats-none}
use Rattle.marc_rules.specs.RequiredFields.{class_of, number_of, is_of, repeats, repeated_from}
use Rattle.marc_rules.specs.Repeats.{IsRepeatedAt}

-- the entry is not one too many
abbrev is_single : List Entry → Entry → Bool
is_single earlier e = not (repeats earlier e)

turned : {A : Type 0} (b : Bool) (x y : A) → (if b then x else y) ≡ (if not b then y else x)
turned true x y = refl
turned false x y = refl

walk : (earlier : List Entry) (i : ℕ) (entries : List Entry) → repeated_from earlier i entries ≡ first_amiss is_single earlier i entries
walk earlier i [] = refl
walk earlier i (e ∷ entries) =
    turned (repeats earlier e) (Some i) (repeated_from (earlier ++ e ∷ []) (suc i) entries)
    ∙ ap (λ o. if is_single earlier e then o else Some i) (walk (earlier ++ e ∷ []) (suc i) entries)

-- the class of that number
abbrev class_at : ℕ → SingleClass
class_at n =
    (if n == 0 then NumberSource
    else (if n == 1 then LatestChange
    else (if n == 2 then CongressNumber else (if n == 3 then CatalogingSource else (if n == 4 then UniformTitle else MainEntry)))))

class_at-number : (class : SingleClass) → class_at (number_of class) ≡ class
class_at-number NumberSource = refl
class_at-number LatestChange = refl
class_at-number CongressNumber = refl
class_at-number CatalogingSource = refl
class_at-number UniformTitle = refl
class_at-number MainEntry = refl

-- classes of one number are one
same-number : (one two : SingleClass) → (number_of one == number_of two) ≡ true → one ≡ two
same-number one two h =
    sym (class_at-number one) ∙ (ap class_at (eqb-true (number_of one) (number_of two) h) ∙ class_at-number two)

-- an entry is of the class that its tag has
of-class : (class : SingleClass) (e : Entry) (mine : Option SingleClass) → class_of e.tag ≡ mine → is_of class e ≡ true → class_of e.tag ≡ Some class
of-class class e None is of = absurd-none (sym (ap (λ o. option_map_or (λ (other : SingleClass). number_of other == number_of class) o false) is) ∙ of)
  where
    absurd-none : false ≡ true → class_of e.tag ≡ Some class
    absurd-none h = cc
of-class class e (Some mine) is of =
    is ∙ ap Some (same-number mine class (sym (ap (λ o. option_map_or (λ (other : SingleClass). number_of other == number_of class) o false) is) ∙ of))

alike : (n : ℕ) → (n == n) ≡ true
alike n = grind (arith, nat_tests)

class-of : (class : SingleClass) (e : Entry) → class_of e.tag ≡ Some class → is_of class e ≡ true
class-of class e is =
    ap (λ o. option_map_or (λ (other : SingleClass). number_of other == number_of class) o false) is ∙ alike (number_of class)

turned_true : (b : Bool) → not b ≡ false → b ≡ true
turned_true true h = refl
turned_true false h = cc

amiss-repeated : (entries : List Entry) (place : ℕ) → IsAmissAt is_single entries place → IsRepeatedAt entries place
amiss-repeated entries place a = of (class_of a.value.tag) refl
  where
    repeated : repeats a.earlier a.value ≡ true
    repeated = turned_true (repeats a.earlier a.value) a.amiss

    of : (mine : Option SingleClass) → class_of a.value.tag ≡ mine → IsRepeatedAt entries place
    of None is = absurd-none (sym (repeats-none a.earlier a.value is) ∙ repeated)
      where
        absurd-none : false ≡ true → IsRepeatedAt entries place
        absurd-none h = cc
    of (Some class) is =
        let other = member-passes (is_of class) a.earlier (sym (repeats-class a.earlier a.value class is) ∙ repeated) in record {
          earlier = a.earlier;
          entry = a.value;
          at = record { later = a.later; parts = a.parts; counted = a.counted };
          class = class;
          of = is;
          other = other.0;
          stands = other.1;
          same = of-class class other.0 (class_of other.0.tag) refl other.2;
        }

repeated-amiss : (entries : List Entry) (place : ℕ) → IsRepeatedAt entries place → IsAmissAt is_single entries place
repeated-amiss entries place r =
    let seen : list_any (is_of r.class) r.earlier ≡ true
    = passes-member (is_of r.class) r.earlier r.other r.stands.0 r.stands.1 r.stands.2 (class-of r.class r.other r.same) in record {
      earlier = r.earlier;
      value = r.entry;
      later = r.at.later;
      parts = r.at.parts;
      counted = r.at.counted;
      amiss = ap not (repeats-class r.earlier r.entry r.class r.of ∙ seen);
    }

pub repeated-least : (entries : List Entry) (place : ℕ) → (repeated_from [] 1 entries ≡ Some place) ↔ IsLeast (IsRepeatedAt entries) place
repeated-least entries place = (forth, back)
  where
    forth : repeated_from [] 1 entries ≡ Some place → IsLeast (IsRepeatedAt entries) place
    forth is =
        let least = amiss-least is_single entries place (sym (walk [] 1 entries) ∙ is) in record {
          here = amiss-repeated entries place least.here;
          before = λ other less r. least.before other less (repeated-amiss entries other r);
        }

    back : IsLeast (IsRepeatedAt entries) place → repeated_from [] 1 entries ≡ Some place
    back least =
        walk [] 1 entries ∙ least-amiss is_single entries place (record {
          here = repeated-amiss entries place least.here;
          before = λ other less a. least.before other less (amiss-repeated entries other a);
        })
