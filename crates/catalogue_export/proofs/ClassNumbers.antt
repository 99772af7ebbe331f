-- The classes of fields of which one may stand, by number, so that they can be counted.
use Rattle.std.proofs.Common.{◌≡◌, ℕ, suc, Bool, true, false, ◌||◌, List, [], ◌∷◌, codes, refl, sym, ◌∙◌, ap, arith, None, Some}
use Rattle.std.specs.Prelude.{◌==◌, Option, if◌then◌else◌}
use Rattle.std.specs.List.{list_any}
use Rattle.std.specs.Option.{option_map_or}
use Rattle.std.proofs.lemmas.Bool.Decides.{nat_tests}
use Rattle.marc_leader.specs.declared.entry.Entry.{Entry}
use Rattle.marc_rules.specs.declared.required_fields.SingleClass.{SingleClass}
use Rattle.marc_rules.specs.declared.required_fields.SingleClass.TheVariants.{NumberSource, LatestChange, CongressNumber, CatalogingSource, UniformTitle, MainEntry}
use Rattle.marc_rules.specs.RequiredFields.{is_same, class_of, number_of, is_of, repeats}
use Rattle.marc_rules.proofs.RequiredLaws.{repeats-class, repeats-none}

-- the number of the class of that tag, counted from 1; 0 where it has none
abbrev pub class_number : List ℕ → ℕ
class_number tag =
    (if is_same tag (codes "003") then 1
    else (if is_same tag (codes "005") then 2
    else (if is_same tag (codes "010") then 3
    else (if is_same tag (codes "040") then 4
    else (if is_same tag (codes "240") then 5
    else (if ((is_same tag (codes "100") || is_same tag (codes "110")) || is_same tag (codes "111"))
    || is_same tag (codes "130") then 6 else 0))))))

-- the number of a class, where there is one
abbrev numbered : Option SingleClass → ℕ
numbered None = 0
numbered (Some class) = suc (number_of class)

-- the number of the class that the tag has
is-numbered : (tag : List ℕ) → numbered (class_of tag) ≡ class_number tag
is-numbered tag =
    of (is_same tag (codes "003")) (is_same tag (codes "005")) (is_same tag (codes "010")) (is_same tag (codes "040")) (is_same tag (codes "240"))
    (((is_same tag (codes "100") || is_same tag (codes "110")) || is_same tag (codes "111")) || is_same tag (codes "130"))
  where
    of : (a b c d e m : Bool)
        → numbered (if a then Some NumberSource else (if b then Some LatestChange else (if c then Some CongressNumber
        else (if d then Some CatalogingSource else (if e then Some UniformTitle else (if m then Some MainEntry else None))))))
        ≡ (if a then 1 else (if b then 2 else (if c then 3 else (if d then 4 else (if e then 5 else (if m then 6 else 0))))))
    of true b c d e m = refl
    of false true c d e m = refl
    of false false true d e m = refl
    of false false false true e m = refl
    of false false false false true m = refl
    of false false false false false true = refl
    of false false false false false false = refl

no_zero : (n : ℕ) → (0 == suc n) ≡ false
no_zero n = grind (arith, nat_tests)

less_one : (m n : ℕ) → (suc m == suc n) ≡ (m == n)
less_one m n = grind (arith, nat_tests)

-- an entry is of a class where its tag has the class's number
of-number : (class : SingleClass) (d : Entry) → is_of class d ≡ (class_number d.tag == suc (number_of class))
of-number class d = of (class_of d.tag) ∙ ap (λ n. n == suc (number_of class)) (is-numbered d.tag)
  where
    of : (mine : Option SingleClass)
        → option_map_or (λ (other : SingleClass). number_of other == number_of class) mine false ≡ (numbered mine == suc (number_of class))
    of None = sym (no_zero (number_of class))
    of (Some other) = sym (less_one (number_of other) (number_of class))

-- some entry is of a class where some entry's tag has its number
any-number : (class : SingleClass) (earlier : List Entry)
    → list_any (is_of class) earlier ≡ list_any (λ (d : Entry). class_number d.tag == suc (number_of class)) earlier
any-number class [] = refl
any-number class (d ∷ earlier) =
    ap (λ b. b || list_any (is_of class) earlier) (of-number class d)
    ∙ ap (λ b. (class_number d.tag == suc (number_of class)) || b) (any-number class earlier)

-- an entry repeats none where no earlier one has the number of its class
pub fresh-class : (earlier : List Entry) (e : Entry)
    → ((class_number e.tag ≡ 0 → ⊥) → list_any (λ (d : Entry). class_number d.tag == class_number e.tag) earlier ≡ false)
    → repeats earlier e ≡ false
fresh-class earlier e none = of (class_of e.tag) refl
  where
    of : (mine : Option SingleClass) → class_of e.tag ≡ mine → repeats earlier e ≡ false
    of None is = repeats-none earlier e is
    of (Some class) is =
        let number : class_number e.tag ≡ suc (number_of class) = sym (is-numbered e.tag) ∙ ap numbered is in
        let unseen = none (λ zero_is. omega (arith, number)) in
        repeats-class earlier e class is
        ∙ (any-number class earlier ∙ (ap (λ n. list_any (λ (d : Entry). class_number d.tag == n) earlier) (sym number) ∙ unseen))
