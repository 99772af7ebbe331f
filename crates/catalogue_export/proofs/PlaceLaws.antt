-- Where a field stands among fields in order of their tags.
use Rattle.std.proofs.Common.{◌≡◌, ℕ, suc, ◌+◌, ◌≤◌, Bool, true, false, ◌&&◌, List, [], ◌∷◌, length, refl, sym, ◌∙◌, ap, subst, arith, cond, inl, inr}
use Rattle.std.specs.Prelude.{◌==◌, codes, nat_lt, if◌then◌else◌}
use Rattle.std.specs.Ordering.{nat_cmp, is_lt, ordering_then}
use Rattle.std.specs.declared.cmp.Ordering.{Ordering}
use Rattle.std.specs.declared.cmp.Ordering.TheVariants.{Equal, Greater}
use Rattle.std.specs.Cmp.Lexicographic.{slice_cmp}
use Rattle.std.specs.List.{list_all}
use Rattle.std.proofs.lemmas.Bool.{and_parts, cases_eq, ne_eqb, le-ltb, eqb-true}
use Rattle.std.proofs.lemmas.Bool.Decides.{nat_tests}
use Rattle.std.proofs.lemmas.List.Sums.{sum_by-cons}
use Rattle.marc_leader.specs.declared.entry.Entry.{Entry}
use Rattle.union_base.specs.Fields.{is_tag, is_tag_byte, fits_tag}
use Rattle.union_base.specs.declared.field.Field.{Field}
use Rattle.marc_fields.specs.Spelling.{AreEntriesOf}
use Rattle.marc_parts.specs.Parts.{has_tag, how_many}
use Rattle.marc_rules.specs.RequiredFields.{is_same, places, tag_001}
use Rattle.catalogue_export.specs.TagOrder.{is_lower, put_by_tag, in_tag_order}
use Rattle.catalogue_export.proofs.CountLaws.{one_if, counted, counted-put}
use Rattle.catalogue_export.proofs.EntryLaws.{is_under, places-count}
use Rattle.catalogue_export.proofs.StableLaws.{Floor, Rising, Floor-lower, Rising-in_order}
use Rattle.catalogue_export.proofs.TagOrderLaws.{is_lower-order, in_tag_order-is}

-- a byte of a tag is no less than the digit 0
low_byte : (a : ℕ) → is_tag_byte a ≡ true → 48 ≤ a
low_byte a is = grind (arith, nat_tests)

zero_byte : (a : ℕ) (o : Ordering) (t : Bool) → 48 ≤ a → is_lt o ≡ t → is_lt (ordering_then (nat_cmp a 48) o) ≡ ((a == 48) && t)
zero_byte a o t low same = elim (cases_eq a 48) [
  | inl e ↦ subst (λ n. is_lt (ordering_then (nat_cmp n 48) o) ≡ ((n == 48) && t)) (sym e) same
  | inr other ↦
      let less : nat_lt a 48 ≡ false = le-ltb a 48 low in
      let differ : (a == 48) ≡ false = ne_eqb a 48 other in
      rw (less, differ) refl
]

last_byte : (a : ℕ) → 48 ≤ a → is_lt (ordering_then (nat_cmp a 49) Equal) ≡ ((a == 48) && true)
last_byte a low = elim (cases_eq a 48) [
  | inl e ↦ subst (λ n. is_lt (ordering_then (nat_cmp n 49) Equal) ≡ ((n == 48) && true)) (sym e) refl
  | inr other ↦
      let high : 49 ≤ a = omega arith in
      let less : nat_lt a 49 ≡ false = le-ltb a 49 high in
      let differ : (a == 48) ≡ false = ne_eqb a 48 other in
      rw (less, differ) (elim (a == 49) as (λ r. is_lt (ordering_then (cond r Equal Greater) Equal) ≡ false) [
        | true ↦ refl
        | false ↦ refl
      ])
]

-- the one tag below 001 is 000
below_001 : (tag : List ℕ) → is_tag tag ≡ true → is_lt (slice_cmp nat_cmp tag tag_001) ≡ is_same tag (codes "000")
below_001 [] is = cc
below_001 (a ∷ []) is = cc
below_001 (a ∷ b ∷ []) is = cc
below_001 (a ∷ b ∷ c ∷ []) is =
    let all = and_parts (is_tag_byte a) (list_all is_tag_byte (b ∷ c ∷ [])) is in
    let two = and_parts (is_tag_byte b) (list_all is_tag_byte (c ∷ [])) all.1 in
    let three = and_parts (is_tag_byte c) true two.1 in
    zero_byte a (slice_cmp nat_cmp (b ∷ c ∷ []) (0x30 ∷ 0x31 ∷ [])) (is_same (b ∷ c ∷ []) (0x30 ∷ 0x30 ∷ [])) (low_byte a all.0)
    (zero_byte b (slice_cmp nat_cmp (c ∷ []) (0x31 ∷ [])) (is_same (c ∷ []) (0x30 ∷ [])) (low_byte b two.0) (last_byte c (low_byte c three.0)))
below_001 (a ∷ b ∷ c ∷ d ∷ rest) is =
    let size : length (a ∷ b ∷ c ∷ d ∷ rest) ≡ 3 = eqb-true _ _ (and_parts (length (a ∷ b ∷ c ∷ d ∷ rest) == 3) (list_all is_tag_byte (a ∷ b ∷ c ∷ d ∷ rest)) is).0 in
    absurd (omega arith)

-- how many of the fields at the beginning of a list are lower than that one
abbrev pub lead : Field → List Field → ℕ
lead f [] = 0
lead f (g ∷ fields) = (if is_lower g f then suc (lead f fields) else 0)

zero_parts : (b : Bool) (n : ℕ) → one_if b + n ≡ 0 → (b ≡ false) × (n ≡ 0)
zero_parts true n none = absurd (omega arith)
zero_parts false n none = (refl, omega arith)

module _ (tag bytes : List ℕ) where
  no_places : (i : ℕ) (entries : List Entry) (fields : List Field) → AreEntriesOf bytes entries fields → counted (is_under tag) fields ≡ 0 → places tag i entries ≡ []
  no_places i entries fields are none = empty (places tag i entries) (sym (places-count tag bytes i entries fields are) ∙ none)
    where
      empty : (xs : List ℕ) → length xs ≡ 0 → xs ≡ []
      empty [] e = refl
      empty (x ∷ xs) e = absurd (omega arith)

  later_entry : (i : ℕ) (entries : List Entry) (g : Field) (fields : List Field) (ps : List ℕ) → AreEntriesOf bytes entries (g ∷ fields) → is_under tag g ≡ false
      → ((es : List Entry) → AreEntriesOf bytes es fields → places tag (suc i) es ≡ ps) → places tag i entries ≡ ps
  later_entry i [] g fields ps are other next = absurd are
  later_entry i (e ∷ entries) g fields ps are other next =
      let here : is_same e.tag tag ≡ false = ap (λ t. is_same t tag) are.0.tag ∙ other in
      rw here (next entries are.1)

  this_entry : (i : ℕ) (entries : List Entry) (f : Field) (fields : List Field) → AreEntriesOf bytes entries (f ∷ fields) → is_under tag f ≡ true
      → counted (is_under tag) fields ≡ 0 → places tag i entries ≡ i ∷ []
  this_entry i [] f fields are is none = absurd are
  this_entry i (e ∷ entries) f fields are is none =
      let here : is_same e.tag tag ≡ true = ap (λ t. is_same t tag) are.0.tag ∙ is in
      rw here (ap (λ ps. i ∷ ps) (no_places (suc i) entries fields are.1 none))

  -- the only field with its tag stands after those that are lower
  pub place-put : (i : ℕ) (entries : List Entry) (f : Field) (fields : List Field) → is_under tag f ≡ true → counted (is_under tag) fields ≡ 0
      → AreEntriesOf bytes entries (put_by_tag f fields) → places tag i entries ≡ (i + lead f fields) ∷ []
  place-put i entries f [] is none are = this_entry i entries f [] are is refl ∙ ap (λ n. n ∷ []) (same i)
    where
      same : (n : ℕ) → n ≡ n + 0
      same n = omega arith
  place-put i entries f (g ∷ fields) is none are =
      let rest = zero_parts (is_under tag g) (counted (is_under tag) fields) none in
      elim (is_lower g f) as (λ r. AreEntriesOf bytes entries (if r then g ∷ put_by_tag f fields else f ∷ g ∷ fields)
      → places tag i entries ≡ (i + (if r then suc (lead f fields) else 0)) ∷ []) [
        | true ↦ λ lie. later_entry i entries g (put_by_tag f fields) ((i + suc (lead f fields)) ∷ []) lie rest.0
            (λ es more. place-put (suc i) es f fields is rest.1 more ∙ ap (λ n. n ∷ []) (moved i (lead f fields)))
        | false ↦ λ lie. this_entry i entries f (g ∷ fields) lie is none ∙ ap (λ n. n ∷ []) (same i)
      ] are
    where
      moved : (m n : ℕ) → suc m + n ≡ m + suc n
      moved m n = omega arith

      same : (n : ℕ) → n ≡ n + 0
      same n = omega arith

-- fields of one tag, by std's count
how_many-counted : (tag : List ℕ) (fields : List Field) → how_many tag fields ≡ counted (is_under tag) fields
how_many-counted tag [] = refl
how_many-counted tag (f ∷ fields) =
    sum_by-cons (λ g. cond (has_tag tag g) 1 0) f fields ∙ ap (λ n. one_if (is_under tag f) + n) (how_many-counted tag fields)

module _ (f : Field) (tagged : f.tag ≡ tag_001) where
  lower-is : (g : Field) → is_lower g f ≡ is_under (codes "000") g
  lower-is g =
      ap (λ t. is_lt (slice_cmp nat_cmp g.tag t)) tagged ∙ below_001 g.tag (and_parts (is_tag g.tag) (fits_tag g.tag g.body) g.well_formed).0

  none_lower : (fields : List Field) → Floor is_lower f fields → counted (is_under (codes "000")) fields ≡ 0
  none_lower [] floor = refl
  none_lower (g ∷ fields) floor =
      let other : is_under (codes "000") g ≡ false = sym (lower-is g) ∙ floor.0 in
      ap (λ b. one_if b + counted (is_under (codes "000")) fields) other ∙ ap (λ n. 0 + n) (none_lower fields floor.1)

  lead-count : (fields : List Field) → Rising is_lower fields → counted (is_under (codes "000")) fields ≡ lead f fields
  lead-count [] rising = refl
  lead-count (g ∷ fields) rising =
      elim (is_lower g f) as (λ r. is_lower g f ≡ r → one_if (is_under (codes "000") g) + counted (is_under (codes "000")) fields ≡ (if r then suc (lead f fields) else 0)) [
        | true ↦ λ is.
            let here : is_under (codes "000") g ≡ true = sym (lower-is g) ∙ is in
            ap (λ b. one_if b + counted (is_under (codes "000")) fields) here ∙ (ap (λ n. 1 + n) (lead-count fields rising.1) ∙ next (lead f fields))
        | false ↦ λ is.
            let other : is_under (codes "000") g ≡ false = sym (lower-is g) ∙ is in
            ap (λ b. one_if b + counted (is_under (codes "000")) fields) other
            ∙ ap (λ n. 0 + n) (none_lower fields (Floor-lower is_lower is_lower-order f g fields is rising.0))
      ] refl
    where
      next : (n : ℕ) → 1 + n ≡ suc n
      next n = omega arith

  -- before 001 stand the fields 000
  pub lead-zeros : (fields : List Field) → lead f (in_tag_order fields) ≡ how_many (codes "000") (put_by_tag f (in_tag_order fields))
  lead-zeros fields =
      let rising : Rising is_lower (in_tag_order fields) = subst (Rising is_lower) (sym (in_tag_order-is fields)) (Rising-in_order is_lower is_lower-order fields) in
      let other : is_under (codes "000") f ≡ false = ap (λ t. is_same t (codes "000")) tagged in
      sym (how_many-counted (codes "000") (put_by_tag f (in_tag_order fields))
      ∙ (counted-put (is_under (codes "000")) f (in_tag_order fields)
      ∙ (ap (λ b. one_if b + counted (is_under (codes "000")) (in_tag_order fields)) other
      ∙ (none_more (counted (is_under (codes "000")) (in_tag_order fields)) ∙ lead-count (in_tag_order fields) rising))))
    where
      none_more : (n : ℕ) → 0 + n ≡ n
      none_more n = omega arith
