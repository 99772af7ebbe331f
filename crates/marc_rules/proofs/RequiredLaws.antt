-- What counting fields shows.
use Rattle.std.proofs.Common.{◌≡◌, ℕ, suc, ◌+◌, ◌<◌, Bool, true, false, ◌||◌, List, [], ◌∷◌, length, get_or, take, drop, refl, sym, ◌∙◌, ap, arith, add-one, inl, inr, get_or-set_same, get_or-set_other, None, Some}
use Rattle.std.proofs.Math.ListN.{set}
use Rattle.std.proofs.Math.Seq.{drop-cons}
use Rattle.std.proofs.lemmas.Bool.{cases_eq}
use Rattle.std.proofs.lemmas.Bool.Decides.{nat_tests}
use Rattle.std.proofs.lemmas.List.Folds.{list_any-append}
use Rattle.std.specs.Prelude.{◌==◌, Option}
use Rattle.std.specs.List.{list_any}
use Rattle.std.specs.Option.{option_map_or}
use Rattle.marc_leader.specs.declared.entry.Entry.{Entry}
use Rattle.marc_fields.proofs.AppendingLaws.{take_one_more}
use Rattle.marc_fields.specs.Rows.{unless, fails, or_then}
use Rattle.marc_fields.specs.declared.rules.Rule.TheVariants.{ControlNumber, Status}
use Rattle.marc_rules.specs.Contents.{is_status, coding_failure, content_failure}
use Rattle.marc_rules.specs.declared.required_fields.SingleClass.{SingleClass}
use Rattle.marc_rules.specs.RequiredFields.{class_of, number_of, is_of, repeats, repeated_from, control_number_place, load_failure, number_failure}

-- the number that was found, where there is one
abbrev pub found_one : Option ℕ → List ℕ
found_one None = []
found_one (Some i) = i ∷ []

-- the next entry repeats none
pub repeated-later : (entries : List Entry) (i : ℕ) (e : Entry) → i < length entries → e ≡ get_or entries i e
    → repeats (take i entries) e ≡ false
    → repeated_from (take i entries) (i + 1) (drop i entries) ≡ repeated_from (take (i + 1) entries) (i + 1 + 1) (drop (i + 1) entries)
repeated-later entries i e below is test =
    ap (repeated_from (take i entries) (i + 1)) (drop-cons entries i e below ∙ ap (λ x. x ∷ drop (suc i) entries) (sym is))
    ∙ (rw test (ap (λ es. repeated_from es (suc (i + 1)) (drop (suc i) entries)) (sym (take_one_more entries i e below is)))
    ∙ (ap (λ k. repeated_from (take (i + 1) entries) k (drop (suc i) entries)) (sym (add-one (i + 1)))
    ∙ ap (λ k. repeated_from (take (i + 1) entries) (i + 1 + 1) (drop k entries)) (sym (add-one i))))

or_none : (test : Bool) → (test || false) ≡ test
or_none true = refl
or_none false = refl

-- one more entry has its class
has_class-more : (entries : List Entry) (i : ℕ) (e : Entry) (class : SingleClass) → i < length entries → e ≡ get_or entries i e
    → list_any (is_of class) (take (i + 1) entries) ≡ (list_any (is_of class) (take i entries) || is_of class e)
has_class-more entries i e class below is =
    ap (list_any (is_of class)) (take_one_more entries i e below is)
    ∙ (list_any-append (is_of class) (take i entries) (e ∷ []) ∙ ap (λ b. list_any (is_of class) (take i entries) || b) (or_none (is_of class e)))

alike : (m n : ℕ) → m ≡ n → (m == n) ≡ true
alike m n h = grind (arith, nat_tests)

differ : (m n : ℕ) → (m ≡ n → ⊥) → (m == n) ≡ false
differ m n h = grind (arith, nat_tests)

or_true : (test : Bool) → (test || true) ≡ true
or_true true = refl
or_true false = refl

-- the marks of the classes that are seen among these entries
abbrev pub AreMarks : List Bool → List Entry → Type 0
AreMarks marks entries = (class : SingleClass) → get_or marks (number_of class) false ≡ list_any (is_of class) entries

-- a class that is seen with an entry
pub seen-set : (entries : List Entry) (i : ℕ) (e : Entry) (old : List Bool) (class : SingleClass) → i < length entries → e ≡ get_or entries i e
    → class_of e.tag ≡ Some class → number_of class < length old → AreMarks old (take i entries)
    → AreMarks (set old (number_of class) true) (take (i + 1) entries)
seen-set entries i e old class below is of room seen = λ k.
    let more = has_class-more entries i e k below is in
    let mine : is_of k e ≡ (number_of class == number_of k) = ap (λ o. option_map_or (λ (other : SingleClass). number_of other == number_of k) o false) of in
    elim (cases_eq (number_of k) (number_of class)) [
      | inl same ↦
          let one : is_of k e ≡ true = mine ∙ alike (number_of class) (number_of k) (sym same) in
          let here : get_or (set old (number_of class) true) (number_of class) false ≡ true = get_or-set_same old (number_of class) true false room in
          ap (λ n. get_or (set old (number_of class) true) n false) same
          ∙ (here ∙ sym (more ∙ (ap (λ b. list_any (is_of k) (take i entries) || b) one ∙ or_true (list_any (is_of k) (take i entries)))))
      | inr other ↦
          let none : is_of k e ≡ false = mine ∙ differ (number_of class) (number_of k) (λ h. other (sym h)) in
          let there : get_or (set old (number_of class) true) (number_of k) false ≡ get_or old (number_of k) false
          = get_or-set_other old (number_of class) (number_of k) true false other in
          there ∙ (seen k ∙ sym (more ∙ (ap (λ b. list_any (is_of k) (take i entries) || b) none ∙ or_none (list_any (is_of k) (take i entries)))))
    ]

-- an entry without a class
pub seen-same : (entries : List Entry) (i : ℕ) (e : Entry) (old : List Bool) → i < length entries → e ≡ get_or entries i e
    → class_of e.tag ≡ None → AreMarks old (take i entries) → AreMarks old (take (i + 1) entries)
seen-same entries i e old below is of seen = λ k.
    let none : is_of k e ≡ false = ap (λ o. option_map_or (λ (other : SingleClass). number_of other == number_of k) o false) of in
    seen k ∙ sym (has_class-more entries i e k below is ∙ (ap (λ b. list_any (is_of k) (take i entries) || b) none ∙ or_none (list_any (is_of k) (take i entries))))

-- what it is that an entry repeats one
pub repeats-class : (earlier : List Entry) (e : Entry) (class : SingleClass) → class_of e.tag ≡ Some class → repeats earlier e ≡ list_any (is_of class) earlier
repeats-class earlier e class of = ap (λ o. option_map_or (λ k. list_any (is_of k) earlier) o false) of

-- an entry without a class repeats none
pub repeats-none : (earlier : List Entry) (e : Entry) → class_of e.tag ≡ None → repeats earlier e ≡ false
repeats-none earlier e of = ap (λ o. option_map_or (λ k. list_any (is_of k) earlier) o false) of

-- the rules on numbers, one after the other
pub number_failure-control : (status : ℕ) (bytes : List ℕ) (entries : List Entry) (place : ℕ) → control_number_place bytes entries ≡ Some place
    → number_failure status bytes entries ≡ Some (record { rule = ControlNumber; place = place })
unfolding number_failure
number_failure-control status bytes entries place is = rw is refl

pub number_failure-deleted : (status : ℕ) (bytes : List ℕ) (entries : List Entry) → control_number_place bytes entries ≡ None → status ≡ 0x64
    → number_failure status bytes entries ≡ None
unfolding number_failure
number_failure-deleted status bytes entries none is = let one : (status == 0x64) ≡ true = alike status 0x64 is in rw (none, one) refl

pub number_failure-load : (status : ℕ) (bytes : List ℕ) (entries : List Entry) → control_number_place bytes entries ≡ None → (status ≡ 0x64 → ⊥)
    → number_failure status bytes entries ≡ load_failure bytes entries
unfolding number_failure
number_failure-load status bytes entries none other = let zero_is : (status == 0x64) ≡ false = differ status 0x64 other in rw (none, zero_is) refl

-- the rules on status and coding, one after the other
pub content_failure-status : (status coding : ℕ) (bytes : List ℕ) (entries : List Entry) → is_status status ≡ false
    → content_failure status coding bytes entries ≡ Some (record { rule = Status; place = 0 })
unfolding content_failure
content_failure-status status coding bytes entries bad = ap (λ b. or_then (fails Status (unless b)) (coding_failure coding bytes entries)) bad

pub content_failure-coding : (status coding : ℕ) (bytes : List ℕ) (entries : List Entry) → is_status status ≡ true
    → content_failure status coding bytes entries ≡ coding_failure coding bytes entries
unfolding content_failure
content_failure-coding status coding bytes entries good = ap (λ b. or_then (fails Status (unless b)) (coding_failure coding bytes entries)) good
