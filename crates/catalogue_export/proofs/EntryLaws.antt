-- The rules on numbers of fields, by the fields.
use Rattle.std.proofs.Common.{◌≡◌, ℕ, suc, ◌+◌, ◌-◌, ◌≤◌, Bool, true, false, not, ◌||◌, List, [], ◌∷◌, ◌++◌, length, length-append, get_or, append_assoc, refl, sym, ◌∙◌, ap, subst, arith, None, Some}
use Rattle.std.proofs.Math.Seq.{get_or-append_seam}
use Rattle.std.proofs.lemmas.Bool.{and_parts, and_from, not-true, eq-eqb}
use Rattle.std.specs.List.{list_all, list_any}
use Rattle.std.specs.Prelude.{◌==◌}
use Rattle.marc_leader.specs.declared.entry.Entry.{Entry}
use Rattle.union_base.specs.Fields.{spelled as body_bytes}
use Rattle.union_base.specs.declared.field.Field.{Field}
use Rattle.marc_fields.specs.Rules.{text_of}
use Rattle.marc_fields.specs.Spelling.{AreEntriesOf}
use Rattle.marc_fields.specs.declared.rules.Rule.TheVariants.{ControlNumber}
use Rattle.marc_fields.proofs.NoFailure.{text-spelled}
use Rattle.marc_rules.specs.RequiredFields.{is_same, places, once, no_entry, text_at, is_control_number, tag_001, tag_008, tag_245, control_number_place, fixed_008_place, title_245_place, repeats, repeated_from, number_failure}
use Rattle.marc_rules.proofs.RequiredLaws.{number_failure-control}
use Rattle.catalogue_export.proofs.ClassNumbers.{class_number, fresh-class}
use Rattle.catalogue_export.proofs.CountLaws.{one_if, counted, counted-append, uncounted}

-- the field has that tag
abbrev pub is_under : List ℕ → Field → Bool
is_under tag f = is_same f.tag tag

-- the field has another tag, or its bytes pass the test
abbrev pub passes_under : List ℕ → (List ℕ → Bool) → Field → Bool
passes_under tag passes f = not (is_under tag f) || passes (body_bytes f.body)

-- there are as many places as fields with the tag
pub places-count : (tag bytes : List ℕ) (i : ℕ) (entries : List Entry) (fields : List Field) → AreEntriesOf bytes entries fields
    → counted (is_under tag) fields ≡ length (places tag i entries)
places-count tag bytes i [] [] are = refl
places-count tag bytes i [] (f ∷ fields) are = absurd are
places-count tag bytes i (e ∷ entries) [] are = absurd are
places-count tag bytes i (e ∷ entries) (f ∷ fields) are = of (is_under tag f) (places-count tag bytes (suc i) entries fields are.1) refl
  where
    same : is_same e.tag tag ≡ is_under tag f
    same = ap (λ t. is_same t tag) are.0.tag

    of : (test : Bool) → counted (is_under tag) fields ≡ length (places tag (suc i) entries) → is_under tag f ≡ test
        → counted (is_under tag) (f ∷ fields) ≡ length (places tag i (e ∷ entries))
    of true later is =
        let here : is_same e.tag tag ≡ true = same ∙ is in
        let count : counted (is_under tag) (f ∷ fields) ≡ 1 + counted (is_under tag) fields = ap (λ b. one_if b + counted (is_under tag) fields) is in
        count ∙ rw here (omega (arith, later))
    of false later is =
        let here : is_same e.tag tag ≡ false = same ∙ is in
        let count : counted (is_under tag) (f ∷ fields) ≡ 0 + counted (is_under tag) fields = ap (λ b. one_if b + counted (is_under tag) fields) is in
        count ∙ rw here (omega (arith, later))

-- each entry with the tag has bytes that pass
places-pass : (passes : List ℕ → Bool) (tag bytes : List ℕ) (front entries : List Entry) (fields : List Field) → AreEntriesOf bytes entries fields
    → list_all (passes_under tag passes) fields ≡ true
    → list_all (λ i. passes (text_at bytes (front ++ entries) i)) (places tag (suc (length front)) entries) ≡ true
places-pass passes tag bytes front [] [] are all = refl
places-pass passes tag bytes front [] (f ∷ fields) are all = absurd are
places-pass passes tag bytes front (e ∷ entries) [] are all = absurd are
places-pass passes tag bytes front (e ∷ entries) (f ∷ fields) are all =
    let both = and_parts (passes_under tag passes f) (list_all (passes_under tag passes) fields) all in
    let size : length (front ++ e ∷ []) ≡ suc (length front) = omega (arith, length-append front (e ∷ [])) in
    let Later : ℕ → List Entry → Type 0 = λ n es. list_all (λ i. passes (text_at bytes es i)) (places tag (suc n) entries) ≡ true in
    of (is_under tag f) both.0
    (subst (λ n. Later n (front ++ e ∷ entries)) size
    (subst (Later (length (front ++ e ∷ []))) (append_assoc front (e ∷ []) entries) (places-pass passes tag bytes (front ++ e ∷ []) entries fields are.1 both.1)))
    refl
  where
    same : is_same e.tag tag ≡ is_under tag f
    same = ap (λ t. is_same t tag) are.0.tag

    of : (test : Bool) → passes_under tag passes f ≡ true
        → list_all (λ i. passes (text_at bytes (front ++ e ∷ entries) i)) (places tag (suc (suc (length front))) entries) ≡ true
        → is_under tag f ≡ test
        → list_all (λ i. passes (text_at bytes (front ++ e ∷ entries) i)) (places tag (suc (length front)) (e ∷ entries)) ≡ true
    of true mine later is =
        let here : is_same e.tag tag ≡ true = same ∙ is in
        let less : suc (length front) - 1 ≡ length front = omega arith in
        let pass : passes (body_bytes f.body) ≡ true = sym (ap (λ b. not b || passes (body_bytes f.body)) is) ∙ mine in
        let first : passes (text_at bytes (front ++ e ∷ entries) (suc (length front))) ≡ true
        = ap (λ n. passes (text_of bytes (get_or (front ++ e ∷ entries) n no_entry))) less
        ∙ (ap (λ x. passes (text_of bytes x)) (get_or-append_seam front e entries no_entry) ∙ (ap passes (text-spelled bytes e f are.0) ∙ pass)) in
        rw here (and_from _ _ first later)
    of false mine later is =
        let here : is_same e.tag tag ≡ false = same ∙ is in
        rw here later

-- the one place passes
once-none : (passes : ℕ → Bool) (ps : List ℕ) → length ps ≡ 1 → list_all passes ps ≡ true → once passes ps ≡ None
once-none passes [] one all = absurd (omega arith)
once-none passes (i ∷ []) one all = rw (and_parts (passes i) true all).0 refl
once-none passes (i ∷ j ∷ rest) one all = absurd (omega arith)

-- or it is refused
once-refused : (passes : ℕ → Bool) (ps : List ℕ) (place : ℕ) → ps ≡ place ∷ [] → list_all (λ i. not (passes i)) ps ≡ true → once passes ps ≡ Some place
once-refused passes ps place only all = subst (λ is. list_all (λ i. not (passes i)) is ≡ true → once passes is ≡ Some place) (sym only) alone all
  where
    alone : list_all (λ i. not (passes i)) (place ∷ []) ≡ true → once passes (place ∷ []) ≡ Some place
    alone each =
        let fails_it : passes place ≡ false = not-true (passes place) (and_parts (not (passes place)) true each).0 in
        rw fails_it refl

all_pass : (ps : List ℕ) → list_all (λ i. true) ps ≡ true
all_pass [] = refl
all_pass (i ∷ ps) = all_pass ps

-- as many entries as fields have a class
class-count : (k : ℕ) (bytes : List ℕ) (entries : List Entry) (fields : List Field) → AreEntriesOf bytes entries fields
    → counted (λ (e : Entry). class_number e.tag == k) entries ≡ counted (λ (f : Field). class_number f.tag == k) fields
class-count k bytes [] [] are = refl
class-count k bytes [] (f ∷ fields) are = absurd are
class-count k bytes (e ∷ entries) [] are = absurd are
class-count k bytes (e ∷ entries) (f ∷ fields) are =
    ap (λ t. one_if (class_number t == k) + counted (λ (d : Entry). class_number d.tag == k) entries) are.0.tag
    ∙ ap (λ n. one_if (class_number f.tag == k) + n) (class-count k bytes entries fields are.1)

-- where no class is had twice, none is repeated
repeated-none : (earlier : List Entry) (i : ℕ) (entries : List Entry)
    → ((k : ℕ) → (k ≡ 0 → ⊥) → counted (λ (e : Entry). class_number e.tag == k) (earlier ++ entries) ≤ 1)
    → repeated_from earlier i entries ≡ None
repeated-none earlier i [] few = refl
repeated-none earlier i (e ∷ entries) few =
    rw fresh (repeated-none (earlier ++ e ∷ []) (suc i) entries (λ k some. subst (λ es. counted (Of k) es ≤ 1) (sym (append_assoc earlier (e ∷ []) entries)) (few k some)))
  where
    Of : ℕ → Entry → Bool
    Of k d = class_number d.tag == k

    none : (class_number e.tag ≡ 0 → ⊥) → list_any (Of (class_number e.tag)) earlier ≡ false
    none some =
        let k : ℕ = class_number e.tag in
        let mine : counted (Of k) (e ∷ entries) ≡ 1 + counted (Of k) entries = ap (λ b. one_if b + counted (Of k) entries) (eq-eqb k k refl) in
        let whole = counted-append (Of k) earlier (e ∷ entries) in
        let most : counted (Of k) (earlier ++ e ∷ entries) ≤ 1 = few k some in
        let zero_is : counted (Of k) earlier ≡ 0 = sum_bound _ _ _ _ whole mine most in
        uncounted (Of k) earlier zero_is
      where
        sum_bound : (all before mine after : ℕ) → all ≡ before + mine → mine ≡ 1 + after → all ≤ 1 → before ≡ 0
        sum_bound all before mine after p q r = omega arith

    fresh : repeats earlier e ≡ false
    fresh = fresh-class earlier e none

-- what fields have that break no rule on numbers but that on 001
pub record AreCounted (fields : List Field) : Type 0 where
  pub numbered : counted (is_under tag_001) fields ≡ 1
  pub described : counted (is_under tag_008) fields ≡ 1
  pub sized : list_all (passes_under tag_008 (λ text. length text == 40)) fields ≡ true
  pub titled : counted (is_under tag_245) fields ≡ 1
  pub apart : (k : ℕ) → (k ≡ 0 → ⊥) → counted (λ (f : Field). class_number f.tag == k) fields ≤ 1

module _ (bytes : List ℕ) (entries : List Entry) (fields : List Field) (are : AreEntriesOf bytes entries fields) (counts : AreCounted fields) where
  only : (passes : List ℕ → Bool) (tag : List ℕ) → counted (is_under tag) fields ≡ 1 → list_all (passes_under tag passes) fields ≡ true
      → once (λ i. passes (text_at bytes entries i)) (places tag 1 entries) ≡ None
  only passes tag one all =
      once-none (λ i. passes (text_at bytes entries i)) (places tag 1 entries) (sym (places-count tag bytes 1 entries fields are) ∙ one)
      (places-pass passes tag bytes [] entries fields are all)

  -- they break none where the control number passes
  pub number-none : list_all (passes_under tag_001 is_control_number) fields ≡ true → number_failure 0x6E bytes entries ≡ None
  unfolding number_failure
  number-none all =
      let control : control_number_place bytes entries ≡ None = only is_control_number tag_001 counts.numbered all in
      let fixed : fixed_008_place bytes entries ≡ None = only (λ text. length text == 40) tag_008 counts.described counts.sized in
      let title : title_245_place entries ≡ None
      = once-none (λ i. true) (places tag_245 1 entries) (sym (places-count tag_245 bytes 1 entries fields are) ∙ counts.titled) (all_pass (places tag_245 1 entries)) in
      let repeated : repeated_from [] 1 entries ≡ None
      = repeated-none [] 1 entries (λ k some. subst (λ n. n ≤ 1) (sym (class-count k bytes entries fields are)) (counts.apart k some)) in
      rw (control, repeated, fixed, title) refl

  -- and that on 001, at its place, where it doesn't
  pub number-refused : (place : ℕ) → places tag_001 1 entries ≡ place ∷ []
      → list_all (passes_under tag_001 (λ text. not (is_control_number text))) fields ≡ true
      → number_failure 0x6E bytes entries ≡ Some (record { rule = ControlNumber; place = place })
  number-refused place only_place all =
      number_failure-control 0x6E bytes entries place
      (once-refused (λ i. is_control_number (text_at bytes entries i)) (places tag_001 1 entries) place only_place
      (places-pass (λ text. not (is_control_number text)) tag_001 bytes [] entries fields are all))
