-- How many values of a list pass a test, and what they weigh.
use Rattle.std.proofs.Common.{◌≡◌, ℕ, ◌+◌, Bool, true, false, not, List, [], ◌∷◌, ◌++◌, refl, ◌∙◌, ap, arith}
use Rattle.std.specs.Prelude.{if◌then◌else◌}
use Rattle.std.specs.List.{list_all, list_any}
use Rattle.std.proofs.lemmas.Bool.{and_parts, not-true}
use Rattle.union_base.specs.declared.field.Field.{Field}
use Rattle.catalogue_export.specs.TagOrder.{is_lower, put_by_tag, in_tag_order}

-- one where the test holds, else none
abbrev pub one_if : Bool → ℕ
one_if test = (if test then 1 else 0)

-- what the values of a list weigh together
abbrev pub weighed : {A : Type 0} → (A → ℕ) → List A → ℕ
weighed w [] = 0
weighed w (x ∷ xs) = w x + weighed w xs

-- how many values of a list pass a test
abbrev pub counted : {A : Type 0} → (A → Bool) → List A → ℕ
counted p xs = weighed (λ x. one_if (p x)) xs

-- the values of two lists
pub weighed-append : {A : Type 0} (w : A → ℕ) (xs ys : List A) → weighed w (xs ++ ys) ≡ weighed w xs + weighed w ys
weighed-append w [] ys = none (weighed w ys)
  where
    none : (n : ℕ) → n ≡ 0 + n
    none n = omega arith
weighed-append w (x ∷ xs) ys = ap (λ n. w x + n) (weighed-append w xs ys) ∙ parts (w x) (weighed w xs) (weighed w ys)
  where
    parts : (a b c : ℕ) → a + (b + c) ≡ (a + b) + c
    parts a b c = omega arith

pub counted-append : {A : Type 0} (p : A → Bool) (xs ys : List A) → counted p (xs ++ ys) ≡ counted p xs + counted p ys
counted-append p xs ys = weighed-append (λ x. one_if (p x)) xs ys

-- none passes where each fails
pub counted-none : {A : Type 0} (p : A → Bool) (xs : List A) → list_all (λ x. not (p x)) xs ≡ true → counted p xs ≡ 0
counted-none p [] all = refl
counted-none p (x ∷ xs) all =
    let both = and_parts (not (p x)) (list_all (λ y. not (p y)) xs) all in
    ap (λ b. one_if b + counted p xs) (not-true (p x) both.0) ∙ ap (λ n. 0 + n) (counted-none p xs both.1)

-- where none is counted, none passes
pub uncounted : {A : Type 0} (p : A → Bool) (xs : List A) → counted p xs ≡ 0 → list_any p xs ≡ false
uncounted p [] none = refl
uncounted p (x ∷ xs) none = of (p x) (uncounted p xs) refl
  where
    of : (test : Bool) → (counted p xs ≡ 0 → list_any p xs ≡ false) → p x ≡ test → list_any p (x ∷ xs) ≡ false
    of true later is =
        let more : counted p (x ∷ xs) ≡ 1 + counted p xs = ap (λ b. one_if b + counted p xs) is in
        absurd (omega arith)
    of false later is =
        let same : counted p (x ∷ xs) ≡ 0 + counted p xs = ap (λ b. one_if b + counted p xs) is in
        let less : counted p xs ≡ 0 = omega arith in
        rw is (later less)

-- as many in order of tags
pub counted-put : (p : Field → Bool) (f : Field) (fields : List Field) → counted p (put_by_tag f fields) ≡ one_if (p f) + counted p fields
counted-put p f [] = refl
counted-put p f (g ∷ fields) =
    elim (is_lower g f) as (λ r. counted p (if r then g ∷ put_by_tag f fields else f ∷ g ∷ fields) ≡ one_if (p f) + (one_if (p g) + counted p fields)) [
      | true ↦ ap (λ n. one_if (p g) + n) (counted-put p f fields) ∙ turned (one_if (p g)) (one_if (p f)) (counted p fields)
      | false ↦ refl
    ]
  where
    turned : (a b c : ℕ) → a + (b + c) ≡ b + (a + c)
    turned a b c = omega arith

pub counted-in_tag_order : (p : Field → Bool) (fields : List Field) → counted p (in_tag_order fields) ≡ counted p fields
counted-in_tag_order p [] = refl
counted-in_tag_order p (f ∷ fields) = counted-put p f (in_tag_order fields) ∙ ap (λ n. one_if (p f) + n) (counted-in_tag_order p fields)
