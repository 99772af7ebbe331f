-- The first value that a walk refuses is the least that is amiss.
use Rattle.std.proofs.Common.{◌≡◌, ℕ, suc, ◌+◌, ◌<◌, Bool, true, false, List, [], ◌∷◌, ◌++◌, length, refl, sym, ◌∙◌, ap, subst, arith, append_assoc, Option, None, Some}
use Rattle.std.specs.Prelude.{if◌then◌else◌}
use Rattle.std.proofs.lemmas.List.{append-nil}
use Rattle.marc_fields.specs.Places.{IsLeast}

-- a walk over values that looks at each with those before it
abbrev pub first_amiss : {A : Type 0} → (List A → A → Bool) → List A → ℕ → List A → Option ℕ
first_amiss passes earlier i [] = None
first_amiss passes earlier i (x ∷ xs) = (if passes earlier x then first_amiss passes (earlier ++ x ∷ []) (suc i) xs else Some i)

-- a value of the list that does not pass after those before it
pub record IsAmissAt {A : Type 0} (passes : List A → A → Bool) (list : List A) (place : ℕ) : Type 0 where
  pub earlier : List A
  pub value : A
  pub later : List A
  pub parts : list ≡ earlier ++ value ∷ later
  pub counted : place ≡ suc (length earlier)
  pub amiss : passes earlier value ≡ false

module _ {A : Type 0} (passes : List A → A → Bool) where
  -- what the walk finds: a value that does not pass, and before it only such as pass
  record IsFound (before : List A) (i : ℕ) (list : List A) (place : ℕ) : Type 0 where
    earlier : List A
    value : A
    later : List A
    parts : list ≡ earlier ++ value ∷ later
    counted : place ≡ i + length earlier
    amiss : passes (before ++ earlier) value ≡ false
    first : (some : List A) (x : A) (rest : List A) → list ≡ some ++ x ∷ rest → length some < length earlier → passes (before ++ some) x ≡ true

  found-here : (before : List A) (i : ℕ) (y : A) (ys : List A) → passes before y ≡ false → IsFound before i (y ∷ ys) i
  found-here before i y ys amiss = record {
    earlier = [];
    value = y;
    later = ys;
    parts = refl;
    counted = omega arith;
    amiss = ap (λ l. passes l y) (append-nil before) ∙ amiss;
    first = λ some x rest parts less. absurd (omega arith);
  }

  first-later : (before : List A) (y : A) (ys earlier : List A) → passes before y ≡ true
      → ((some : List A) (x : A) (rest : List A) → ys ≡ some ++ x ∷ rest → length some < length earlier → passes ((before ++ y ∷ []) ++ some) x ≡ true)
      → (some : List A) (x : A) (rest : List A) → y ∷ ys ≡ some ++ x ∷ rest → length some < length (y ∷ earlier) → passes (before ++ some) x ≡ true
  first-later before y ys earlier test first [] x rest parts less =
      let same : y ≡ x = cc in ap (λ l. passes l x) (append-nil before) ∙ (ap (passes before) (sym same) ∙ test)
  first-later before y ys earlier test first (z ∷ some) x rest parts less =
      let same : y ≡ z = cc in
      let tail : ys ≡ some ++ x ∷ rest = cc in
      let there = first some x rest tail (omega arith) in
      ap (λ l. passes l x) (ap (λ w. before ++ w ∷ some) (sym same) ∙ sym (append_assoc before (y ∷ []) some)) ∙ there

  found-later : (before : List A) (i : ℕ) (y : A) (ys : List A) (place : ℕ) → passes before y ≡ true
      → IsFound (before ++ y ∷ []) (suc i) ys place → IsFound before i (y ∷ ys) place
  found-later before i y ys place test found = record {
    earlier = y ∷ found.earlier;
    value = found.value;
    later = found.later;
    parts = ap (λ l. y ∷ l) found.parts;
    counted = omega (arith, found.counted);
    amiss = ap (λ l. passes l found.value) (sym (append_assoc before (y ∷ []) found.earlier)) ∙ found.amiss;
    first = first-later before y ys found.earlier test found.first;
  }

  found : (before : List A) (i : ℕ) (list : List A) (place : ℕ) → first_amiss passes before i list ≡ Some place → IsFound before i list place
  found before i [] place is = cc
  found before i (y ∷ ys) place is = of (λ later. found (before ++ y ∷ []) (suc i) ys place later) (passes before y) refl is
    where
      of : (first_amiss passes (before ++ y ∷ []) (suc i) ys ≡ Some place → IsFound (before ++ y ∷ []) (suc i) ys place) → (test : Bool)
          → passes before y ≡ test → (if test then first_amiss passes (before ++ y ∷ []) (suc i) ys else Some i) ≡ Some place
          → IsFound before i (y ∷ ys) place
      of later true test is = found-later before i y ys place test (later is)
      of later false test is = let same : i ≡ place = cc in subst (IsFound before i (y ∷ ys)) same (found-here before i y ys test)

  -- where a value does not pass and those before it do, the walk ends there
  ends : (before : List A) (i : ℕ) (earlier : List A) (value : A) (later : List A) → passes (before ++ earlier) value ≡ false
      → ((some : List A) (x : A) (rest : List A) → earlier ++ value ∷ later ≡ some ++ x ∷ rest → length some < length earlier → passes (before ++ some) x ≡ true)
      → first_amiss passes before i (earlier ++ value ∷ later) ≡ Some (i + length earlier)
  ends before i [] value later amiss first =
      let here : passes before value ≡ false = ap (λ l. passes l value) (sym (append-nil before)) ∙ amiss in
      rw here (ap Some (omega arith))
  ends before i (y ∷ earlier) value later amiss first =
      let here : passes before y ≡ true = ap (λ l. passes l y) (sym (append-nil before)) ∙ first [] y (earlier ++ value ∷ later) refl (omega arith) in
      let there : passes ((before ++ y ∷ []) ++ earlier) value ≡ false = ap (λ l. passes l value) (append_assoc before (y ∷ []) earlier) ∙ amiss in
      rw here (ends (before ++ y ∷ []) (suc i) earlier value later there
      (λ some x rest parts less. ap (λ l. passes l x) (append_assoc before (y ∷ []) some)
      ∙ first (y ∷ some) x rest (ap (λ l. y ∷ l) parts) (omega arith))
      ∙ ap Some (omega arith))

  passes-unless : (b : Bool) → (b ≡ false → ⊥) → b ≡ true
  passes-unless true h = refl
  passes-unless false h = absurd (h refl)

  clash : (b : Bool) → b ≡ true → b ≡ false → ⊥
  clash b p q = cc

  -- the places at which no value passes, of two that list it
  same-split : (some earlier : List A) (x value : A) (rest later : List A) → some ++ x ∷ rest ≡ earlier ++ value ∷ later → length some ≡ length earlier
      → (some ≡ earlier) × (x ≡ value)
  same-split [] [] x value rest later same size = (refl, cc)
  same-split [] (z ∷ earlier) x value rest later same size = absurd (omega arith)
  same-split (y ∷ some) [] x value rest later same size = absurd (omega arith)
  same-split (y ∷ some) (z ∷ earlier) x value rest later same size =
      let head : y ≡ z = cc in
      let tail : some ++ x ∷ rest ≡ earlier ++ value ∷ later = cc in
      let both = same-split some earlier x value rest later tail (omega arith) in
      (ap (λ w. w ∷ some) head ∙ ap (λ l. z ∷ l) both.0, both.1)

  pub amiss-least : (list : List A) (place : ℕ) → (first_amiss passes [] 1 list ≡ Some place) → IsLeast (IsAmissAt passes list) place
  amiss-least list place is =
      let at = found [] 1 list place is in record {
        here = record { earlier = at.earlier; value = at.value; later = at.later; parts = at.parts; counted = omega (arith, at.counted); amiss = at.amiss };
        before = λ other less amiss.
            clash (passes amiss.earlier amiss.value)
            (at.first amiss.earlier amiss.value amiss.later amiss.parts (omega (arith, at.counted, amiss.counted, less))) amiss.amiss;
      }

  pub least-amiss : (list : List A) (place : ℕ) → IsLeast (IsAmissAt passes list) place → first_amiss passes [] 1 list ≡ Some place
  least-amiss list place least =
      let h = least.here in
      ap (first_amiss passes [] 1) h.parts
      ∙ (ends [] 1 h.earlier h.value h.later h.amiss
      (λ some x rest parts less. passes-unless (passes some x)
      (λ amiss. least.before (suc (length some)) (omega (arith, h.counted, less))
      (record { earlier = some; value = x; later = rest; parts = h.parts ∙ parts; counted = refl; amiss = amiss })))
      ∙ ap Some (omega (arith, h.counted)))

  passed : (test : Bool) (later : Option ℕ) (i : ℕ) → (if test then later else Some i) ≡ None → (test ≡ true) × (later ≡ None)
  passed true later i none = (refl, none)
  passed false later i none = cc

  each-passes : (before : List A) (i : ℕ) (earlier : List A) (value : A) (later : List A) → first_amiss passes before i (earlier ++ value ∷ later) ≡ None
      → passes (before ++ earlier) value ≡ true
  each-passes before i [] value later none =
      ap (λ l. passes l value) (append-nil before)
      ∙ (passed (passes before value) (first_amiss passes (before ++ value ∷ []) (suc i) later) i none).0
  each-passes before i (y ∷ earlier) value later none =
      let step = passed (passes before y) (first_amiss passes (before ++ y ∷ []) (suc i) (earlier ++ value ∷ later)) i none in
      ap (λ l. passes l value) (sym (append_assoc before (y ∷ []) earlier)) ∙ each-passes (before ++ y ∷ []) (suc i) earlier value later step.1

  pub none-amiss : (list : List A) (place : ℕ) → first_amiss passes [] 1 list ≡ None → IsAmissAt passes list place → ⊥
  none-amiss list place none h =
      clash (passes h.earlier h.value)
      (each-passes [] 1 h.earlier h.value h.later (ap (first_amiss passes [] 1) (sym h.parts) ∙ none)) h.amiss
