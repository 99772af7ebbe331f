-- How the rows of a library are added, one refused record after the other.
use Rattle.std.proofs.Common.{◌≡◌, ◌<◌, ◌+◌, ◌-◌, ℕ, zero, suc, Bool, true, false, ◌||◌, cond, List, [], ◌∷◌, ◌++◌, drop, Some, None, refl, sym, ap, subst, ◌∙◌, arith, append_assoc, append-nil}
use Rattle.std.specs.Prelude.{Option, is_some}
use Rattle.std.specs.List.{slice_get}
use Rattle.std.proofs.lemmas.Bool.{or_right}
use Rattle.std.proofs.lemmas.List.{drop-drop}
use Rattle.union_explain.specs.Broken.{is_astray}
use Rattle.union_explain.specs.Located.{Located, located, located_from, located_ahead}
use Rattle.union_explain.specs.Readings.{Finds, ahead}
use Rattle.union_explain.specs.Rows.{row, row_of, rows_of, row_count, any_astray, frame_of}
use Rattle.union_explain.specs.declared.form.Form.{Form}
use Rattle.union_explain.specs.declared.reported.Reported.{Reported}

-- what is at a place after the first n
slice_get-drop : {X : Type 0} (n : ℕ) (xs : List X) (k : ℕ) → slice_get (drop n xs) k ≡ slice_get xs (n + k)
slice_get-drop zero xs k = ap (slice_get xs) (omega arith)
slice_get-drop (suc n) [] k = refl
slice_get-drop (suc n) (x ∷ xs) k =
    let more : suc (n + k) ≡ suc n + k = omega arith in
    slice_get-drop n xs k ∙ ap (slice_get (x ∷ xs)) more

pub or_assoc : (a b c : Bool) → ((a || b) || c) ≡ (a || (b || c))
or_assoc true b c = refl
or_assoc false b c = refl

pub or_none : (a : Bool) → a ≡ (a || false)
or_none true = refl
or_none false = refl

-- what is left of a library, after `passed` frames were passed
pub record Remains (form : Form) (library : List ℕ) (all : List Located) (refused rest : List Reported) (passed : ℕ)
    (ahead : Option (List Located)) (text text' : List ℕ) (rows rows' : ℕ) (astray astray' : Bool) : Type 0 where
  pub ahead_is : ahead ≡ Some (drop passed all)
  pub text_is : text' ++ rows_of form library all rest ≡ text ++ rows_of form library all refused
  pub rows_is : rows' + row_count all rest ≡ rows + row_count all refused
  pub astray_is : (astray' || any_astray all rest) ≡ (astray || any_astray all refused)

-- the frame that is looked for, and what is ahead after it
finds_in : (all : List Located) (told : Reported) (passed : ℕ) (after : Option (List Located)) (answer : Option Located)
    → passed < told.number → Finds (told.number - passed - 1) (Some (drop passed all)) after answer
    → (frame_of all told ≡ answer) × (after ≡ Some (drop told.number all))
finds_in all told passed None answer lt found = absurd found
finds_in all told passed (Some rest) answer lt found =
    let place : passed + (told.number - passed - 1) ≡ told.number - 1 = omega arith in
    let behind : passed + suc (told.number - passed - 1) ≡ told.number = omega arith in (
      sym (slice_get-drop passed all (told.number - passed - 1) ∙ ap (slice_get all) place) ∙ found.0,
      ap Some (found.1 ∙ (drop-drop (suc (told.number - passed - 1)) passed all ∙ ap (λ n. drop n all) behind)),
    )

finds : (all : List Located) (told : Reported) (passed : ℕ) (before after : Option (List Located)) (answer : Option Located)
    → passed < told.number → before ≡ Some (drop passed all) → Finds (told.number - passed - 1) before after answer
    → (frame_of all told ≡ answer) × (after ≡ Some (drop told.number all))
finds all told passed before after answer lt is found =
    let P : Option (List Located) → Type 0 = λ x. Finds (told.number - passed - 1) x after answer in
    finds_in all told passed after answer lt (subst P is found)

-- the rows of the first, and of those after it
row_count-first : (all : List Located) (told : Reported) (behind : List Reported)
    → row_count all (told ∷ behind) ≡ cond (is_some (frame_of all told)) 1 0 + row_count all behind
row_count-first all told behind = refl

-- a record whose frame the file has gets its row
pub Remains-found : (form : Form) (library : List ℕ) (all : List Located) (refused behind : List Reported) (told : Reported) (passed : ℕ)
    (before after : Option (List Located)) (text text' text'' : List ℕ) (rows rows' rows'' : ℕ) (astray astray' astray'' : Bool) (frame : Located)
    → Remains form library all refused (told ∷ behind) passed before text text' rows rows' astray astray' → passed < told.number
    → Finds (told.number - passed - 1) before after (Some frame)
    → text'' ≡ text' ++ row form library told frame → rows'' ≡ rows' + 1 → astray'' ≡ (astray' || is_astray told (Some frame))
    → Remains form library all refused behind told.number after text text'' rows rows'' astray astray''
Remains-found form library all refused behind told passed before after text text' text'' rows rows' rows'' astray astray' astray'' frame h lt
    found added counted noted =
    let here = finds all told passed before after (Some frame) lt h.ahead_is found in
    let first : row_of form library told (frame_of all told) ≡ row form library told frame = ap (row_of form library told) here.0 in
    record {
      ahead_is = here.1;
      text_is = ap (λ xs. xs ++ rows_of form library all behind) added
          ∙ (append_assoc text' (row form library told frame) (rows_of form library all behind)
          ∙ (ap (λ xs. text' ++ (xs ++ rows_of form library all behind)) (sym first) ∙ h.text_is));
      rows_is = omega (arith, counted, h.rows_is, row_count-first all told behind, ap {B = ℕ} (λ o. cond (is_some o) 1 0) here.0);
      astray_is = ap (λ t. t || any_astray all behind) (noted ∙ ap (λ o. astray' || is_astray told o) (sym here.0))
          ∙ (or_assoc astray' (is_astray told (frame_of all told)) (any_astray all behind) ∙ h.astray_is);
    }

-- another gets none
pub Remains-missed : (form : Form) (library : List ℕ) (all : List Located) (refused behind : List Reported) (told : Reported) (passed : ℕ)
    (before after : Option (List Located)) (text text' : List ℕ) (rows rows' : ℕ) (astray astray' : Bool)
    → Remains form library all refused (told ∷ behind) passed before text text' rows rows' astray astray' → passed < told.number
    → Finds (told.number - passed - 1) before after None
    → Remains form library all refused behind told.number after text text' rows rows' astray true
Remains-missed form library all refused behind told passed before after text text' rows rows' astray astray' h lt found =
    let here = finds all told passed before after None lt h.ahead_is found in record {
      ahead_is = here.1;
      text_is = ap (λ o. text' ++ (row_of form library told o ++ rows_of form library all behind)) (sym here.0) ∙ h.text_is;
      rows_is = omega (arith, h.rows_is, row_count-first all told behind, ap {B = ℕ} (λ o. cond (is_some o) 1 0) here.0);
      astray_is = sym (or_right astray' true refl)
          ∙ (ap (λ o. astray' || (is_astray told o || any_astray all behind)) (sym here.0) ∙ h.astray_is);
    }

-- at the start all is left
pub Remains-all : (form : Form) (library : List ℕ) (bytes : List ℕ) (refused : List Reported) (text : List ℕ) (rows at : ℕ) (astray : Bool)
    (unread : List ℕ) (left : Option (List ℕ)) → left ≡ Some bytes → unread ≡ [] → at ≡ 0
    → Remains form library (located bytes) refused refused 0 (located_ahead at (ahead unread left)) text text rows rows astray astray
Remains-all form library bytes refused text rows at astray unread left told none start = record {
  ahead_is = ap (λ x. located_ahead at (ahead unread x)) told
      ∙ (ap (λ xs. Some (located_from at (xs ++ bytes))) none ∙ ap (λ n. Some (located_from n bytes)) start);
  text_is = refl;
  rows_is = refl;
  astray_is = refl;
}

-- at the end nothing is left
pub Remains-none_text : (form : Form) (library : List ℕ) (all : List Located) (refused rest : List Reported) (passed : ℕ)
    (before : Option (List Located)) (text text' : List ℕ) (rows rows' : ℕ) (astray astray' : Bool)
    → Remains form library all refused rest passed before text text' rows rows' astray astray' → rest ≡ []
    → text' ≡ text ++ rows_of form library all refused
Remains-none_text form library all refused rest passed before text text' rows rows' astray astray' h none =
    sym (append-nil text') ∙ (ap (λ xs. text' ++ rows_of form library all xs) (sym none) ∙ h.text_is)

pub Remains-none_rows : (form : Form) (library : List ℕ) (all : List Located) (refused rest : List Reported) (passed : ℕ)
    (before : Option (List Located)) (text text' : List ℕ) (rows rows' : ℕ) (astray astray' : Bool)
    → Remains form library all refused rest passed before text text' rows rows' astray astray' → rest ≡ []
    → rows' ≡ rows + row_count all refused
Remains-none_rows form library all refused rest passed before text text' rows rows' astray astray' h none =
    omega (arith, h.rows_is, ap (row_count all) none)

pub Remains-none_astray : (form : Form) (library : List ℕ) (all : List Located) (refused rest : List Reported) (passed : ℕ)
    (before : Option (List Located)) (text text' : List ℕ) (rows rows' : ℕ) (astray astray' : Bool)
    → Remains form library all refused rest passed before text text' rows rows' astray astray' → rest ≡ []
    → astray' ≡ (astray || any_astray all refused)
Remains-none_astray form library all refused rest passed before text text' rows rows' astray astray' h none =
    or_none astray' ∙ (ap (λ xs. astray' || any_astray all xs) (sym none) ∙ h.astray_is)

-- where the rest is a record and those after it
pub Remains-first : (form : Form) (library : List ℕ) (all : List Located) (refused rest behind : List Reported) (told : Reported) (passed : ℕ)
    (before : Option (List Located)) (text text' : List ℕ) (rows rows' : ℕ) (astray astray' : Bool)
    → Remains form library all refused rest passed before text text' rows rows' astray astray' → rest ≡ told ∷ behind
    → Remains form library all refused (told ∷ behind) passed before text text' rows rows' astray astray'
Remains-first form library all refused rest behind told passed before text text' rows rows' astray astray' h first = record {
  ahead_is = h.ahead_is;
  text_is = sym (ap (λ xs. text' ++ rows_of form library all xs) first) ∙ h.text_is;
  rows_is = sym (ap (λ xs. rows' + row_count all xs) first) ∙ h.rows_is;
  astray_is = sym (ap (λ xs. astray' || any_astray all xs) first) ∙ h.astray_is;
}
