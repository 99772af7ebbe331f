-- Whether `LIB.CTL` is a control number.
use Rattle.std.proofs.Common.{◌≡◌, ℕ, suc, ◌+◌, ◌<◌, ◌≤◌, Bool, true, false, List, [], ◌∷◌, ◌++◌, length, length-append, refl, ◌∙◌, ap, arith}
use Rattle.std.specs.Prelude.{◌==◌, codes, if◌then◌else◌}
use Rattle.std.specs.List.{list_all}
use Rattle.std.proofs.lemmas.Bool.{and_parts, and_from, and_left, and_right}
use Rattle.std.proofs.lemmas.Bool.Decides.{nat_tests}
use Rattle.std.proofs.lemmas.List.Folds.{list_all-append}
use Rattle.union_base.specs.LibraryCodes.{is_library_code, may_stand}
use Rattle.marc_leader.specs.Codes.{is_printable}
use Rattle.marc_parts.specs.Loads.{has_number_shape}
use Rattle.marc_parts.specs.Parts.{text_under}
use Rattle.union_base.specs.Blanks.{before_trimmed, trim_start, trim_end, trimmed}
use Rattle.catalogue_export.specs.ExportedLaws.{NumbersEndInNoBlank}
use Rattle.catalogue_export.proofs.FittingLaws.{yes_le, no_le}

before-all : (p : ℕ → Bool) (b : ℕ) (t : List ℕ) → p b ≡ true → list_all p t ≡ true → list_all p (before_trimmed b t) ≡ true
before-all p b [] here all = elim (b == 0x20) as (λ r. list_all p (if r then [] else b ∷ []) ≡ true) [
  | true ↦ refl
  | false ↦ and_from (p b) true here refl
]
before-all p b (c ∷ t) here all = and_from (p b) (list_all p (c ∷ t)) here all

trim_end-all : (p : ℕ → Bool) (t : List ℕ) → list_all p t ≡ true → list_all p (trim_end t) ≡ true
trim_end-all p [] all = refl
trim_end-all p (b ∷ t) all =
    let both = and_parts (p b) (list_all p t) all in
    before-all p b (trim_end t) both.0 (trim_end-all p t both.1)

before-kept : (b : ℕ) (t : List ℕ) → 1 ≤ length t → before_trimmed b t ≡ b ∷ t
before-kept b [] some = absurd (omega arith)
before-kept b (c ∷ t) some = refl

-- a point stays, and what is before it
behind-point : (t : List ℕ) → before_trimmed 0x2E t ≡ 0x2E ∷ t
behind-point [] = refl
behind-point (c ∷ t) = refl

trim_end-point : (front control : List ℕ) → trim_end ((front ++ codes ".") ++ control) ≡ (front ++ codes ".") ++ trim_end control
trim_end-point [] control = behind-point (trim_end control)
trim_end-point (b ∷ front) control =
    let some : 1 ≤ length ((front ++ codes ".") ++ trim_end control)
    = omega (arith, length-append (front ++ codes ".") (trim_end control), length-append front (codes ".")) in
    ap (before_trimmed b) (trim_end-point front control) ∙ before-kept b ((front ++ codes ".") ++ trim_end control) some

code_printable : (b : ℕ) → may_stand b ≡ true → is_printable b ≡ true
code_printable b is = grind (arith, nat_tests)

code_unblank : (b : ℕ) → may_stand b ≡ true → (b == 0x20) ≡ false
code_unblank b is = grind (arith, nat_tests)

all_printable : (library : List ℕ) → list_all may_stand library ≡ true → list_all is_printable library ≡ true
all_printable [] all = refl
all_printable (b ∷ bs) all =
    let both = and_parts (may_stand b) (list_all may_stand bs) all in
    and_from _ _ (code_printable b both.0) (all_printable bs both.1)

-- of the name of a record the blanks at the end of the control number go
name-trimmed : (library control : List ℕ) → is_library_code library ≡ true
    → trimmed ((library ++ codes ".") ++ control) ≡ (library ++ codes ".") ++ trim_end control
name-trimmed [] control code = cc
name-trimmed (b ∷ bs) control code =
    let stand = and_parts (may_stand b) (list_all may_stand bs) (and_parts _ (list_all may_stand (b ∷ bs)) code).1 in
    let other : (b == 0x20) ≡ false = code_unblank b stand.0 in
    let start : trim_start (b ∷ ((bs ++ codes ".") ++ control)) ≡ b ∷ ((bs ++ codes ".") ++ control) = rw other refl in
    ap trim_end start ∙ trim_end-point (b ∷ bs) control

name-size : (library rest : List ℕ) → length ((library ++ codes ".") ++ rest) ≡ suc (length library + length rest)
name-size library rest = omega (arith, length-append (library ++ codes ".") rest, length-append library (codes "."))

module _ (library control : List ℕ) (code : is_library_code library ≡ true) where
  -- the name of a record is a control number where its code and control number have at most 63 bytes together
  pub name-shaped : has_number_shape control ≡ true → length library + length (trim_end control) ≤ 63
      → has_number_shape (trimmed ((library ++ codes ".") ++ control)) ≡ true
  name-shaped number few =
      let prints : list_all is_printable control ≡ true = (and_parts _ (list_all is_printable control) number).1 in
      let stand : list_all may_stand library ≡ true = (and_parts _ (list_all may_stand library) code).1 in
      let name = (library ++ codes ".") ++ trim_end control in
      let size : length name ≡ suc (length library + length (trim_end control)) = name-size library (trim_end control) in
      let all : list_all is_printable ((library ++ codes ".") ++ trim_end control) ≡ true
      = list_all-append is_printable (library ++ codes ".") (trim_end control)
      ∙ and_from _ _ (list_all-append is_printable library (codes ".") ∙ and_from _ _ (all_printable library stand) refl) (trim_end-all is_printable control prints) in
      ap has_number_shape (name-trimmed library control code)
      ∙ and_from _ _ (and_from _ _ (yes_le 1 (length name) (omega (arith, size))) (yes_le (length name) 64 (omega (arith, size)))) all

  -- where they have more, it is none
  pub name-misshaped : 63 < length library + length (trim_end control) → has_number_shape (trimmed ((library ++ codes ".") ++ control)) ≡ false
  name-misshaped many =
      let name = (library ++ codes ".") ++ trim_end control in
      let size : length name ≡ suc (length library + length (trim_end control)) = name-size library (trim_end control) in
      ap has_number_shape (name-trimmed library control code) ∙ and_left _ _ (and_right _ _ (no_le (length name) 64 (omega (arith, size))))

-- what was trimmed has no blank at its end
before-again : (b : ℕ) (t : List ℕ) → trim_end t ≡ t → trim_end (before_trimmed b t) ≡ before_trimmed b t
before-again b [] again = elim (b == 0x20) as (λ r. (b == 0x20) ≡ r → trim_end (if r then [] else b ∷ []) ≡ (if r then [] else b ∷ [])) [
  | true ↦ λ e. refl
  | false ↦ λ e. rw e refl
] refl
before-again b (c ∷ t) again = ap (before_trimmed b) again

trim_end-again : (t : List ℕ) → trim_end (trim_end t) ≡ trim_end t
trim_end-again [] = refl
trim_end-again (b ∷ t) = before-again b (trim_end t) (trim_end-again t)

-- and so has a control number
pub numbers-unblanked : NumbersEndInNoBlank
numbers-unblanked r = trim_end-again (trim_start (text_under (codes "001") r.fields))
