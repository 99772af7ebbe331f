-- What fits of a list of fields.
use Rattle.std.proofs.Common.{◌≡◌, ℕ, ◌+◌, ◌*◌, ◌-◌, ◌<◌, ◌≤◌, Bool, true, false, List, [], ◌∷◌, ◌++◌, length, take, drop, get_or, length-append, append_assoc, refl, sym, ap, ◌∙◌, arith}
use Rattle.std.specs.Prelude.{if◌then◌else◌, nat_le}
use Rattle.std.specs.List.{list_all, flat_map}
use Rattle.std.proofs.lemmas.Bool.Decides.{nat_tests}
use Rattle.std.proofs.lemmas.List.{append-nil, drop_more}
use Rattle.union_base.specs.Both.{both_true, true_both}
use Rattle.union_base.specs.declared.field.Field.{Field}
use Rattle.marc_fields.proofs.AppendingLaws.{take_one_more}
use Rattle.marc_fields.specs.Spelling.{stored}
use Rattle.catalogue_export.specs.Fitting.{taken_by, fitting_in}

pub yes_le : (m n : ℕ) → m ≤ n → nat_le m n ≡ true
yes_le m n h = grind (arith, nat_tests)

pub no_le : (m n : ℕ) → n < m → nat_le m n ≡ false
no_le m n h = grind (arith, nat_tests)

pub is_le : (m n : ℕ) → nat_le m n ≡ true → m ≤ n
is_le m n h = grind (arith, nat_tests)

-- the first field fits, or nothing does
pub fitting_in-first : (room : ℕ) (f : Field) (fields : List Field) → taken_by f ≤ room → fitting_in room (f ∷ fields) ≡ f ∷ fitting_in (room - taken_by f) fields
fitting_in-first room f fields fits = let yes_it : nat_le (taken_by f) room ≡ true = yes_le (taken_by f) room fits in rw yes_it refl

pub fitting_in-none : (room : ℕ) (f : Field) (fields : List Field) → room < taken_by f → fitting_in room (f ∷ fields) ≡ []
fitting_in-none room f fields over = let no_it : nat_le (taken_by f) room ≡ false = no_le (taken_by f) room over in rw no_it refl

drop_to : (fields : List Field) (i : ℕ) (f : Field) → i < length fields → f ≡ get_or fields i f → drop i fields ≡ f ∷ drop (i + 1) fields
drop_to fields i f below is = drop_more fields i f below ∙ ap (λ g. g ∷ drop (i + 1) fields) (sym is)

-- where the fields up to a place fit, and the rest is to fit in what is left, but the next does not
pub fitting_in-stops : (room left i : ℕ) (fields : List Field) (f : Field) → i < length fields → f ≡ get_or fields i f
    → fitting_in room fields ≡ take i fields ++ fitting_in left (drop i fields) → left < taken_by f → fitting_in room fields ≡ take i fields
fitting_in-stops room left i fields f below is so_far over =
    so_far
    ∙ (ap (λ rest. take i fields ++ fitting_in left rest) (drop_to fields i f below is)
    ∙ (ap (λ rest. take i fields ++ rest) (fitting_in-none left f (drop (i + 1) fields) over) ∙ append-nil (take i fields)))

-- the same where the next fits too
pub fitting_in-steps : (room left i : ℕ) (fields : List Field) (f : Field) → i < length fields → f ≡ get_or fields i f
    → fitting_in room fields ≡ take i fields ++ fitting_in left (drop i fields) → taken_by f ≤ left
    → fitting_in room fields ≡ take (i + 1) fields ++ fitting_in (left - taken_by f) (drop (i + 1) fields)
fitting_in-steps room left i fields f below is so_far fits =
    let rest = fitting_in (left - taken_by f) (drop (i + 1) fields) in
    so_far
    ∙ (ap (λ rest. take i fields ++ fitting_in left rest) (drop_to fields i f below is)
    ∙ (ap (λ rest. take i fields ++ rest) (fitting_in-first left f (drop (i + 1) fields) fits)
    ∙ (sym (append_assoc (take i fields) (f ∷ []) rest) ∙ ap (λ front. front ++ rest) (sym (take_one_more fields i f below is)))))

-- what fits takes no more than the room
pub fitting_in-bound : (room : ℕ) (fields : List Field) → 12 * length (fitting_in room fields) + length (flat_map stored (fitting_in room fields)) ≤ room
fitting_in-bound room [] = omega arith
fitting_in-bound room (f ∷ fields) =
    elim (nat_le (taken_by f) room) as (λ r. nat_le (taken_by f) room ≡ r
    → 12 * length (if r then f ∷ fitting_in (room - taken_by f) fields else []) + length (flat_map stored (if r then f ∷ fitting_in (room - taken_by f) fields else [])) ≤ room) [
      | true ↦ λ e.
          let low : taken_by f ≤ room = is_le (taken_by f) room e in
          omega (arith, low, fitting_in-bound (room - taken_by f) fields, length-append (stored f) (flat_map stored (fitting_in (room - taken_by f) fields)))
      | false ↦ λ e. omega arith
    ] refl

-- what passes a test passes it where it fits
pub fitting_in-all : (p : Field → Bool) (room : ℕ) (fields : List Field) → list_all p fields ≡ true → list_all p (fitting_in room fields) ≡ true
fitting_in-all p room [] h = refl
fitting_in-all p room (f ∷ fields) h =
    let parts = both_true (p f) (list_all p fields) h in
    elim (nat_le (taken_by f) room) as (λ r. list_all p (if r then f ∷ fitting_in (room - taken_by f) fields else []) ≡ true) [
      | true ↦ true_both (p f) (list_all p (fitting_in (room - taken_by f) fields)) parts.0 (fitting_in-all p (room - taken_by f) fields parts.1)
      | false ↦ refl
    ]
