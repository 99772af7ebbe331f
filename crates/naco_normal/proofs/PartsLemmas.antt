-- The forms of subfields, one after the other.
use Rattle.std.proofs.Common.{◌≡◌, ℕ, ◌&&◌, ◌||◌, Bool, true, false, cond, not, eqb, List, ◌∷◌, map, ap, ◌∙◌}
use Rattle.std.specs.List.{list_any}
use Rattle.union_base.specs.Bodies.{Subfield}
use Rattle.naco_normal.specs.declared.heading.FirstPart.{FirstPart}
use Rattle.naco_normal.specs.Heading.{main_code, chosen, part_forms, form_without_comma}
use Rattle.naco_normal.specs.Parts.{first_form, subfield_form, parts_of}
use Rattle.naco_normal.specs.Words.{joined_words, joined}
use Rattle.naco_normal.proofs.WordsLemmas.{joined_words-cons}

-- a subfield that is chosen, by whether it is an $a and whether one was seen
chosen_first : (first : FirstPart) (s : Subfield) (rest : List Subfield) (seen is_main : Bool)
    → joined_words (cond seen (form_without_comma s.text ∷ map (λ (t : Subfield). form_without_comma t.text) rest) (cond is_main (first_form first s.text ∷ map (λ (t : Subfield). form_without_comma t.text) rest) (form_without_comma s.text ∷ part_forms (first_form first) form_without_comma rest)))
    ≡ joined (cond (is_main && not seen) (first_form first s.text) (form_without_comma s.text)) (joined_words (cond (seen || is_main) (map (λ (t : Subfield). form_without_comma t.text) rest) (part_forms (first_form first) form_without_comma rest)))
chosen_first first s rest true true = joined_words-cons (form_without_comma s.text) (map (λ (t : Subfield). form_without_comma t.text) rest)
chosen_first first s rest true false = joined_words-cons (form_without_comma s.text) (map (λ (t : Subfield). form_without_comma t.text) rest)
chosen_first first s rest false true = joined_words-cons (first_form first s.text) (map (λ (t : Subfield). form_without_comma t.text) rest)
chosen_first first s rest false false = joined_words-cons (form_without_comma s.text) (part_forms (first_form first) form_without_comma rest)

-- what chosen subfields add
abbrev chosen_parts : FirstPart → Bool → List Subfield → List ℕ
chosen_parts first seen ss = joined_words (cond seen (map (λ (t : Subfield). form_without_comma t.text) ss) (part_forms (first_form first) form_without_comma ss))

-- the subfields, where the first of them is chosen
pub parts_of-chosen : (first : FirstPart) (seen : Bool) (codes : List ℕ) (s : Subfield) (rest : List Subfield) → list_any (λ code. eqb code s.code) codes ≡ true
    → parts_of first seen codes (s ∷ rest) ≡ joined (subfield_form first seen s) (parts_of first (seen || eqb s.code main_code) codes rest)
parts_of-chosen first seen codes s rest e =
    ap (chosen_parts first seen) (ap (λ b. cond b (s ∷ chosen codes rest) (chosen codes rest)) e)
    ∙ chosen_first first s (chosen codes rest) seen (eqb s.code main_code)

-- and where it is not
pub parts_of-other : (first : FirstPart) (seen : Bool) (codes : List ℕ) (s : Subfield) (rest : List Subfield) → list_any (λ code. eqb code s.code) codes ≡ false
    → parts_of first seen codes (s ∷ rest) ≡ parts_of first seen codes rest
parts_of-other first seen codes s rest e =
    ap (chosen_parts first seen) (ap (λ b. cond b (s ∷ chosen codes rest) (chosen codes rest)) e)
