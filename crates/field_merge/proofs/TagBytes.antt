-- The test of a tag, byte by byte.
use Rattle.std.proofs.Common.{◌≡◌, ℕ, ◌&&◌, List, [], ◌∷◌, length, get_or, ap, arith, eqb, nat_eq}
use Rattle.std.proofs.Math.Bool.{and-true}
use Rattle.std.specs.List.{list_all}
use Rattle.std.specs.Cmp.Lexicographic.{pointwise}
use Rattle.std.proofs.lemmas.Bool.{eqb-true}
use Rattle.std.proofs.lemmas.Bool.Decides.{nat_tests}
use Rattle.union_base.specs.Both.{both_true}
use Rattle.union_base.specs.Fields.{is_tag, is_tag_byte, fits_tag}
use Rattle.union_base.specs.declared.field.Field.{Field}

-- three bytes are equal to three others one by one
three : (t : List ℕ) (a b d : ℕ) → length t ≡ 3
    → pointwise nat_eq t (a ∷ b ∷ d ∷ []) ≡ (eqb (get_or t 0 0) a && (eqb (get_or t 1 0) b && eqb (get_or t 2 0) d))
three [] a b d e = absurd (omega arith)
three (x ∷ []) a b d e = absurd (omega arith)
three (x ∷ y ∷ []) a b d e = absurd (omega arith)
three (x ∷ y ∷ z ∷ []) a b d e = ap (λ r. eqb x a && (eqb y b && r)) (and-true (eqb z d))
three (x ∷ y ∷ z ∷ u ∷ us) a b d e = absurd (omega arith)

-- a field has a tag where it has each byte of it
pub has_tag_bytes : (f : Field) (a b d : ℕ)
    → pointwise nat_eq f.tag (a ∷ b ∷ d ∷ []) ≡ (eqb (get_or f.tag 0 0) a && (eqb (get_or f.tag 1 0) b && eqb (get_or f.tag 2 0) d))
has_tag_bytes f a b d =
    let tag = (both_true (is_tag f.tag) (fits_tag f.tag f.body) f.well_formed).0 in
    three f.tag a b d (eqb-true _ _ (both_true (eqb (length f.tag) 3) (list_all is_tag_byte f.tag) tag).0)

-- what the bytes of a field's tag say of the tests of the tag
pub ruleset tag_tests = (has_tag_bytes, nat_tests)
