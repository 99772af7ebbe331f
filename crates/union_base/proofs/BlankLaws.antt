-- The place of a text's first blank.
use Rattle.std.proofs.Common.{◌≡◌, ◌<◌, ℕ, Bool, true, false, List, length, get_or, arith, refl}
use Rattle.std.specs.List.{position_or_len}
use Rattle.std.proofs.lemmas.List.Sums.{position_or_len_is}
use Rattle.union_base.specs.Blanks.{is_blank}

-- what is not true is false
pub false_of : (b : Bool) → (b ≡ true → ⊥) → b ≡ false
false_of true never = absurd (never refl)
false_of false never = refl

-- the place before which no byte is a blank, and where one is, or the text ends
pub blank_at : (text : List ℕ) (at : ℕ) → at < length text → ((k : ℕ) → k < at → is_blank (get_or text k 0) ≡ true → ⊥)
    → is_blank (get_or text at 0) ≡ true → position_or_len is_blank text ≡ at
blank_at text at within none here =
    position_or_len_is is_blank text at 0 (omega arith) (λ k lt. false_of (is_blank (get_or text k 0)) (none k lt)) (λ _. here)

-- a text without a blank
pub no_blank : (text : List ℕ) → ((k : ℕ) → k < length text → is_blank (get_or text k 0) ≡ true → ⊥) → position_or_len is_blank text ≡ length text
no_blank text none =
    position_or_len_is is_blank text (length text) 0 (omega arith) (λ k lt. false_of (is_blank (get_or text k 0)) (none k lt)) (λ lt. absurd (omega arith))
