-- The first line of a text.
use Rattle.std.proofs.Common.{◌≡◌, ◌<◌, ◌+◌, ◌==◌, ℕ, Bool, true, false, List, [], ◌∷◌, map, length, take, drop, get_or, ap, subst, arith, refl}
use Rattle.std.specs.List.{slice_split, position_or_len, before_first, after_first}
use Rattle.std.proofs.lemmas.List.{get_or_default}
use Rattle.std.proofs.lemmas.List.Sums.{position_or_len_is}
use Rattle.std.proofs.lemmas.List.Splits.{slice_split_first, slice_split_none}
use Rattle.union_words.specs.Lines.{lines_of, without_return}

-- a byte ends a line
abbrev is_feed : ℕ → Bool
is_feed b = b == 0x0A

-- what is not true is false
false_of : (b : Bool) → (b ≡ true → ⊥) → b ≡ false
false_of true never = absurd (never refl)
false_of false never = refl

-- the first line ends at the first line feed
pub line_at : (text : List ℕ) (at : ℕ) → at < length text → ((k : ℕ) → k < at → is_feed (get_or text k 0) ≡ true → ⊥)
    → is_feed (get_or text at 0) ≡ true → lines_of text ≡ without_return (take at text) ∷ lines_of (drop (at + 1) text)
line_at text at within none here =
    let place : position_or_len is_feed text ≡ at =
    position_or_len_is is_feed text at 0 (omega arith) (λ k lt. false_of (is_feed (get_or text k 0)) (none k lt)) (λ _. here) in
    let split : slice_split is_feed text ≡ before_first is_feed text ∷ slice_split is_feed (after_first is_feed text) =
    slice_split_first is_feed text 0 (rw place within) in
    let P : ℕ → Type 0 = λ n. slice_split is_feed text ≡ take n text ∷ slice_split is_feed (drop (n + 1) text) in
    ap (map without_return) (subst P place split)

-- without a line feed the text is one line
pub line_whole : (text : List ℕ) → ((k : ℕ) → k < length text → is_feed (get_or text k 0) ≡ true → ⊥)
    → lines_of text ≡ without_return text ∷ []
line_whole text none =
    ap (map without_return) (slice_split_none is_feed text (λ k d lt. rw (get_or_default text k d 0 lt) (false_of (is_feed (get_or text k 0)) (none k lt))))
