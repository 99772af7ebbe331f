-- Lines that end, and lines that go on.
use Rattle.std.proofs.Common.{◌≡◌, ◌<◌, ℕ, suc, Bool, true, false, List, [], ◌∷◌, ◌++◌, length, take, drop, get_or, drop-cons, take-append-drop, append_assoc, append-nil, refl, sym, ap, ◌∙◌, arith}
use Rattle.std.proofs.lemmas.Bool.Decides.{nat_tests}
use Rattle.std.proofs.lemmas.List.{get_or_default}
use Rattle.std.proofs.lemmas.List.Elements.{All-append}
use Rattle.std.proofs.lemmas.List.Splits.{slice_split_at, slice_split_none}
use Rattle.std.specs.List.{All, AllZip}
use Rattle.union_json.specs.Lines.{is_feed, raw_lines}

-- no byte ends a line
abbrev pub IsOpen : List ℕ → Type 0
IsOpen text = All (λ b. is_feed b ≡ false) text

-- the line that begins in one piece and ends in the next
pub line_ends : (begun part more : List ℕ) → IsOpen begun → IsOpen part
    → raw_lines (begun ++ (part ++ 0x0A ∷ more)) ≡ (begun ++ part) ∷ raw_lines more
line_ends begun part more one other =
    ap raw_lines (sym (append_assoc begun part (0x0A ∷ more)))
    ∙ slice_split_at is_feed (begun ++ part) 0x0A more (All-append (λ b. is_feed b ≡ false) begun part one other) refl

-- the last line
pub line_last : (begun : List ℕ) → IsOpen begun → raw_lines begun ≡ begun ∷ []
line_last begun open_line = slice_split_none is_feed begun open_line

-- the lines of a text that goes on with the end of a line
pub lines_ended : (text begun part : List ℕ) (done : List (List ℕ)) → ((more : List ℕ) → raw_lines (text ++ more) ≡ done ++ raw_lines (begun ++ more))
    → IsOpen begun → IsOpen part
    → (more : List ℕ) → raw_lines ((text ++ (part ++ 0x0A ∷ [])) ++ more) ≡ (done ++ (begun ++ part) ∷ []) ++ raw_lines more
lines_ended text begun part done lines one other more =
    ap raw_lines (append_assoc text (part ++ 0x0A ∷ []) more ∙ ap (λ t. text ++ t) (append_assoc part (0x0A ∷ []) more))
    ∙ lines (part ++ 0x0A ∷ more)
    ∙ ap (λ ls. done ++ ls) (line_ends begun part more one other)
    ∙ sym (append_assoc done ((begun ++ part) ∷ []) (raw_lines more))

-- the lines of a text that goes on within a line
pub lines_held : (text begun part : List ℕ) (done : List (List ℕ)) → ((more : List ℕ) → raw_lines (text ++ more) ≡ done ++ raw_lines (begun ++ more))
    → (more : List ℕ) → raw_lines ((text ++ part) ++ more) ≡ done ++ raw_lines ((begun ++ part) ++ more)
lines_held text begun part done lines more =
    ap raw_lines (append_assoc text part more) ∙ lines (part ++ more) ∙ ap (λ t. done ++ raw_lines t) (sym (append_assoc begun part more))

-- the lines of a text that ends
pub lines_whole : (text begun : List ℕ) (done : List (List ℕ)) → ((more : List ℕ) → raw_lines (text ++ more) ≡ done ++ raw_lines (begun ++ more))
    → IsOpen begun → raw_lines text ≡ done ++ begun ∷ []
lines_whole text begun done lines open_line =
    ap raw_lines (sym (append-nil text)) ∙ lines [] ∙ ap (λ t. done ++ raw_lines t) (append-nil begun) ∙ ap (λ ls. done ++ ls) (line_last begun open_line)

-- what is not true is false
false_of : (b : Bool) → (b ≡ true → ⊥) → b ≡ false
false_of true never = absurd (never refl)
false_of false never = refl

-- a text of which no byte ends a line, by its places
pub open_by_place : (text : List ℕ) → ((k : ℕ) → k < length text → is_feed (get_or text k 0) ≡ true → ⊥) → IsOpen text
open_by_place text none = λ k d lt. rw (get_or_default text k d 0 lt) (false_of (is_feed (get_or text k 0)) (none k lt))

-- a pair more
pub zip_push : {X Y : Type 0} (R : X → Y → Type 0) (xs : List X) (ys : List Y) (x : X) (y : Y) → AllZip R xs ys → R x y
    → AllZip R (xs ++ x ∷ []) (ys ++ y ∷ [])
zip_push R [] [] x y are is = (is, tt)
zip_push R [] (b ∷ ys) x y are is = absurd are
zip_push R (a ∷ xs) [] x y are is = absurd are
zip_push R (a ∷ xs) (b ∷ ys) x y are is = (are.0, zip_push R xs ys x y are.1 is)

-- a text around its first line feed
pub feed_parts : (rest part behind later : List ℕ) (at : ℕ) → at < length rest → is_feed (get_or rest at 0) ≡ true → part ≡ take at rest
    → behind ≡ drop at rest → later ≡ drop 1 behind → rest ≡ (part ++ 0x0A ∷ []) ++ later
feed_parts rest part behind later at within is front back after =
    let feed : get_or rest at 0 ≡ 0x0A = grind (arith, nat_tests, is) in
    let split : behind ≡ 0x0A ∷ drop (suc at) rest = back ∙ drop-cons rest at 0 within ∙ ap (λ b. b ∷ drop (suc at) rest) feed in
    let rest_is : later ≡ drop (suc at) rest = after ∙ ap (drop 1) split in
    sym (take-append-drop at rest)
    ∙ ap (λ t. t ++ drop at rest) (sym front)
    ∙ ap (λ t. part ++ t) (sym back ∙ split ∙ ap (λ t. 0x0A ∷ t) (sym rest_is))
    ∙ sym (append_assoc part (0x0A ∷ []) later)
