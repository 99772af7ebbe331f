-- Words in a row, with one blank between them.
use Rattle.std.specs.Prelude.{ℕ, ◌&&◌, Bool, true, false, not, if◌then◌else◌, List, [], ◌∷◌, ◌++◌, filter}
use Rattle.std.specs.List.{join_with_byte}
use Rattle.union_base.specs.Blanks.{blank}

-- the text is empty
abbrev pub is_empty : List ℕ → Bool
is_empty [] = true
is_empty (c ∷ cs) = false

-- the text, where it is not empty
abbrev pub where_not_empty : List ℕ → List (List ℕ)
where_not_empty text = if is_empty text then [] else text ∷ []

-- the words that are not empty, with one blank between each two
abbrev pub joined_words : List (List ℕ) → List ℕ
joined_words words = join_with_byte blank (filter (λ word. not (is_empty word)) words)

-- the text, ready for the next character: with a blank where a gap goes before that and the text isn't empty
abbrev pub after_gap : List ℕ → Bool → List ℕ
after_gap text gap = if gap && not (is_empty text) then text ++ blank ∷ [] else text

-- how many blanks a gap may add
abbrev pub gap_room : Bool → ℕ
gap_room gap = if gap then 1 else 0

-- two texts, with one blank between them where neither is empty
abbrev pub joined : List ℕ → List ℕ → List ℕ
joined text more = if is_empty more then text else after_gap text true ++ more
