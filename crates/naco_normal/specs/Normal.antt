-- The normal form of a text: nine steps, each on its list of characters. In outline they are those of NACO; which
-- characters are kept, replaced or deleted is this project's own.
use Rattle.std.specs.Prelude.{ℕ, ◌==◌, ◌||◌, Bool, not, if◌then◌else◌, List, [], ◌∷◌, codes, map, filter, flat_map}
use Rattle.std.specs.List.{list_any, slice_split}
use Rattle.ucd_category.specs.declared.GeneralCategory.TheVariants.{NonspacingMark, SpacingMark, EnclosingMark, ModifierLetter}
use Rattle.ucd_category.specs.declared.GeneralCategoryGroup.TheVariants.{Letter, Number}
use Rattle.ucd_category.specs.GeneralCategory.{general_category, general_category_eq}
use Rattle.ucd_category.specs.GeneralCategoryGroup.{in_group}
use Rattle.unicode_normalization.specs.Forms.{nfkd}
use Rattle.caseless.specs.Caseless.{default_case_fold}
use Rattle.naco_normal.specs.declared.form.Comma.{Comma}
use Rattle.naco_normal.specs.declared.form.Comma.TheVariants.{First, None}
use Rattle.naco_normal.specs.Words.{joined_words}
use Rattle.union_base.specs.Blanks.{blank}

-- a comma
abbrev pub comma_sign : ℕ
comma_sign = 0x2C

-- of category Mn, Me or Lm, or one of the signs ' [ ]
abbrev pub is_dropped : ℕ → Bool
is_dropped c =
    general_category_eq (general_category c) NonspacingMark
    || general_category_eq (general_category c) EnclosingMark
    || general_category_eq (general_category c) ModifierLetter
    || (c == 0x27)
    || (c == 0x5B)
    || (c == 0x5D)

-- æ as ae, œ as oe, ø as o, đ and ð as d, þ as th, ł as l, ı as i, and any other character as it is
abbrev pub plain_letters : ℕ → List ℕ
plain_letters c =
    if c == 0xE6 then codes "ae" else
    (if c == 0x153 then codes "oe" else
    (if c == 0xF8 then codes "o" else
    (if (c == 0x111) || (c == 0xF0) then codes "d" else
    (if c == 0xFE then codes "th" else
    (if c == 0x142 then codes "l" else
    (if c == 0x131 then codes "i" else c ∷ []))))))

-- of category L or N
abbrev pub is_letter_or_number : ℕ → Bool
is_letter_or_number c = in_group Letter (general_category c) || in_group Number (general_category c)

-- of category L, N or Mc, or one of the signs & + @ # ♭ ♯
abbrev pub is_kept : ℕ → Bool
is_kept c =
    is_letter_or_number c
    || general_category_eq (general_category c) SpacingMark
    || (c == 0x26)
    || (c == 0x2B)
    || (c == 0x40)
    || (c == 0x23)
    || (c == 0x266D)
    || (c == 0x266F)

-- a character, and whether it is kept
pub record Mark : Type 0 where
  pub char : ℕ
  pub kept : Bool

-- steps 1 to 3: compatibility decomposition, full case folding, and decomposition again
abbrev pub folded : List ℕ → List ℕ
folded cs = nfkd (default_case_fold (nfkd cs))

-- step 4: marks, modifier letters and the signs ' [ ] are deleted
abbrev pub without_deleted : List ℕ → List ℕ
without_deleted = filter (λ c. not (is_dropped c))

-- step 5: letters that have a plain spelling have it
abbrev pub with_plain_letters : List ℕ → List ℕ
with_plain_letters = flat_map plain_letters

-- step 6: which characters are kept
abbrev pub kept_marked : List ℕ → List Mark
kept_marked = map (λ c. record { char = c; kept = is_kept c })

-- step 7: the first comma is kept where a letter or number stands after it
abbrev pub first_comma_marked : List Mark → List Mark
first_comma_marked [] = []
first_comma_marked (m ∷ ms) =
    if m.char == comma_sign
    then record { char = m.char; kept = list_any (λ after. is_letter_or_number after.char) ms } ∷ ms
    else m ∷ first_comma_marked ms

-- with the first comma marked, where a form keeps it
abbrev pub comma_marked : Comma → List Mark → List Mark
comma_marked First ms = first_comma_marked ms
comma_marked None ms = ms

-- step 8: every other character becomes a blank
abbrev pub others_blank : List Mark → List ℕ
others_blank = map (λ m. if m.kept then m.char else blank)

-- step 9: runs of blanks become one blank, and none stands at an end
abbrev pub one_blank_between : List ℕ → List ℕ
one_blank_between cs = joined_words (slice_split (λ c. c == blank) cs)

-- the text after steps 1 to 5
abbrev pub letters : List ℕ → List ℕ
letters cs = with_plain_letters (without_deleted (folded cs))

-- steps 6 to 9
abbrev pub spaced : Comma → List ℕ → List ℕ
spaced comma cs = one_blank_between (others_blank (comma_marked comma (kept_marked cs)))

-- the normal form
abbrev pub normal_form : Comma → List ℕ → List ℕ
normal_form comma cs = spaced comma (letters cs)
