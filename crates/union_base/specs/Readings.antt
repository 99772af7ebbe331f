-- How a field's bytes are read back: the content that they spell, where they spell one.
use Rattle.std.specs.Prelude.{◌≡◌, ℕ, Bool, true, not, ◌==◌, if◌then◌else◌, List, [], ◌∷◌}
use Rattle.std.specs.List.{list_all}
use Rattle.union_base.specs.Bodies.{Subfield, Body, Control, Data}
use Rattle.union_base.specs.Fields.{delimiter, spelled}

-- none of the bytes begins a subfield
abbrev pub is_undelimited : List ℕ → Bool
is_undelimited bytes = list_all (λ b. not (b == delimiter)) bytes

-- the bytes are none, or the next subfield
abbrev pub is_end : List ℕ → Bool
is_end [] = true
is_end (b ∷ rest) = b == delimiter

-- what stands before the first delimiter
abbrev pub text_in : List ℕ → List ℕ
text_in [] = []
text_in (b ∷ bytes) = if b == delimiter then [] else b ∷ text_in bytes

-- the subfield of the bytes after a delimiter: the code, and the text
abbrev pub subfield_of : List ℕ → Subfield
subfield_of [] = record { code = 0; text = [] }
subfield_of (code ∷ text) = record { code = code; text = text }

-- a subfield for each delimiter, with what stands before the next one
abbrev pub subfields_in : List ℕ → List Subfield
subfields_in [] = []
subfields_in (b ∷ bytes) = if b == delimiter then subfield_of (text_in bytes) ∷ subfields_in bytes else subfields_in bytes

-- a data field has a delimiter after two indicators; all else is a control field's text
abbrev pub body_in : List ℕ → Body
body_in (ind1 ∷ ind2 ∷ b ∷ rest) =
    if b == delimiter then Data ind1 ind2 (subfields_in (b ∷ rest)) else Control (ind1 ∷ ind2 ∷ b ∷ rest)
body_in (b ∷ c ∷ []) = Control (b ∷ c ∷ [])
body_in (b ∷ []) = Control (b ∷ [])
body_in [] = Control []

-- the bytes spell what is read in them
abbrev pub IsSpelling : List ℕ → Type 0
IsSpelling bytes = spelled (body_in bytes) ≡ bytes
