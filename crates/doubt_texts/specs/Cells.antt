-- The cells of a table (RFC 4180): a cell stands in quotation marks, and each one in it is written twice.
use Rattle.std.specs.Prelude.{ℕ, ◌==◌, if◌then◌else◌, List, [], ◌∷◌, ◌++◌, codes}
use Rattle.std.specs.List.{flat_map}

-- a quotation mark twice, and each other byte once
abbrev pub doubled : ℕ → List ℕ
doubled b = if b == 0x22 then 0x22 ∷ (0x22 ∷ []) else b ∷ []

-- a cell with these bytes
abbrev pub cell_text : List ℕ → List ℕ
cell_text bytes = codes "\"" ++ (flat_map doubled bytes ++ codes "\"")
