-- The names of reasons.
use Rattle.std.specs.Prelude.{ℕ, List, [], ◌∷◌, ◌++◌, codes}
use Rattle.std.specs.List.{flat_map}
use Rattle.edition_doubts.specs.declared.doubts.Doubt.{Doubt}
use Rattle.edition_doubts.specs.declared.doubts.Doubt.TheVariants.{Titles, Isbns, Languages, Carriers, Statements, Sets, OwnNumbers}

-- by what name a reason is told
abbrev pub doubt_name : Doubt → List ℕ
doubt_name Titles = codes "titles"
doubt_name Isbns = codes "ISBNs"
doubt_name Languages = codes "languages"
doubt_name Carriers = codes "carriers"
doubt_name Statements = codes "edition statements"
doubt_name Sets = codes "set ISBN"
doubt_name OwnNumbers = codes "own numbers"

-- a comma, a blank and the name
abbrev pub next_name : Doubt → List ℕ
next_name d = codes ", " ++ doubt_name d

-- the names, with a comma between two
abbrev pub names_text : List Doubt → List ℕ
names_text [] = []
names_text (d ∷ rest) = doubt_name d ++ flat_map next_name rest
