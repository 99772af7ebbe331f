-- How often each reason stands.
use Rattle.std.specs.Prelude.{ℕ, ◌==◌, Bool, List, ◌++◌, codes, decimal, count_by}
use Rattle.std.specs.List.{flat_map}
use Rattle.edition_doubts.specs.Doubts.{all_doubts}
use Rattle.edition_doubts.specs.declared.doubts.Doubt.{Doubt}
use Rattle.edition_doubts.specs.declared.doubts.Doubt.TheVariants.{Titles, Isbns, Languages, Carriers, Statements, Sets, OwnNumbers}
use Rattle.doubt_texts.specs.Names.{doubt_name}

-- the place of a reason among all
abbrev pub number_of : Doubt → ℕ
number_of Titles = 0
number_of Isbns = 1
number_of Languages = 2
number_of Carriers = 3
number_of Statements = 4
number_of Sets = 5
number_of OwnNumbers = 6

-- whether the reasons are one
abbrev pub is_same : Doubt → Doubt → Bool
is_same c d = number_of c == number_of d

-- a reason's name, and how often it is among these
abbrev pub count_line : List Doubt → Doubt → List ℕ
count_line doubts d = doubt_name d ++ (codes " " ++ (decimal (count_by (is_same d) doubts) ++ codes "\n"))

-- a line for each
abbrev pub counts_text : List Doubt → List ℕ
counts_text doubts = flat_map (count_line doubts) all_doubts
