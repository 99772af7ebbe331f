-- The lines of answers, each without the line feed at its end.
use Rattle.std.specs.Prelude.{ℕ, ◌==◌, ◌||◌, nat_lt, if◌then◌else◌, List, ◌∷◌, ◌++◌, map, codes, decimal}
use Rattle.union_base.specs.declared.record_id.RecordId.{RecordId}
use Rattle.workset_keys.specs.WorkKeys.{own_name}
use Rattle.holdings_book.specs.declared.holdings.Holding.{Holding}

-- `edition LIB.CTL`
abbrev pub edition_line : RecordId → List ℕ
edition_line least = codes "edition " ++ own_name least

-- `by LIB.CTL`
abbrev pub by_line : RecordId → List ℕ
by_line contributor = codes "by " ++ own_name contributor

-- `work KEY`
abbrev pub work_line : List ℕ → List ℕ
work_line key = codes "work " ++ key

-- a blank for a control character, which could end a line, and for the sign | that parts the texts of a holding
abbrev pub plain_byte : ℕ → ℕ
plain_byte b = if nat_lt b 0x20 || (b == 0x7F) || (b == 0x7C) then 0x20 else b

-- a text of a holding, after its sign |
abbrev pub cell : List ℕ → List ℕ
cell text = 0x7C ∷ map plain_byte text

-- `hold LIB.CTL|location|sublocation|classification`
abbrev pub hold_line : Holding → List ℕ
hold_line h = codes "hold " ++ own_name h.id ++ cell h.location ++ cell h.sublocation ++ cell h.classification

-- a word and a number in decimal digits
unfoldable pub counted : List ℕ → ℕ → List ℕ
counted word number = word ++ decimal number

-- `editions E works W records R`
abbrev pub count_line : ℕ → ℕ → ℕ → List ℕ
count_line editions works records = counted (codes "editions ") editions ++ counted (codes " works ") works ++ counted (codes " records ") records
