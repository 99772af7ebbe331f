-- What the fields of a table mean.
use Rattle.std.specs.Prelude.{ℕ, ◌≤◌, Bool, List, vec_len}
use Rattle.union_explain.specs.declared.table.Table.TheInside.{Inside}

-- the text of the rows, how many there are, and whether some line tells of no frame of its file
pub record Written : Type 0 where
  pub text : List ℕ
  pub rows : ℕ
  pub astray : Bool

-- the table as its value
abbrev pub written_of : Inside → Written
written_of table = record { text = table.text.items; rows = table.rows; astray = table.astray }

-- each row has a byte at least
abbrev pub IsCounted : Inside → Type 0
IsCounted table = table.rows ≤ vec_len table.text
