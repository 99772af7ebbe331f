-- Bytes in memory that are given in pieces.
use Rattle.std.specs.Prelude.{ℕ, List, length, min}

-- the bytes that are left, and how many a piece has at most
pub record Pieces : Type 0 where
  pub left : List ℕ
  pub most : ℕ

-- how many bytes the next piece has: as many as are left, have room and are allowed
abbrev pub piece_size : List ℕ → ℕ → ℕ → ℕ
piece_size left room most = min (min (length left) room) most
