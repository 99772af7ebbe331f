-- What the fields of a piece mean.
use Rattle.std.specs.Prelude.{◌≡◌, ℕ, ◌≤◌, List, take, drop, vec_len}
use Rattle.library_stream.specs.declared.piece.Piece.TheInside.{Inside}
use Rattle.library_stream.specs.declared.piece.TheConstants.{PIECE}

-- the bytes of the piece that are unread
abbrev pub unread_of : Inside → List ℕ
unread_of piece = drop piece.from (take piece.to piece.bytes.items)

-- the unread bytes lie in the room of a piece
pub record IsInPlace (piece : Inside) : Type 0 where
  pub room : vec_len piece.bytes ≡ PIECE
  pub end : piece.to ≤ PIECE
  pub front : piece.from ≤ piece.to
