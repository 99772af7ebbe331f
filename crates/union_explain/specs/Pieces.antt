-- What the fields of a reader of bytes mean.
use Rattle.std.specs.Prelude.{◌≡◌, ◌≤◌, take, drop, vec_len}
use Rattle.library_batches.specs.Reading.{most_bytes}
use Rattle.union_explain.specs.Readings.{Reading}
use Rattle.union_explain.specs.declared.byte_reader.ByteReader.TheInside.{Inside}
use Rattle.union_explain.specs.declared.byte_reader.TheConstants.{PIECE}

-- the bytes of the piece that are not yet given, and how many were given
abbrev pub reading_of : Inside → Reading
reading_of reader = record { unread = drop reader.from (take reader.to reader.piece.items); at = reader.at }

-- the bytes lie in the room of a piece, and no more than 2^40 were given
pub record IsInPlace (reader : Inside) : Type 0 where
  pub room : vec_len reader.piece ≡ PIECE
  pub end : reader.to ≤ PIECE
  pub front : reader.from ≤ reader.to
  pub within : reader.at ≤ most_bytes
