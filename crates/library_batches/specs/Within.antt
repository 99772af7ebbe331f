-- How many frames a reader of batches can come to.
use Rattle.std.specs.Prelude.{◌+◌, ◌≤◌}
use Rattle.library_stream.specs.Streaming.{most_ahead}
use Rattle.library_batches.specs.Reading.{most_bytes}
use Rattle.library_batches.specs.declared.batch_reader.BatchReader.TheInside.{Inside}

-- as many frames as the largest source has bytes, and one more that the end cuts off, at most
abbrev pub IsWithin : Inside → Type 0
IsWithin reader = reader.frames + most_ahead reader.reader ≤ most_bytes + 1
