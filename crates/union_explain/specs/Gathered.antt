-- What the fields of a frame mean.
use Rattle.union_explain.specs.Located.{Located}
use Rattle.union_explain.specs.declared.frame.Frame.TheInside.{Inside}

-- the frame as its value
abbrev pub gathered_of : Inside → Located
gathered_of frame = record { first = frame.first; size = frame.size; ended = frame.ended; bytes = frame.bytes.items }
