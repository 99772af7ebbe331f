use Rattle.std.proofs.Common.{◌≡◌, ℕ, ◌+◌, List, ◌++◌, drop}
use Rattle.std.specs.List.{flat_map}
use Rattle.catalogue_export.specs.Writing.{IsWrittenTo}
use Rattle.union_watch.specs.TurnLines.{turn_text, turns_from, turns_text}
use Rattle.union_watch.proofs.writing.write_turns.Given as goal

-- the lines on the turns before this one were written, or are pending, and those after them make up the whole
abbrev pub invariant-loop-turn : goal.invariant-loop-turn
invariant-loop-turn g l = record {
  text : List ℕ;
  whole : l.initial.pending.items ++ turns_text l.catalogue.history ≡ text ++ flat_map turn_text (turns_from (l.turn + 1) (drop l.turn l.catalogue.history));
  moved : IsWrittenTo text l.pending.items (g.O.Sink.written l.initial.out) (g.O.Sink.written l.out);
  calm : g.O.Sink.faults l.out ≡ g.O.Sink.faults l.initial.out;
}
