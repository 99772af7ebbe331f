use Rattle.std.proofs.Common.{◌++◌, map}
use Rattle.union_watch.specs.AskLines.{line_meaning}
use Rattle.union_watch.specs.Told.{told_of, told_text_of}
use Rattle.union_watch.specs.TurnLines.{turns_text}
use Rattle.union_watch.proofs.PieceLaws.{both-written, second-stops}
use Rattle.union_watch.proofs.writing.write_watch.Goals as goal

pub returns-in-Ok : goal.returns-in-Ok
returns-in-Ok g c =
    both-written (g.O.Sink.written c.args.out.now) (g.O.Sink.written c.write_turns.new.out) (g.O.Sink.written c.write_lines.new.out) (g.O.Sink.written c.hand_on_rest.new.out)
    (g.O.Sink.faults c.args.out.now) (g.O.Sink.faults c.write_turns.new.out) (g.O.Sink.faults c.write_lines.new.out) (g.O.Sink.faults c.hand_on_rest.new.out)
    (turns_text c.args.catalogue.now.history) c.write_turns.new.pending.items
    (told_text_of (told_of (map line_meaning c.args.lines.now) (c.args.beside.items ++ c.args.late.items))) c.write_lines.new.pending.items c.hand_on_rest.result
    (rw c.new-pending.ensures.items at c.in_ok-write_turns.ensures)
    (rw (c.as_slice.ensures.value, c.in_ok-replies.ensures) at c.in-Ok.ensures)
    (rw c.as_slice-in-Ok.ensures.value at c.hand_on_rest.ensures)

pub returns : goal.returns
returns g c =
    second-stops (g.O.Sink.written c.args.out.now) (g.O.Sink.written c.write_turns.new.out) (g.O.Sink.written c.write_lines.new.out)
    (g.O.Sink.faults c.args.out.now) (g.O.Sink.faults c.write_turns.new.out) (g.O.Sink.faults c.write_lines.new.out)
    (turns_text c.args.catalogue.now.history) c.write_turns.new.pending.items
    (told_text_of (told_of (map line_meaning c.args.lines.now) (c.args.beside.items ++ c.args.late.items))) c.write_lines.new.pending.items c.in-Err.fail
    (rw c.new-pending.ensures.items at c.in_ok-write_turns.ensures)
    (rw (c.as_slice.ensures.value, c.in_ok-replies.ensures) at c.in-Err.ensures)
