use Rattle.std.proofs.Common.{◌≡◌, ◌≢◌, ◌≤◌, ◌+◌, ◌*◌}
use Rattle.std.specs.Prelude.{Err}
use Rattle.union_io.specs.Causes.{Rose}
use Rattle.catalogue_lock.specs.Tokens.{view}
use Rattle.library_batches.specs.Batches.{block_size}
use Rattle.library_batches.specs.Outcomes.{AreCounted, counted}
use Rattle.library_batches.specs.Reading.{most_bytes}
use Rattle.library_batches.specs.declared.stop.Stop.TheVariants.{Failed}
use Rattle.load_sessions.specs.Sessions.{IsSameSession}
use Rattle.library_batches.specs.Tallies.{found}
use Rattle.load_sessions.proofs.AheadLaws.{Awaits, to_come}
use Rattle.load_sessions.proofs.turning.turn_batches.Given as goal

-- the batches before the reader's last answer were turned and what came of them was counted, and only that answer may tell of a failure
abbrev pub invariant-loop-change : goal.invariant-loop-change
invariant-loop-change g l = record {
  keeps : IsSameSession g.S.Source.name l.turning.desk.now.board.shared.table_id l.fn.session l.session;
  failed : l.next ≡ Err Failed → Rose (g.S.Source.faults l.fn.session.source) (g.S.Source.faults l.session.source);
  calm : l.next ≢ Err Failed → g.S.Source.faults l.session.source ≡ g.S.Source.faults l.fn.session.source;
  awaits : Awaits l.fn.session.prefer l.fn.session.library l.fn.session.limit (g.S.Source.left l.fn.session.source)
      (view l.session.pass).own l.next l.reader (g.S.Source.left l.session.source);
  brought : AreCounted (found (view l.session.pass).seen (view l.session.pass).number) l.counts;
  few : counted l.counts + block_size * to_come l.next l.reader ≤ block_size * (most_bytes + 1);
  turns : l.turn + to_come l.next l.reader ≤ most_bytes + 1;
}

abbrev pub decreases-loop-change : goal.decreases-loop-change
decreases-loop-change g l = to_come l.next l.reader
