use Rattle.std.proofs.Common.{◌≡◌, ◌≤◌, ◌+◌, ◌*◌}
use Rattle.catalogue_lock.specs.Tokens.{view}
use Rattle.library_stream.specs.Streaming.{most_ahead}
use Rattle.library_batches.specs.Batches.{block_size}
use Rattle.library_batches.specs.Handing.{HandsOut}
use Rattle.library_batches.specs.Outcomes.{AreCounted, counted}
use Rattle.library_batches.specs.Reading.{most_bytes}
use Rattle.library_batches.specs.Tallies.{found}
use Rattle.load_sessions.specs.Sessions.{IsSameSession}
use Rattle.load_sessions.proofs.rounds.turn_rounds.Given as goal

-- the batches of the rounds so far were turned and what came of them was counted, and nothing failed
abbrev pub invariant-loop-batches : goal.invariant-loop-batches
invariant-loop-batches g l = record {
  keeps : IsSameSession g.S.Source.name l.turning.desk.now.board.shared.table_id l.fn.session l.session;
  faults : g.S.Source.faults l.session.source ≡ g.S.Source.faults l.fn.session.source;
  handed : HandsOut l.fn.session.prefer l.fn.session.library l.fn.session.limit (g.S.Source.left l.fn.session.source)
      (view l.session.pass).own l.reader (g.S.Source.left l.session.source);
  brought : AreCounted (found (view l.session.pass).seen (view l.session.pass).number) l.counts;
  few : counted l.counts + block_size * most_ahead l.reader.stream ≤ block_size * (most_bytes + 1);
  turns : l.turn + most_ahead l.reader.stream ≤ most_bytes + 1;
}

abbrev pub decreases-loop-batches : goal.decreases-loop-batches
decreases-loop-batches g l = most_ahead l.reader.stream
