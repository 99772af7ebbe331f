use Rattle.std.proofs.Common.{◌++◌, ◌∷◌, [], sym, subst, ◌∙◌, arith}
use Rattle.library_stream.proofs.AheadLaws.{Takes-more, handed_all}
use Rattle.library_stream.specs.Streaming.{opened}
use Rattle.library_stream.specs.declared.frame_reader.TheConstants.{LARGEST_SOURCE}
use Rattle.union_watch.specs.Tallies.{IsTally}
use Rattle.union_files.proofs.SourceLaws.{on_told}
use Rattle.union_watch.proofs.check.count_frames.Goals as goal

pub loop-cut-preserved : goal.loop-cut-preserved
loop-cut-preserved g c =
    let before = c.loop-cut.invariant in
    record {
      name = c.in-Frame.ensures.name ∙ before.name;
      faults = c.in-Frame.ensures.faults ∙ before.faults;
      all = before.all ++ (c.in-Frame.cut, c.next.new.self.frame) ∷ [];
      taken = Takes-more (opened LARGEST_SOURCE) c.loop-cut.reader c.next.new.self (g.S.Source.left c.args.source.now)
          (g.S.Source.left c.loop-cut.source) (g.S.Source.left c.next.new.source) before.all ((c.in-Frame.cut, c.next.new.self.frame) ∷ []) before.taken
          c.in-Frame.ensures.answers;
      counted = rw c.frame.ensures at (c.in_ok-count_frame-in-Frame.ensures.counted before.all before.counted);
      few = omega (arith, c.in_ok-count_frame-in-Frame.ensures.frames, c.in-Frame.ensures.fewer, before.few);
    }

pub returns-in-End-clause-reads : goal.returns-in-End-clause-reads
returns-in-End-clause-reads g c =
    let before = c.loop-cut.invariant in
    let told = g.S.Source.left c.args.source.now in (
      c.in-End.ensures.faults ∙ before.faults,
      on_told told (λ bytes handed. (handed.fits, subst (λ fs. IsTally fs c.loop-cut.tally) (sym handed.all) before.counted))
          (handed_all LARGEST_SOURCE c.loop-cut.reader c.next.new.self told (g.S.Source.left c.loop-cut.source) (g.S.Source.left c.next.new.source) before.all
          before.taken c.in-End.ensures.answers),
    )
