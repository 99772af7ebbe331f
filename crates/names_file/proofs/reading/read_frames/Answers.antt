use Rattle.std.proofs.Common.{◌≡◌, ◌++◌, ◌∷◌, [], sym, ap, subst, ◌∙◌, arith}
use Rattle.std.specs.Prelude.{map}
use Rattle.std.proofs.lemmas.List.{map-append}
use Rattle.library_stream.proofs.AheadLaws.{Takes-more, handed_all}
use Rattle.library_stream.specs.Answering.{Takes}
use Rattle.library_stream.specs.Streaming.{opened}
use Rattle.library_stream.specs.declared.frame_reader.TheConstants.{LARGEST_SOURCE}
use Rattle.union_files.proofs.SourceLaws.{on_told}
use Rattle.names_file.specs.Judging.{Judged}
use Rattle.names_file.proofs.reading.read_frames.Goals as goal

pub loop-cut-preserved : goal.loop-cut-preserved
loop-cut-preserved g c =
    let before = c.loop-cut.invariant in
    let told = g.S.Source.left c.args.source.now in
    let now = g.S.Source.left c.next.new.source in
    let frame_of = λ (one : Judged). one.frame in
    let read = c.in_ok-take-in-Frame.ensures.read before.all before.read in
    let same : read.0.frame ≡ (c.in-Frame.cut, c.next.new.self.frame) = read.1 ∙ ap (λ bytes. (c.in-Frame.cut, bytes)) c.frame.ensures in
    record {
      name = c.in-Frame.ensures.name ∙ before.name;
      faults = c.in-Frame.ensures.faults ∙ before.faults;
      all = before.all ++ read.0 ∷ [];
      taken =
          subst (λ all. Takes (opened LARGEST_SOURCE) told c.next.new.self now all)
          (ap (λ frame. map frame_of before.all ++ frame ∷ []) (sym same) ∙ sym (map-append frame_of before.all (read.0 ∷ [])))
          (Takes-more (opened LARGEST_SOURCE) c.loop-cut.reader c.next.new.self told (g.S.Source.left c.loop-cut.source) now (map frame_of before.all)
          ((c.in-Frame.cut, c.next.new.self.frame) ∷ []) before.taken c.in-Frame.ensures.answers);
      read = read.2;
      few = omega (arith, c.in_ok-take-in-Frame.ensures.frames, c.in-Frame.ensures.fewer, before.few);
    }

pub returns-in-End-clause-reads : goal.returns-in-End-clause-reads
returns-in-End-clause-reads g c =
    let before = c.loop-cut.invariant in
    let told = g.S.Source.left c.args.source.now in (
      c.in-End.ensures.faults ∙ before.faults,
      on_told told (λ bytes handed. (handed.fits, record { all = before.all; frames_are = sym handed.all; read = before.read }))
          (handed_all LARGEST_SOURCE c.loop-cut.reader c.next.new.self told (g.S.Source.left c.loop-cut.source) (g.S.Source.left c.next.new.source)
          (map (λ (one : Judged). one.frame) before.all) before.taken c.in-End.ensures.answers),
    )
