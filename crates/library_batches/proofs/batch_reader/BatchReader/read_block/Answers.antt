use Rattle.std.proofs.Common.{◌≡◌, ◌+◌, length, ◌++◌, ◌∷◌, [], refl, sym, subst, ◌∙◌, arith, length-append}
use Rattle.std.proofs.lemmas.Result.{err_from_is_err_and}
use Rattle.iso2709_frame.specs.Cutting.{told}
use Rattle.library_stream.specs.Answering.{Takes}
use Rattle.library_stream.proofs.AheadLaws.{Takes-more}
use Rattle.library_batches.specs.Streams.{Frame}
use Rattle.library_batches.specs.Refused.{refused_from}
use Rattle.library_batches.specs.Blocks.{IsChecked}
use Rattle.library_batches.specs.Reading.{Batching}
use Rattle.library_batches.proofs.StopLaws.{cut-off}
use Rattle.library_batches.proofs.batch_reader.BatchReader.read_block.Goals as goal

pub returns-in_err-check_next-in-Frame-clause-answers : goal.returns-in_err-check_next-in-Frame-clause-answers
returns-in_err-check_next-in-Frame-clause-answers g c =
    let before = c.loop-frame.invariant in
    let frame : Frame = (c.in-Frame.cut, c.next.new.self.frame) in
    let p = err_from_is_err_and c.from_residual.result c.from_residual.ensures.1 in
    rw (p.1, p.2) (record {
      checked = before.taken;
      lost = frame ∷ [];
      takes = subst (λ (a : Batching). Takes a.stream (g.S.Source.left c.args.source.now) c.next.new.self (g.S.Source.left c.next.new.source) (before.taken ++ frame ∷ []))
          c.self.view_is (Takes-more c.self.inside.reader c.loop-frame.self-inside.reader c.next.new.self (g.S.Source.left c.args.source.now)
          (g.S.Source.left c.loop-frame.source) (g.S.Source.left c.next.new.source) before.taken (frame ∷ []) before.takes
          c.in-Frame.ensures.answers);
      lost_are = refl;
      refused = subst (λ (a : Batching). c.check_next.new.refused.items ≡ a.refused ++ refused_from (a.frames + 1) before.taken) c.self.view_is
          (c.in_err-check_next-in-Frame.ensures.kept ∙ before.checked.refused);
    })

pub returns-in-TooLong-clause-answers : goal.returns-in-TooLong-clause-answers
returns-in-TooLong-clause-answers g c =
    let before = c.loop-frame.invariant in
    let stops = c.in-TooLong.ensures.answers in (
      record {
        checked = before.taken;
        lost = told stops.rest [];
        takes = subst (λ (a : Batching). Takes a.stream (g.S.Source.left c.args.source.now) c.next.new.self (g.S.Source.left c.next.new.source) (before.taken ++ told stops.rest []))
            c.self.view_is (Takes-more c.self.inside.reader c.loop-frame.self-inside.reader c.next.new.self (g.S.Source.left c.args.source.now)
            (g.S.Source.left c.loop-frame.source) (g.S.Source.left c.next.new.source) before.taken (told stops.rest []) before.takes
            stops.takes);
        lost_are = cut-off stops.rest stops.cut_off;
        refused = subst (λ (a : Batching). c.loop-frame.self-inside.refused.items ≡ a.refused ++ refused_from (a.frames + 1) before.taken) c.self.view_is before.checked.refused;
      },
      stops.stands,
    )

pub returns-in-Failed-clause-answers : goal.returns-in-Failed-clause-answers
returns-in-Failed-clause-answers g c =
    let before = c.loop-frame.invariant in
    record {
      checked = before.taken;
      lost = [];
      takes = subst (λ (a : Batching). Takes a.stream (g.S.Source.left c.args.source.now) c.next.new.self (g.S.Source.left c.next.new.source) (before.taken ++ []))
          c.self.view_is (Takes-more c.self.inside.reader c.loop-frame.self-inside.reader c.next.new.self (g.S.Source.left c.args.source.now)
          (g.S.Source.left c.loop-frame.source) (g.S.Source.left c.next.new.source) before.taken [] before.takes
          c.in-Failed.ensures.answers);
      lost_are = refl;
      refused = subst (λ (a : Batching). c.loop-frame.self-inside.refused.items ≡ a.refused ++ refused_from (a.frames + 1) before.taken) c.self.view_is before.checked.refused;
    }

pub loop-frame-preserved : goal.loop-frame-preserved
loop-frame-preserved g c =
    let before = c.loop-frame.invariant in
    let frame : Frame = (c.in-Frame.cut, c.next.new.self.frame) in
    let place : c.loop-frame.self-inside.frames + 1 ≡ (c.self.inside.frames + 1) + length before.taken = omega arith in
    record {
      name = c.in-Frame.ensures.name ∙ before.name;
      faults = c.in-Frame.ensures.faults ∙ before.faults;
      prefer = before.prefer;
      library = before.library;
      taken = before.taken ++ frame ∷ [];
      takes = Takes-more c.self.inside.reader c.loop-frame.self-inside.reader c.next.new.self (g.S.Source.left c.args.source.now)
          (g.S.Source.left c.loop-frame.source) (g.S.Source.left c.next.new.source) before.taken (frame ∷ []) before.takes
          c.in-Frame.ensures.answers;
      count = omega (arith, before.count, length-append before.taken (frame ∷ []));
      checked = subst (λ p. IsChecked p c.self.inside.library (c.self.inside.frames + 1) (before.taken ++ frame ∷ []) c.check_next.new.ops.items c.self.inside.refused.items c.check_next.new.refused.items)
          before.prefer (subst (λ code. IsChecked c.loop-frame.self-inside.prefer code (c.self.inside.frames + 1) (before.taken ++ frame ∷ []) c.check_next.new.ops.items c.self.inside.refused.items c.check_next.new.refused.items)
          before.library (subst (λ fr. IsChecked c.loop-frame.self-inside.prefer c.loop-frame.self-inside.library (c.self.inside.frames + 1) (before.taken ++ (c.in-Frame.cut, fr) ∷ []) c.check_next.new.ops.items
          c.self.inside.refused.items c.check_next.new.refused.items) c.frame.ensures
          (c.in_ok-check_next-in-Frame.ensures.checked (c.self.inside.frames + 1) before.taken c.self.inside.refused.items place
          (subst (λ p. IsChecked p c.loop-frame.self-inside.library (c.self.inside.frames + 1) before.taken c.loop-frame.ops.items c.self.inside.refused.items c.loop-frame.self-inside.refused.items)
          (sym before.prefer) (subst (λ code. IsChecked c.self.inside.prefer code (c.self.inside.frames + 1) before.taken c.loop-frame.ops.items c.self.inside.refused.items c.loop-frame.self-inside.refused.items)
          (sym before.library) before.checked)))));
      frames = omega (arith, before.frames, length-append before.taken (frame ∷ []));
      fewer = omega (arith, before.fewer, c.in-Frame.ensures.fewer, length-append before.taken (frame ∷ []));
      within = omega (arith, before.within, c.in-Frame.ensures.fewer);
    }
