use Rattle.std.proofs.Common.{◌≡◌, [], ◌∷◌, ◌++◌, length, refl, sym, ap, subst, ◌∙◌, arith, length-append}
use Rattle.std.proofs.lemmas.Result.{err_from_is_err_and}
use Rattle.iso2709_frame.specs.Cutting.{told}
use Rattle.library_stream.specs.Answering.{LendsCut, Takes}
use Rattle.library_stream.proofs.AheadLaws.{Takes-more}
use Rattle.library_batches.specs.Streams.{Frame}
use Rattle.library_batches.proofs.StopLaws.{cut-off}
use Rattle.library_batches.proofs.cutting.cut_block.Goals as goal

pub push_copy-requires : goal.push_copy-requires
push_copy-requires g c = subst (LendsCut c.in-Frame.cut) (sym c.frame.ensures) c.in-Frame.ensures.lends

pub returns-in_err-push_copy-in-Frame-clause-answers : goal.returns-in_err-push_copy-in-Frame-clause-answers
returns-in_err-push_copy-in-Frame-clause-answers g c =
    let before = c.loop-frame.invariant in
    let frame : Frame = (c.in-Frame.cut, c.next.new.self.frame) in
    let p = err_from_is_err_and c.from_residual.result c.from_residual.ensures.1 in
    rw (p.1, p.2) (
      frame ∷ [],
      subst (λ kept. Takes c.args.reader.now (g.S.Source.left c.args.source.now) c.next.new.self (g.S.Source.left c.next.new.source) (kept ++ frame ∷ []))
          (sym c.in_err-push_copy-in-Frame.ensures.unchanged)
          (Takes-more c.args.reader.now c.loop-frame.reader c.next.new.self (g.S.Source.left c.args.source.now)
          (g.S.Source.left c.loop-frame.source) (g.S.Source.left c.next.new.source) c.loop-frame.frames.items (frame ∷ []) before.takes
          c.in-Frame.ensures.answers),
      refl,
    )

pub returns-in-TooLong-clause-answers : goal.returns-in-TooLong-clause-answers
returns-in-TooLong-clause-answers g c =
    let before = c.loop-frame.invariant in
    let stops = c.in-TooLong.ensures.answers in (
      (
        told stops.rest [],
        Takes-more c.args.reader.now c.loop-frame.reader c.next.new.self (g.S.Source.left c.args.source.now)
            (g.S.Source.left c.loop-frame.source) (g.S.Source.left c.next.new.source) c.loop-frame.frames.items (told stops.rest []) before.takes
            stops.takes,
        cut-off stops.rest stops.cut_off,
      ),
      stops.stands,
    )

pub returns-in-Failed-clause-answers : goal.returns-in-Failed-clause-answers
returns-in-Failed-clause-answers g c =
    let before = c.loop-frame.invariant in (
      [],
      Takes-more c.args.reader.now c.loop-frame.reader c.next.new.self (g.S.Source.left c.args.source.now)
          (g.S.Source.left c.loop-frame.source) (g.S.Source.left c.next.new.source) c.loop-frame.frames.items [] before.takes
          c.in-Failed.ensures.answers,
      refl,
    )

pub loop-frame-preserved : goal.loop-frame-preserved
loop-frame-preserved g c =
    let before = c.loop-frame.invariant in
    let frame : Frame = (c.in-Frame.cut, c.next.new.self.frame) in
    let kept : c.push_copy.new.frames.items ≡ c.loop-frame.frames.items ++ frame ∷ [] =
    subst (λ lent. c.push_copy.new.frames.items ≡ c.loop-frame.frames.items ++ (c.in-Frame.cut, lent) ∷ []) c.frame.ensures c.in_ok-push_copy-in-Frame.ensures.kept in
    record {
      name = c.in-Frame.ensures.name ∙ before.name;
      faults = c.in-Frame.ensures.faults ∙ before.faults;
      takes = subst (Takes c.args.reader.now (g.S.Source.left c.args.source.now) c.next.new.self (g.S.Source.left c.next.new.source)) (sym kept)
          (Takes-more c.args.reader.now c.loop-frame.reader c.next.new.self (g.S.Source.left c.args.source.now)
          (g.S.Source.left c.loop-frame.source) (g.S.Source.left c.next.new.source) c.loop-frame.frames.items (frame ∷ []) before.takes
          c.in-Frame.ensures.answers);
      count = omega (arith, before.count, ap length kept, length-append c.loop-frame.frames.items (frame ∷ []));
      fewer = omega (arith, before.fewer, c.in-Frame.ensures.fewer, ap length kept, length-append c.loop-frame.frames.items (frame ∷ []));
    }
