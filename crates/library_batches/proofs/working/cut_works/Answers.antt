use Rattle.std.proofs.Common.{length, ap, subst, ◌∙◌, arith}
use Rattle.std.specs.Prelude.{Ok}
use Rattle.std.proofs.lemmas.Result.{err_from_is_err_and}
use Rattle.library_batches.specs.Works.{AddsWork, frames_of}
use Rattle.library_batches.proofs.WorkLaws.{AreCutSoFar, frames-count, round-ended, round-stopped, round-whole, so_far-more}
use Rattle.library_batches.proofs.working.cut_works.Goals as goal

pub returns-then-ended-clause-cut : goal.returns-then-ended-clause-cut
returns-then-ended-clause-cut g c =
    let before = c.loop-block.invariant in
    let initial = c.args.reader.now in
    let left = g.S.Source.left c.args.source.now in
    let told = g.S.Source.left c.loop-block.source in
    let then = g.S.Source.left c.cut_work.new.source in
    let so_far : AreCutSoFar c.args.first initial left c.loop-block.reader told c.loop-block.works.items c.loop-block._block = record {
      cut = before.cut;
      numbered = before.numbered;
      short = before.short;
      full = before.full;
      fewer = before.fewer;
    } in
    round-ended c.args.first c.loop-block.next initial c.loop-block.reader c.cut_work.new.reader left told then c.loop-block.works.items c.cut_work.new.works.items
    c.loop-block._block so_far c.loop-block-test.true before.place
    (subst (λ ended. AddsWork (Ok ended) c.loop-block.next c.loop-block.reader told c.cut_work.new.reader then c.loop-block.works.items c.cut_work.new.works.items) c.if-ended.true
    c.in_ok-ended.ensures.adds)

pub returns-in_err-ended-clause-cut : goal.returns-in_err-ended-clause-cut
returns-in_err-ended-clause-cut g c =
    let before = c.loop-block.invariant in
    let initial = c.args.reader.now in
    let left = g.S.Source.left c.args.source.now in
    let told = g.S.Source.left c.loop-block.source in
    let then = g.S.Source.left c.cut_work.new.source in
    let so_far : AreCutSoFar c.args.first initial left c.loop-block.reader told c.loop-block.works.items c.loop-block._block = record {
      cut = before.cut;
      numbered = before.numbered;
      short = before.short;
      full = before.full;
      fewer = before.fewer;
    } in
    let p = err_from_is_err_and c.from_residual.result c.from_residual.ensures.1 in
    rw (p.1, p.2)
    (round-stopped c.in_err-ended.field-0.0 c.args.first c.loop-block.next initial c.loop-block.reader c.cut_work.new.reader left told then c.loop-block.works.items
    c.cut_work.new.works.items c.loop-block._block so_far c.loop-block-test.true before.place c.in_err-ended.ensures.adds)

pub loop-block-preserved : goal.loop-block-preserved
loop-block-preserved g c =
    let before = c.loop-block.invariant in
    let initial = c.args.reader.now in
    let left = g.S.Source.left c.args.source.now in
    let told = g.S.Source.left c.loop-block.source in
    let then = g.S.Source.left c.cut_work.new.source in
    let so_far : AreCutSoFar c.args.first initial left c.loop-block.reader told c.loop-block.works.items c.loop-block._block = record {
      cut = before.cut;
      numbered = before.numbered;
      short = before.short;
      full = before.full;
      fewer = before.fewer;
    } in
    let adds = subst (λ ended. AddsWork (Ok ended) c.loop-block.next c.loop-block.reader told c.cut_work.new.reader then c.loop-block.works.items c.cut_work.new.works.items) c.if-ended.false
    c.in_ok-ended.ensures.adds in
    let more = so_far-more c.args.first c.loop-block.next initial c.loop-block.reader c.cut_work.new.reader left told then c.loop-block.works.items
    c.cut_work.new.works.items c.loop-block._block so_far before.place adds in
    let count = c.last_count-next.ensures c.loop-block.works.items adds.work (c.as_slice.ensures.value ∙ adds.added) in
    record {
      name = c.in_ok-ended.ensures.name ∙ before.name;
      faults = c.in_ok-ended.ensures.calm (λ wrong. cc) ∙ before.faults;
      cut = more.cut;
      numbered = more.numbered;
      short = more.short;
      place = omega (arith, before.place, count, ap (λ ws. length (frames_of ws)) adds.added, frames-count c.loop-block.works.items adds.work);
      full = more.full;
      fewer = more.fewer;
      capacity = c.in_ok-ended.ensures.capacity ∙ before.capacity;
      count = omega (arith, before.count, c.in_ok-ended.ensures.len);
    }

pub returns-clause-cut : goal.returns-clause-cut
returns-clause-cut g c =
    let before = c.loop-block.invariant in
    round-whole c.args.first c.args.reader.now c.loop-block.reader (g.S.Source.left c.args.source.now) (g.S.Source.left c.loop-block.source) c.loop-block.works.items
    c.loop-block._block (record { cut = before.cut; numbered = before.numbered; short = before.short; full = before.full; fewer = before.fewer })
    (omega (arith, c.loop-block.auto._block-end, c.loop-block-test.false))
