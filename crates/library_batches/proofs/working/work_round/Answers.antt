use Rattle.std.proofs.Common.{◌+◌, ◌^◌, ◌<◌, ◌≤◌, List, length, arith, subst, sym, ◌∙◌}
use Rattle.std.specs.Prelude.{All}
use Rattle.std.proofs.lemmas.List.{with_items_is}
use Rattle.library_stream.specs.Streaming.{most_ahead}
use Rattle.library_batches.specs.Batches.{round_size}
use Rattle.library_batches.specs.Works.{CutsRound, IsMade, frames_of}
use Rattle.library_batches.specs.declared.work.Work.{Work}
use Rattle.library_batches.proofs.WorkLaws.{done-made, done-round, numbered-room}
use Rattle.library_batches.proofs.working.work_round.Goals as goal

pub check_works-requires-clause-room : goal.check_works-requires-clause-room
check_works-requires-clause-room g c κs within =
    let works = c.cut_works-cut.new.works.items in
    let cuts = c.cut_works-cut.ensures.cut in
    subst (All (λ (work : Work). work.first + length work.frames.items < 2 ^ 64)) (sym c.as_mut_slice.ensures.value)
    (numbered-room c.args.origin.now.number (2 ^ 64) works cuts.numbered (omega (arith, cuts.fewer, c.requires.room)))

pub returns-clause-cut : goal.returns-clause-cut
returns-clause-cut g c =
    let origin = c.args.origin.now in
    let cut = c.cut_works-cut.new.works in
    let checked = c.check_works.new.works in
    let left = g.S.Source.left c.args.source.now in
    let still = g.S.Source.left c.cut_works-cut.new.source in
    let done = rw c.as_mut_slice.ensures.value at c.check_works.ensures in
    subst (λ (ws : List Work). CutsRound c.cut_works-cut.result origin.number c.args.reader.now left c.cut_works-cut.new.reader still ws)
    (sym (with_items_is cut checked (done.long ∙ sym cut.ok.0)))
    (done-round origin.prefer.now origin.library.now cut.items checked done c.cut_works-cut.result origin.number c.args.reader.now c.cut_works-cut.new.reader left still
    c.cut_works-cut.ensures.cut)

pub returns-clause-made : goal.returns-clause-made
returns-clause-made g c =
    let origin = c.args.origin.now in
    let cut = c.cut_works-cut.new.works in
    let checked = c.check_works.new.works in
    let done = rw c.as_mut_slice.ensures.value at c.check_works.ensures in
    subst (All (IsMade origin.prefer.now origin.library.now)) (sym (with_items_is cut checked (done.long ∙ sym cut.ok.0)))
    (done-made origin.prefer.now origin.library.now cut.items checked done c.cut_works-cut.ensures.cut.short)

pub returns-clause-few : goal.returns-clause-few
returns-clause-few g c =
    let origin = c.args.origin.now in
    let cut = c.cut_works-cut.new.works in
    let checked = c.check_works.new.works in
    let left = g.S.Source.left c.args.source.now in
    let still = g.S.Source.left c.cut_works-cut.new.source in
    let done = rw c.as_mut_slice.ensures.value at c.check_works.ensures in
    subst (λ (ws : List Work). length (frames_of ws) ≤ round_size) (sym (with_items_is cut checked (done.long ∙ sym cut.ok.0)))
    (done-round origin.prefer.now origin.library.now cut.items checked done c.cut_works-cut.result origin.number c.args.reader.now c.cut_works-cut.new.reader left still
    c.cut_works-cut.ensures.cut).most

pub returns-clause-fewer : goal.returns-clause-fewer
returns-clause-fewer g c =
    let origin = c.args.origin.now in
    let cut = c.cut_works-cut.new.works in
    let checked = c.check_works.new.works in
    let left = g.S.Source.left c.args.source.now in
    let still = g.S.Source.left c.cut_works-cut.new.source in
    let done = rw c.as_mut_slice.ensures.value at c.check_works.ensures in
    subst (λ (ws : List Work). most_ahead c.cut_works-cut.new.reader + length (frames_of ws) ≤ most_ahead c.args.reader.now)
    (sym (with_items_is cut checked (done.long ∙ sym cut.ok.0)))
    (done-round origin.prefer.now origin.library.now cut.items checked done c.cut_works-cut.result origin.number c.args.reader.now c.cut_works-cut.new.reader left still
    c.cut_works-cut.ensures.cut).fewer
