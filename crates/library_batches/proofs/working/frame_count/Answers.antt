use Rattle.std.proofs.Common.{◌≡◌, ◌≤◌, ◌+◌, [], ◌∷◌, ◌++◌, length, take, sym, ap, ◌∙◌, arith}
use Rattle.std.proofs.lemmas.List.{take_all, take_more}
use Rattle.std.proofs.lemmas.List.Folds.{length-flat_map-take}
use Rattle.library_batches.specs.Works.{frames_of}
use Rattle.library_batches.specs.declared.work.Work.{Work}
use Rattle.library_batches.proofs.WorkLaws.{frames-count}
use Rattle.library_batches.proofs.working.frame_count.Goals as goal

pub overflow_add-count : goal.overflow_add-count
overflow_add-count c =
    let works = c.args.works.now in
    let i = c.loop-work.work-index in
    let work = c.work-item.result in
    let within = length-flat_map-take (λ (w : Work). w.frames.items) works i work c.loop-work-test.true in
    let same = ap (λ (w : Work). length w.frames.items) c.work-item.is in
    omega (arith, c.loop-work.invariant, c.requires, within, same, c.len.ensures, work.frames.ok)

pub loop-work-preserved : goal.loop-work-preserved
loop-work-preserved c =
    let works = c.args.works.now in
    let i = c.loop-work.work-index in
    let work = c.work-item.result in
    let more : take (i + 1) works ≡ take i works ++ work ∷ [] = take_more works i work c.loop-work-test.true ∙ ap (λ (w : Work). take i works ++ w ∷ []) (sym c.work-item.is) in
    omega (arith, c.loop-work.invariant, ap (λ ws. length (frames_of ws)) more, frames-count (take i works) work, c.len.ensures, work.frames.ok)

pub returns : goal.returns
returns c =
    let works = c.args.works.now in
    let past : length works ≤ c.loop-work.work-index = omega (arith, c.loop-work-test.false) in
    c.loop-work.invariant ∙ ap (λ ws. length (frames_of ws)) (take_all c.loop-work.work-index works past)
