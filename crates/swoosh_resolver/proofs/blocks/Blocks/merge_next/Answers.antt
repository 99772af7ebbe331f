use Rattle.std.proofs.Common.{◌≡◌, false, ◌∙◌, ap}
use Rattle.std.proofs.lemmas.Result.{IfOk-weaker}
use Rattle.swoosh_resolver.specs.Tables.{Entry}
use Rattle.swoosh_resolver.proofs.Places.{IfNone_then}
use Rattle.swoosh_resolver.proofs.Views.{spent-kept, spent-fresh, All-view}
use Rattle.swoosh_resolver.proofs.blocks.Blocks.merge_next.Goals as goal

pub merge_kept-requires-clause-look : goal.merge_kept-requires-clause-look
merge_kept-requires-clause-look g c =
    let sought = c.as_slice.ensures.value ∙ ap (λ (e : Entry g.row.R.Denot g.row.R-Key.Denot). e.keys) c.value.view_is in
    rw (c.as_slice-2.ensures.value, ← sought) c.in_ok-numbers.ensures

pub merge_opened-requires-clause-fits : goal.merge_opened-requires-clause-fits
merge_opened-requires-clause-fits g c =
    let none = rw c.in-None.is at c.in_ok-merged.ensures.none in
    rw (none.0, none.1) c.requires.fits

pub merge_opened-requires-clause-stands : goal.merge_opened-requires-clause-stands
merge_opened-requires-clause-stands g c =
    let none = rw c.in-None.is at c.in_ok-merged.ensures.none in
    rw (none.0, none.1) c.requires.stands

pub merge_opened-requires-clause-look : goal.merge_opened-requires-clause-look
merge_opened-requires-clause-look g c =
    let sought = c.as_slice.ensures.value ∙ ap (λ (e : Entry g.row.R.Denot g.row.R-Key.Denot). e.keys) c.value.view_is in
    rw (c.as_slice-in-None.ensures.value, ← sought) c.in_ok-numbers.ensures

pub returns-in-Some-clause-merged : goal.returns-in-Some-clause-merged
returns-in-Some-clause-merged g c = rw c.in-Some.is at c.in_ok-merged.ensures.merged

pub returns-in-Some-clause-stands : goal.returns-in-Some-clause-stands
returns-in-Some-clause-stands g c = rw c.in-Some.is at c.in_ok-merged.ensures.stands

pub returns-clause-merged : goal.returns-clause-merged
returns-clause-merged g c =
    let none = rw c.in-None.is at c.in_ok-merged.ensures.none in
    rw (← none.0, ← none.1) c.merge_opened.ensures.merged

pub returns-clause-none : goal.returns-clause-none
returns-clause-none g c =
    let blocks = c.args.self.now.blocks in
    let change = c.args.change.now in
    let none = rw c.in-None.is at c.in_ok-merged.ensures.none in
    IfOk-weaker c.merge_opened.result _ _
    (λ o rest. IfNone_then o rest (λ fresh. (
      fresh.0 ∙ none.0,
      fresh.1 ∙ none.1,
      All-view blocks change.closed.items change.opened.items (λ w. g.R.Resolvable.meets c.args.value.now.value w ≡ false) none.2 (rw none.1 at fresh.2),
    )))
    c.merge_opened.ensures.none

-- each way out has made no more tests than members of the view are found for the value
pub returns-in_err-merged-clause-cost : goal.returns-in_err-merged-clause-cost
returns-in_err-merged-clause-cost g c =
    spent-kept c.args.self.now.blocks c.args.change.now.closed.items c.args.change.now.opened.items g.R.Resolvable.is_found c.args.value.now.value c.args.steps.now c.merge_kept.new.steps c.merge_kept.ensures.cost

pub returns-in-Some-clause-cost : goal.returns-in-Some-clause-cost
returns-in-Some-clause-cost g c =
    spent-kept c.args.self.now.blocks c.args.change.now.closed.items c.args.change.now.opened.items g.R.Resolvable.is_found c.args.value.now.value c.args.steps.now c.merge_kept.new.steps c.merge_kept.ensures.cost

pub returns-clause-cost : goal.returns-clause-cost
returns-clause-cost g c =
    let none = rw c.in-None.is at c.in_ok-merged.ensures.none in
    spent-fresh c.args.self.now.blocks c.args.change.now.closed.items c.args.change.now.opened.items g.R.Resolvable.is_found c.args.value.now.value c.args.steps.now c.merge_kept.new.steps c.merge_opened.new.steps
    c.merge_kept.ensures.cost (rw none.1 at c.merge_opened.ensures.cost)
