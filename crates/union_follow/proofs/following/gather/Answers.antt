use Rattle.std.proofs.Common.{subst}
use Rattle.std.proofs.lemmas.Option.{slice_get_within}
use Rattle.union_files.specs.Inputs.{files_of, states_of}
use Rattle.union_files.proofs.FileLaws.{flow}
use Rattle.union_words.specs.Meanings.{libraries_meaning}
use Rattle.union_follow.proofs.ShelfLaws.{fresh_listed, fresh_unread, gathers_all, halts_at, listed_same}
use Rattle.union_follow.specs.Turning.{AreTurnedFrom, HaltsIn}
use Rattle.union_follow.proofs.following.gather.Goals as goal

pub return_all-requires-after_bounds : goal.return_all-requires-after_bounds
return_all-requires-after_bounds g c κs within =
    let states = states_of g.F.Src.Source.name g.F.Src.Source.left g.F.Src.Source.faults in
    let before = states c.args.running.now.opened.items in
    let names = g.F.Shelf.opened c.args.shelf.now in
    listed_same names before (states c.load_beside-loaded.new.running.opened.items) c.load_beside-loaded.ensures.runs.same
    (fresh_listed (g.F.Shelf.files c.args.shelf.now) names before c.requires.fresh)

pub status_of-requires : goal.status_of-requires
status_of-requires g c =
    let states = states_of g.F.Src.Source.name g.F.Src.Source.left g.F.Src.Source.faults in
    let files = g.F.Shelf.files c.args.shelf.now in
    let before = states c.args.running.now.opened.items in
    let now = states c.load_beside-loaded.new.running.opened.items in
    let libraries = libraries_meaning c.args.libraries.now in
    let load = c.args.running.now.load in
    let after = c.load_beside-loaded.new.running.load in
    let halt = c.in-Err.halt in
    let halts = subst (λ result. HaltsIn result 0 files before now
    (λ contents. AreTurnedFrom contents 0 (files_of before) load.catalogue.history after.catalogue.history load.reports after.reports))
    c.in-Err.is (c.load_beside-loaded.ensures.runs.halts files (fresh_unread files (g.F.Shelf.opened c.args.shelf.now) before c.requires.fresh)) in
    let at = halts_at (λ contents. AreTurnedFrom contents 0 (files_of before) load.catalogue.history after.catalogue.history load.reports after.reports)
    halt files before now libraries (g.F.Shelf.faults c.args.shelf.now) (g.F.Shelf.faults c.return_all.new.shelf)
    halts c.load_beside-loaded.ensures.runs.same c.requires.libraries c.return_all.ensures.calm c.return_all.ensures.failed in
    slice_get_within libraries halt.place at.0 at.1

pub returns-in-Err-clause-gathers : goal.returns-in-Err-clause-gathers
returns-in-Err-clause-gathers g c =
    let states = states_of g.F.Src.Source.name g.F.Src.Source.left g.F.Src.Source.faults in
    let files = g.F.Shelf.files c.args.shelf.now in
    let before = states c.args.running.now.opened.items in
    let now = states c.load_beside-loaded.new.running.opened.items in
    let libraries = libraries_meaning c.args.libraries.now in
    let load = c.args.running.now.load in
    let after = c.load_beside-loaded.new.running.load in
    let halt = c.in-Err.halt in
    let old = g.F.Shelf.faults c.args.shelf.now in
    let new = g.F.Shelf.faults c.return_all.new.shelf in
    let halts = subst (λ result. HaltsIn result 0 files before now
    (λ contents. AreTurnedFrom contents 0 (files_of before) load.catalogue.history after.catalogue.history load.reports after.reports))
    c.in-Err.is (c.load_beside-loaded.ensures.runs.halts files (fresh_unread files (g.F.Shelf.opened c.args.shelf.now) before c.requires.fresh)) in
    let at = halts_at (λ contents. AreTurnedFrom contents 0 (files_of before) load.catalogue.history after.catalogue.history load.reports after.reports)
    halt files before now libraries old new
    halts c.load_beside-loaded.ensures.runs.same c.requires.libraries c.return_all.ensures.calm c.return_all.ensures.failed in
    c.status_of.ensures.stops at.0 (flow files old new) at.1 at.2

pub returns-in-Ok-asked-clause-gathers : goal.returns-in-Ok-asked-clause-gathers
returns-in-Ok-asked-clause-gathers g c =
    let states = states_of g.F.Src.Source.name g.F.Src.Source.left g.F.Src.Source.faults in
    let files = g.F.Shelf.files c.args.shelf.now in
    let before = states c.args.running.now.opened.items in
    let now = states c.load_beside-loaded.new.running.opened.items in
    let load = c.args.running.now.load in
    let after = c.load_beside-loaded.new.running.load in
    let halts = subst (λ result. HaltsIn result 0 files before now
    (λ contents. AreTurnedFrom contents 0 (files_of before) load.catalogue.history after.catalogue.history load.reports after.reports))
    c.in-Ok.is (c.load_beside-loaded.ensures.runs.halts files (fresh_unread files (g.F.Shelf.opened c.args.shelf.now) before c.requires.fresh)) in (
      c.return_all.ensures.calm halts.0,
      gathers_all files before now (libraries_meaning c.args.libraries.now) load.catalogue.history after.catalogue.history load.reports after.reports
          c.requires.libraries c.requires.empty halts,
    )

pub returns-in-Err-asked-clause-gathers : goal.returns-in-Err-asked-clause-gathers
returns-in-Err-asked-clause-gathers g c =
    let states = states_of g.F.Src.Source.name g.F.Src.Source.left g.F.Src.Source.faults in
    let files = g.F.Shelf.files c.args.shelf.now in
    let before = states c.args.running.now.opened.items in
    let now = states c.load_beside-loaded.new.running.opened.items in
    let load = c.args.running.now.load in
    let after = c.load_beside-loaded.new.running.load in
    let halts = subst (λ result. HaltsIn result 0 files before now
    (λ contents. AreTurnedFrom contents 0 (files_of before) load.catalogue.history after.catalogue.history load.reports after.reports))
    c.in-Ok.is (c.load_beside-loaded.ensures.runs.halts files (fresh_unread files (g.F.Shelf.opened c.args.shelf.now) before c.requires.fresh)) in
    c.return_all.ensures.calm halts.0
