use Rattle.std.proofs.Common.{[], refl, subst}
use Rattle.std.specs.Prelude.{IfSome}
use Rattle.std.specs.Option.{option_copied}
use Rattle.names_file.specs.Named.{named_by, names_inputs}
use Rattle.names_file.proofs.NamesLaws.{names_read}
use Rattle.union_files.proofs.FileLaws.{flow, same_more}
use Rattle.union_files.proofs.LimitLaws.{on_all, on_files}
use Rattle.union_words.specs.Meanings.{loading_meaning}
use Rattle.union_files.specs.Limits.{AreWithin}
use Rattle.union_files.specs.Openings.{OpensInTurn}
use Rattle.union_files.proofs.OpeningLaws.{in_turn_behind}
use Rattle.union_files.specs.Inputs.{inputs_of, StopsAtLibraries}
use Rattle.union_files.specs.Interleavings.{IsInterleaving}
use Rattle.union_files.proofs.RunLaws.{stopped_at_libraries}
use Rattle.union_watch.specs.Runs.{deliveries_of, showing_of, HasTurned, IsUnionOf}
use Rattle.union_watch.proofs.RunLaws.{stopped_at_names, loaded_run, loaded_noted, keeps_all}
use Rattle.union_program.proofs.OpeningLaws.{written_in_turn}
use Rattle.union_program.proofs.run.run_union.Goals as goal

pub returns-in-Ok-load_by_names-clause-run : goal.returns-in-Ok-load_by_names-clause-run
returns-in-Ok-load_by_names-clause-run g c =
    let files = g.F.Shelf.files c.args.shelf.now in
    let loading = loading_meaning c.args.loading.now in
    let before = g.F.Shelf.faults c.args.shelf.now in
    let between = g.F.Shelf.faults c.names_of.new.shelf in
    let after = g.F.Shelf.faults c.load_by_names.new.shelf in
    let names = named_by c.in-Ok.names in
    let loaded = c.in-Ok-load_by_names.watched.loaded in
    let named = names_read (option_copied c.args.loading.now.names) c.in-Ok.names (flow files before between) c.in-Ok.ensures.reads in
    loaded_run (showing_of c.args.shown) names loaded c.write_shown.result loading (flow files before after) _ _
    (same_more before between after named.0 c.in-Ok-load_by_names.ensures.gathers.0) named.1
    (subst (λ fs. IfSome fs (λ contents. AreWithin contents (inputs_of loading.libraries) × HasTurned IsInterleaving names (deliveries_of contents loading) loaded))
    c.in-Ok.ensures.files c.in-Ok-load_by_names.ensures.gathers.1)
    c.write_shown.ensures

pub returns-in-Ok-load_by_names-clause-noted : goal.returns-in-Ok-load_by_names-clause-noted
returns-in-Ok-load_by_names-clause-noted g c =
    λ early. loaded_noted (showing_of c.args.shown) c.in-Ok-load_by_names.watched.loaded c.write_shown.result _ _ c.write_shown.ensures early

pub returns-in-Err-load_by_names-clause-run : goal.returns-in-Err-load_by_names-clause-run
returns-in-Err-load_by_names-clause-run g c =
    let files = g.F.Shelf.files c.args.shelf.now in
    let loading = loading_meaning c.args.loading.now in
    let before = g.F.Shelf.faults c.args.shelf.now in
    let between = g.F.Shelf.faults c.names_of.new.shelf in
    let after = g.F.Shelf.faults c.load_by_names.new.shelf in
    let status = c.in-Err-load_by_names.status in
    let named = names_read (option_copied c.args.loading.now.names) c.in-Ok.names (flow files before between) c.in-Ok.ensures.reads in
    rw c.end.ensures.same
    (stopped_at_libraries (IsUnionOf (showing_of c.args.shown) loading) status (names_inputs loading.names) loading.libraries files before between after _ _
    named.0 (on_files files (λ contents holds. holds.0) named.1)
    (subst (λ fs. StopsAtLibraries status loading.libraries (flow fs between after)) c.in-Ok.ensures.files c.in-Err-load_by_names.ensures.gathers)
    (keeps_all (g.O.Sink.written c.args.out.now)))

pub returns-in-Err-clause-run : goal.returns-in-Err-clause-run
returns-in-Err-clause-run g c =
    let files = g.F.Shelf.files c.args.shelf.now in
    let loading = loading_meaning c.args.loading.now in
    let before = g.F.Shelf.faults c.args.shelf.now in
    let after = g.F.Shelf.faults c.names_of.new.shelf in
    rw c.end-in-Err.ensures.same
    (stopped_at_names (IsUnionOf (showing_of c.args.shown) loading) c.in-Err.status [] loading.names loading.libraries files before before after _ _
    (λ name. refl) (on_all files (λ contents. refl)) c.in-Err.ensures.reads (keeps_all (g.O.Sink.written c.args.out.now)))

pub returns-in-Ok-load_by_names-clause-in_turn : goal.returns-in-Ok-load_by_names-clause-in_turn
returns-in-Ok-load_by_names-clause-in_turn g c =
    written_in_turn (g.F.Shelf.files c.args.shelf.now) c.in-Ok-load_by_names.watched.loaded.refused c.write_shown.result _ _ _ c.write_shown.ensures.2.kinds

pub returns-in-Err-load_by_names-clause-in_turn : goal.returns-in-Err-load_by_names-clause-in_turn
returns-in-Err-load_by_names-clause-in_turn g c =
    let loading = loading_meaning c.args.loading.now in
    let status = c.in-Err-load_by_names.status in
    let between = g.F.Shelf.opened c.names_of.new.shelf in
    let after = g.F.Shelf.opened c.load_by_names.new.shelf in
    rw c.end.ensures.same
    (in_turn_behind (g.F.Shelf.files c.args.shelf.now) status (names_inputs loading.names) (inputs_of loading.libraries)
    (g.F.Shelf.opened c.args.shelf.now) between after c.in-Ok.ensures.opened
    (subst (λ told. OpensInTurn told status (inputs_of loading.libraries) between after) c.in-Ok.ensures.files c.in-Err-load_by_names.ensures.in_turn))

pub returns-in-Err-clause-in_turn : goal.returns-in-Err-clause-in_turn
returns-in-Err-clause-in_turn g c =
    rw c.end-in-Err.ensures.same (c.in-Err.ensures.in_turn (inputs_of (loading_meaning c.args.loading.now).libraries))
