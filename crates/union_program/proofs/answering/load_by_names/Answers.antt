use Rattle.std.proofs.Common.{ap, ◌∙◌}
use Rattle.std.specs.Prelude.{Err}
use Rattle.std.proofs.lemmas.Result.{err_from_is_err_and}
use Rattle.union_words.specs.Meanings.{libraries_meaning}
use Rattle.union_program.proofs.OpeningLaws.{load_in_turn}
use Rattle.union_program.proofs.answering.load_by_names.Goals as goal

pub returns-in_err-loaded-clause-in_turn : goal.returns-in_err-loaded-clause-in_turn
returns-in_err-loaded-clause-in_turn g c =
    let p = err_from_is_err_and c.from_residual.result c.from_residual.ensures.1 in
    rw (p.1 ∙ ap Err p.2)
    (load_in_turn (g.F.Shelf.files c.args.shelf.now) c.in_err-loaded.field-0.0 (libraries_meaning c.args.loading.now.libraries)
    (g.F.Shelf.faults c.args.shelf.now) (g.F.Shelf.faults c.load_and_ask.new.shelf)
    (g.F.Shelf.opened c.args.shelf.now) (g.F.Shelf.opened c.load_and_ask.new.shelf)
    c.in_err-loaded.ensures.gathers c.in_err-loaded.ensures.in_order)
