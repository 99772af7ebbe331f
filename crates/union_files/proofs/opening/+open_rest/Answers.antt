use Rattle.std.proofs.Common.{◌+◌, ◌∷◌, sym, ap, subst, ◌∙◌}
use Rattle.std.specs.Prelude.{drop}
use Rattle.std.proofs.lemmas.Result.{IfOk-weaker}
use Rattle.union_words.specs.Meanings.{file_meaning, libraries_meaning}
use Rattle.union_files.proofs.FileLaws.{flow}
use Rattle.union_files.specs.Inputs.{StopsOpening, OpensInOrder, files_of, states_of}
use Rattle.union_files.proofs.InputLaws.{opens_behind, opens_later, drop_at}
use Rattle.union_files.proofs.opening.+open_rest.Goals as goal

pub returns-in-Ok-open_rest-clause-opened : goal.returns-in-Ok-open_rest-clause-opened
returns-in-Ok-open_rest-clause-opened g t c =
    let libraries = libraries_meaning c.args.libraries.now in
    IfOk-weaker c.put_first.result _ _ (λ all put.
    ap (λ items. files_of (states_of g.F.Src.Source.name g.F.Src.Source.left g.F.Src.Source.faults items)) put
    ∙ (ap (λ first. first ∷ files_of (states_of g.F.Src.Source.name g.F.Src.Source.left g.F.Src.Source.faults c.in-Ok-open_rest.opened.items))
    c.in-Ok-open_file.ensures.file
    ∙ (ap (λ rest. file_meaning c.at.result ∷ rest) c.in-Ok-open_rest.ensures.opened
    ∙ sym (drop_at libraries c.args.place (file_meaning c.at.result) c.at.ensures)))) c.put_first.ensures.put

pub returns-in-Err-open_rest-clause-stops : goal.returns-in-Err-open_rest-clause-stops
returns-in-Err-open_rest-clause-stops g t c =
    let libraries = libraries_meaning c.args.libraries.now in
    let file = file_meaning c.at.result in
    let rest = drop (c.args.place + 1) libraries in
    let files = g.F.Shelf.files c.args.shelf.now in
    let status = c.in-Err-open_rest.status in
    let stops : StopsOpening status rest (flow files (g.F.Shelf.faults c.open_file.new.shelf) (g.F.Shelf.faults c.open_rest.new.shelf))
    = subst (λ told. StopsOpening status rest (flow told (g.F.Shelf.faults c.open_file.new.shelf) (g.F.Shelf.faults c.open_rest.new.shelf)))
    c.in-Ok-open_file.ensures.files c.in-Err-open_rest.ensures.stops in
    subst (λ all. StopsOpening status all (flow files (g.F.Shelf.faults c.args.shelf.now) (g.F.Shelf.faults c.give_back.new.self)))
    (sym (drop_at libraries c.args.place file c.at.ensures))
    (opens_behind status file rest files (g.F.Shelf.faults c.args.shelf.now) (g.F.Shelf.faults c.open_file.new.shelf)
    (g.F.Shelf.faults c.open_rest.new.shelf) (g.F.Shelf.faults c.give_back.new.self) c.in-Ok-open_file.ensures.calm
    (c.give_back.ensures.calm c.in-Ok-open_file.ensures.fresh.faults) stops)

pub returns-in-Err-open_rest-clause-in_order : goal.returns-in-Err-open_rest-clause-in_order
returns-in-Err-open_rest-clause-in_order g t c =
    let libraries = libraries_meaning c.args.libraries.now in
    let file = file_meaning c.at.result in
    let status = c.in-Err-open_rest.status in
    subst (λ all. OpensInOrder status all (g.F.Shelf.opened c.args.shelf.now) (g.F.Shelf.opened c.give_back.new.self))
    (sym (drop_at libraries c.args.place file c.at.ensures))
    (subst (OpensInOrder status (file ∷ drop (c.args.place + 1) libraries) (g.F.Shelf.opened c.args.shelf.now)) (sym c.give_back.ensures.names)
    (opens_later status file (drop (c.args.place + 1) libraries) (g.F.Shelf.opened c.args.shelf.now) (g.F.Shelf.opened c.open_file.new.shelf)
    (g.F.Shelf.opened c.open_rest.new.shelf) c.in-Ok-open_file.ensures.opened c.in-Err-open_rest.ensures.in_order))

pub returns-in-Err-open_file-clause-in_order : goal.returns-in-Err-open_file-clause-in_order
returns-in-Err-open_file-clause-in_order g t c =
    let libraries = libraries_meaning c.args.libraries.now in
    subst (λ all. OpensInOrder c.in-Err-open_file.status all (g.F.Shelf.opened c.args.shelf.now) (g.F.Shelf.opened c.open_file.new.shelf))
    (sym (drop_at libraries c.args.place (file_meaning c.at.result) c.at.ensures))
    (c.in-Err-open_file.ensures.in_order (drop (c.args.place + 1) libraries))

pub returns-in-Err-open_file-clause-stops : goal.returns-in-Err-open_file-clause-stops
returns-in-Err-open_file-clause-stops g t c =
    let libraries = libraries_meaning c.args.libraries.now in
    subst (λ all. StopsOpening c.in-Err-open_file.status all
    (flow (g.F.Shelf.files c.args.shelf.now) (g.F.Shelf.faults c.args.shelf.now) (g.F.Shelf.faults c.open_file.new.shelf)))
    (sym (drop_at libraries c.args.place (file_meaning c.at.result) c.at.ensures))
    (c.in-Err-open_file.ensures.stops (drop (c.args.place + 1) libraries))
