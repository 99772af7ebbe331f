use Rattle.std.proofs.Common.{sym, subst, ap, ◌∙◌}
use Rattle.union_files.specs.Inputs.{files_of, AreFresh}
use Rattle.union_load.proofs.session_starts.start_sessions.Goals as goal

pub returns-clause-opened : goal.returns-clause-opened
returns-clause-opened g c =
    let states = rw c.in-Ok.ensures.items at c.add_sessions.ensures.states in
    ap files_of states ∙ c.in_ok-opened.ensures.opened

pub returns-clause-fresh : goal.returns-clause-fresh
returns-clause-fresh g c =
    let states = rw c.in-Ok.ensures.items at c.add_sessions.ensures.states in
    subst (AreFresh (g.F.Shelf.files c.open_rest.new.shelf) (g.F.Shelf.opened c.open_rest.new.shelf)) (sym states) c.in_ok-opened.ensures.fresh
