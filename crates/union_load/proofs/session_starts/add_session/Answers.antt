use Rattle.std.proofs.Common.{◌≡◌, ◌+◌, length, arith, sym, subst, ◌∙◌}
use Rattle.union_load.proofs.SessionLaws.{ready_pushed}
use Rattle.union_load.specs.Sessions.{AreReady, IsReadyAs}
use Rattle.union_load.proofs.session_starts.add_session.Goals as goal

pub returns-clause-ready : goal.returns-clause-ready
returns-clause-ready g c =
    let desk = c.args.desk.now.board.shared.table_id in
    let sessions = c.args.sessions.now.items in
    let place : c.args.root.now.place.me.0.made ≡ 0 + length sessions = c.requires.numbers ∙ omega arith in
    let prefer = c.args.prefer.now in
    subst (AreReady desk prefer 0) (sym c.in-Ok.ensures.items)
    (ready_pushed desk prefer 0 sessions c.session_of.result c.requires.ready (subst (λ n. IsReadyAs desk prefer n c.session_of.result) place c.session_of.ensures.ready))
