use Rattle.std.proofs.Common.{◌≡◌, ◌++◌, length, sym, ap, subst, arith}
use Rattle.catalogue_lock.specs.History.{changes_of}
use Rattle.catalogue_lock.specs.Tokens.{view}
use Rattle.catalogue_core.specs.Histories.{current}
use Rattle.catalogue_core.specs.Entries.{history_of}
use Rattle.library_batches.specs.Tallies.{found}
use Rattle.load_sessions.proofs.TallyLaws.{found-turn, few_ops, length-outcomes}
use Rattle.load_sessions.proofs.due.turn_due.Goals as goal

pub returns-clause-found : goal.returns-clause-found
returns-clause-found g c =
    let old = view c.args.pass.now in
    let new = view c.turn-turned.new.pass in
    let turn = c.in_ok-outcome.ensures.ok in
    subst (λ n. found new.seen n ≡ found old.seen old.number ++ c.in_ok-outcome.field-0.outcome.items) (sym c.turn-turned.ensures.same.0)
    (found-turn old.number old.seen turn.before new.seen old.own new.own c.args.due.change c.in_ok-outcome.field-0.outcome.items c.number.ensures.own
    (subst (λ n. changes_of n new.seen ≡ new.own) c.turn-turned.ensures.same.0 c.number-2.ensures.own) turn.own turn.follows turn.seen turn.outcome_is)

pub returns-clause-few : goal.returns-clause-few
returns-clause-few g c =
    let turn = c.in_ok-outcome.ensures.ok in
    omega (arith, ap length turn.outcome_is, length-outcomes c.args.due.change.library (current (history_of turn.before)) c.args.due.change.ops, few_ops c.args.due.change)
