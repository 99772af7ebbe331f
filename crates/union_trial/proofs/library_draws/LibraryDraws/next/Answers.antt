use Rattle.std.proofs.Common.{◌%◌, sym, ◌∙◌}
use Rattle.std.proofs.lemmas.Bool.{ne_eqb}
use Rattle.union_trial.proofs.DrawLaws.{draws_passed}
use Rattle.union_trial.proofs.library_draws.LibraryDraws.next.Goals as goal

pub loop-self-preserved : goal.loop-self-preserved
loop-self-preserved c =
    let d = c.loop-self.self in
    rw c.draws-draws.ensures.state
    (sym (draws_passed d.count d.place d.generator.state d.number c.loop-self-test.true (ne_eqb (d.number % 3) d.place c.if-mine.false)) ∙ c.loop-self.invariant)
