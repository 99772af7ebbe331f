-- The name was opened, so it is found; its count is raised, and no other name's.
use Rattle.std.proofs.Common.{Some, ap, ◌∙◌, subst, unwrap_or, refl, sym}
use Rattle.std.specs.Option.{is_some, IsSome}
use Rattle.union_io.proofs.opened_names.OpenedNames.count_fault.Goals.{in-Some, in_default}
use Rattle.union_io.proofs.opened_names.OpenedNames.count_fault.Goals as goal
use Rattle.union_io.proofs.NamesKept.{count_in-raised, is_among-names_in, fails_other}

pub returns-clause-raised : goal.returns-clause-raised
returns-clause-raised c = elim c.match-get_mut.branch [
  | in-Some w ↦
      let found = subst IsSome w.in-Some.ensures.value refl in
      let raised = (c.get_mut.follows.holds w.saturating_add.result).3 found in
      rw w.self-inside-is
      (count_in-raised c.args.self.now _ c.args.name.now w.in-Some.count.now (rw (← c.self.view_is) w.in-Some.ensures.value) (raised.1 ∙ ap Some w.saturating_add.ensures))
  | in_default w ↦
      let found = rw (← c.self.view_is) at (sym (is_among-names_in _ _) ∙ c.requires) in
      let missed = ap is_some w.in_default.ensures.value in cc
]

pub returns-clause-others : goal.returns-clause-others
returns-clause-others c = λ other differs. elim c.match-get_mut.branch [
  | in-Some w ↦
      let found = subst IsSome w.in-Some.ensures.value refl in
      let raised = (c.get_mut.follows.holds w.saturating_add.result).3 found in
      rw (w.self-inside-is, ← c.self.view_is) (ap (λ count. unwrap_or count 0) (raised.2 other (fails_other c.args.name.now other differs)))
  | in_default w ↦
      let found = rw (← c.self.view_is) at (sym (is_among-names_in _ _) ∙ c.requires) in
      let missed = ap is_some w.in_default.ensures.value in cc
]
