-- A new name is put in with no fault, and a known one changes nothing.
use Rattle.std.proofs.Common.{sym}
use Rattle.union_io.proofs.NamesKept.{AddsName-set, AddsName-found, count_in-set}
use Rattle.union_io.proofs.opened_names.OpenedNames.add.Goals as goal

pub returns-in_ok-insert-clause-names : goal.returns-in_ok-insert-clause-names
returns-in_ok-insert-clause-names c = rw (← c.self.view_is) (AddsName-set _ _ c.args.name c.in_ok-insert.ensures.updates.0)

pub returns-in_ok-insert-clause-counts : goal.returns-in_ok-insert-clause-counts
returns-in_ok-insert-clause-counts c =
    rw (← c.self.view_is) (count_in-set _ _ c.args.name (sym c.if-not-contains_key.ensures) c.in_ok-insert.ensures.updates.0)

pub returns-else-not-contains_key-clause-names : goal.returns-else-not-contains_key-clause-names
returns-else-not-contains_key-clause-names c = rw (← c.self.view_is) (AddsName-found _ _ (sym c.if-not-contains_key.ensures))
