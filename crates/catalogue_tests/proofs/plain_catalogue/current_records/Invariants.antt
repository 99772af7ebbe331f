use Rattle.std.proofs.Common.{◌≡◌, [], take}
use Rattle.std.specs.Prelude.{fold}
use Rattle.catalogue_core.specs.Histories.{after_batch}
use Rattle.catalogue_tests.proofs.plain_catalogue.current_records.Given as goal

abbrev pub invariant-loop-entry : goal.invariant-loop-entry
invariant-loop-entry l = l.records.entries ≡ fold (λ all entry. after_batch all entry.batch) [] (take l.entry-index l.history)
