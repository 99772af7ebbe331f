use Rattle.std.proofs.Common.{take}
use Rattle.catalogue_tests.proofs.PlainLaws.{IsFollowed}
use Rattle.catalogue_tests.proofs.plain_catalogue.follow_all.Given as goal

abbrev pub invariant-loop-op : goal.invariant-loop-op
invariant-loop-op l = IsFollowed l.batch.library l.initial.records.entries (take l.op-index l.op-items) l.records.entries l.outcomes.items
