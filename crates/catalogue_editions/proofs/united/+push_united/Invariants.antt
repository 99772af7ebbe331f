use Rattle.std.proofs.Common.{length}
use Rattle.catalogue_editions.proofs.united.+push_united.Given as goal

abbrev pub decreases-push_united : goal.decreases-push_united
decreases-push_united l = length l.behind.now
