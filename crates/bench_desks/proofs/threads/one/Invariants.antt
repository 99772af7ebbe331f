use Rattle.catalogue_lock.specs.Tokens.{IsPassOf}
use Rattle.bench_desks.proofs.threads.one.Given as goal

abbrev pub invariant-loop-k : goal.invariant-loop-k
invariant-loop-k g l = IsPassOf l.pass l.desk
