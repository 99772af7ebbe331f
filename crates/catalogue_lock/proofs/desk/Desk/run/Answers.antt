use Rattle.std.proofs.Common.{rules, arith}
use Rattle.std.proofs.lemmas.Grind.{common_steps}
use Rattle.catalogue_lock.proofs.desk.Desk.run.Goals as goal

pub finish-requires-clause-grown : goal.finish-requires-clause-grown
finish-requires-clause-grown g c κs within = (
  c.apply.new.self,
  c.args.change,
  first_of (search rules, grind (arith, common_steps)),
  first_of (search rules, grind (arith, common_steps)),
  first_of (search rules, grind (arith, common_steps)),
)
