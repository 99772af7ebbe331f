use Rattle.swoosh_resolver.proofs.Bases.{own-all}
use Rattle.swoosh_resolver.proofs.keyed.Keyed.of.Goals as goal

pub invariant_of-result : goal.invariant_of-result
invariant_of-result g c = (own-all g.R.Resolvable.is_posted c.args.value c.in_ok-keys.keys.items c.in_ok-keys.ensures.keys c.in_ok-keys.ensures.once, record { keeps = tt; absorbs = tt })
