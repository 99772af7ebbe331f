use Rattle.swoosh_resolver.proofs.keyed.Seeker.of.Goals as goal

pub invariant_of-result : goal.invariant_of-result
invariant_of-result g c = (
  record {
    sound = λ k there. (c.in_ok-sought.ensures.keys k).0 there;
    whole = λ x matches beside. (let (k, seeks, posted) = g.met.R.Resolvable.seeking_laws.matching c.args.value x matches in (k, (c.in_ok-sought.ensures.keys k).1 seeks, posted));
  },
  λ none. c.in_ok-sought.ensures.told,
  tt,
)
