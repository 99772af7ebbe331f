use Rattle.swoosh_resolver.proofs.Placing.{placed-are}
use Rattle.swoosh_resolver.proofs.posting.with_places.Goals as goal

pub returns-clause-placed : goal.returns-clause-placed
returns-clause-placed g c = placed-are c.rows_of.new.postings c.in_ok-places.places.items _ c.in_ok-places.ensures.places c.keyed.invariant.0

pub returns-clause-based : goal.returns-clause-based
returns-clause-based g c = c.keyed.invariant.1
