use Rattle.std.proofs.Common.{ap, subst}
use Rattle.swoosh_resolver.specs.Tables.{ArePosted, Has, Table}
use Rattle.swoosh_resolver.proofs.Finding.{look-of_keys}
use Rattle.swoosh_resolver.proofs.blocks.Blocks.under.Goals as goal

pub returns : goal.returns
returns g c =
    let blocks = c.args.self.now.blocks in
    let posted : ArePosted g.R.Key.PartialEq.eq (Has g.R.Resolvable.is_posted) blocks c.self.inside.postings =
    subst (λ bs. ArePosted g.R.Key.PartialEq.eq (Has g.R.Resolvable.is_posted) bs c.self.inside.postings) (ap (λ (t : Table g.row.R.Denot g.row.R-Key.Denot). t.blocks) c.self.view_is) c.self.invariant.posted in
    look-of_keys c.candidates.result g.R.Resolvable.is_posted blocks c.self.inside.postings c.args.keys.now c.new.result.items posted c.new.ensures.items c.candidates.ensures.ascending c.candidates.ensures.members
