use Rattle.swoosh_resolver.proofs.blocks.Blocks.with_key.Goals as goal

pub returns-clause-members : goal.returns-clause-members
returns-clause-members g c = rw (← c.self.view_is, c.of.ensures.value) (c.self.invariant.posted.stands c.args.key.now)
