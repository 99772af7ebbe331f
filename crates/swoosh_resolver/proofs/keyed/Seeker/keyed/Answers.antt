use Rattle.swoosh_resolver.proofs.keyed.Seeker.keyed.Goals as goal
