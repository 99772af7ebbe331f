use Rattle.union_keys.proofs.PlacesLaws.{placed-frames}
use Rattle.union_keys.proofs.laws.placed_are_the_frames.Goals as goal

pub returns : goal.returns
returns c = placed-frames
