use Rattle.union_explain.proofs.CutLaws.{located-frames}
use Rattle.union_explain.proofs.laws.located_are_the_frames.Goals as goal

pub returns : goal.returns
returns c = located-frames
