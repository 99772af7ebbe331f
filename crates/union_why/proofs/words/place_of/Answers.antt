use Rattle.std.proofs.Common.{◌==◌}
use Rattle.union_words.proofs.PlaceLaws.{place_of_none}
use Rattle.union_why.proofs.words.place_of.Goals as goal

pub returns-in-None-clause-value : goal.returns-in-None-clause-value
returns-in-None-clause-value c = place_of_none (λ b. b == c.args.byte) c.args.text.now c.in-None.ensures
