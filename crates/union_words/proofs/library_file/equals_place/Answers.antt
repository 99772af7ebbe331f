use Rattle.std.proofs.Common.{◌==◌}
use Rattle.union_words.proofs.PlaceLaws.{place_of_none}
use Rattle.union_words.proofs.library_file.equals_place.Goals as goal

pub returns-in-None-clause-value : goal.returns-in-None-clause-value
returns-in-None-clause-value c = place_of_none (λ b. b == 0x3D) c.args.word.now c.in-None.ensures
