use Rattle.std.specs.Prelude.{◌-◌, length}
use Rattle.union_words.specs.Meanings.{libraries_meaning}
use Rattle.union_files.proofs.opening.+open_rest.Given as goal

abbrev pub decreases-open_rest : goal.decreases-open_rest
decreases-open_rest g l = length (libraries_meaning l.libraries.now) - l.place
