use Rattle.std.proofs.Common.{length}
use Rattle.swoosh_halves.proofs.indexed.+resolve_by_halves.Given as goal

abbrev pub decreases-resolve_by_halves : goal.decreases-resolve_by_halves
decreases-resolve_by_halves g l = length l.list.items
