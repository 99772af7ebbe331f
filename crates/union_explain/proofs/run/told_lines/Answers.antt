use Rattle.std.proofs.Common.{ap, arith}
use Rattle.union_explain.specs.Runs.{told_lines}
use Rattle.union_explain.proofs.run.told_lines.Goals as goal

pub returns : goal.returns
returns c =
    omega (arith, c.loop-line.invariant.all, c.loop-line.invariant.within, ap told_lines c.in_default.ensures.0)
