use Rattle.std.proofs.Common.{◌<◌, length, sym, arith}
use Rattle.std.proofs.lemmas.Grind.{common_steps}
use Rattle.iso2709_frame.proofs.FrameLaws.{gathered-skip_breaks}
use Rattle.iso2709_frame.proofs.cutter.kept_part.Goals as goal

pub returns-else-is_empty : goal.returns-else-is_empty
returns-else-is_empty c =
    let some : 0 < length c.args.held.now = grind (arith, common_steps) in
    sym (gathered-skip_breaks c.args.held.now c.args.part.now c.requires some)
