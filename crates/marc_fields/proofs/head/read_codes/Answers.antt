use Rattle.std.proofs.Common.{◌∙◌}
use Rattle.marc_leader.specs.Leader.{misfit}
use Rattle.marc_fields.proofs.FrontLaws.{leader_of-counted, not_length_digits, not_base_digits}
use Rattle.marc_fields.proofs.head.read_codes.Goals as goal

pub unreachable-requires : goal.unreachable-requires
unreachable-requires c =
    not_length_digits (misfit c.args.leader.now) c.args.leader.now
    ((rw c.in-Err-LengthDigits.field-0-is at c.in-Err-LengthDigits.ensures.value) ∙ leader_of-counted c.args.leader.now c.requires.length c.requires.base)

pub unreachable-requires-in-Err-BaseDigits : goal.unreachable-requires-in-Err-BaseDigits
unreachable-requires-in-Err-BaseDigits c =
    not_base_digits (misfit c.args.leader.now) c.args.leader.now
    ((rw c.in-Err-BaseDigits.field-0-is at c.in-Err-BaseDigits.ensures.value) ∙ leader_of-counted c.args.leader.now c.requires.length c.requires.base)
