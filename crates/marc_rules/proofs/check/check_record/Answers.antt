use Rattle.std.proofs.Common.{ap, length, arith}
use Rattle.marc_fields.proofs.DecodingLaws.{length-read}
use Rattle.marc_rules.proofs.check.check_record.Goals as goal

pub check_entries-requires : goal.check_entries-requires
check_entries-requires c =
    omega (arith, ap length c.as_slice.ensures.value, length-read c.args.directory.now c.args.count c.in-Ok.entries.items c.in-Ok.ensures.1)
