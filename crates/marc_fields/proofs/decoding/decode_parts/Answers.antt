use Rattle.std.proofs.Common.{ap, length, arith}
use Rattle.marc_fields.proofs.DecodingLaws.{length-read}
use Rattle.marc_fields.proofs.decoding.decode_parts.Goals as goal

pub decode_data-requires-clause-few : goal.decode_data-requires-clause-few
decode_data-requires-clause-few c =
    omega (arith, ap length c.as_slice.ensures.value, length-read c.args.directory.now c.args.count c.in-Ok.entries.items c.in-Ok.ensures.1)
