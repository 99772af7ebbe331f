use Rattle.std.proofs.Common.{arith, ap}
use Rattle.marc_fields.specs.Tilings.{count_of}
use Rattle.marc_fields.proofs.OrderLaws.{count_of-cut, count_of-most}
use Rattle.marc_fields.proofs.counting.count_of.Goals as goal

pub loop-rest-preserved : goal.loop-rest-preserved
loop-rest-preserved c =
    let byte = c.args.byte in
    let cut = count_of-cut byte c.min.result c.loop-rest.rest.now in
    let front = ap (count_of byte) c.split_at.ensures.front in
    let back = ap (count_of byte) c.split_at.ensures.back in
    let most = count_of-most byte c.split_at.result.0.now in
    let here = c.count_in_block.ensures in
    record {
      few = omega (arith, c.loop-rest.invariant.few, most, here, c.split_at.ensures.front_len, c.split_at.ensures.back_len);
      all = omega (arith, c.loop-rest.invariant.all, cut, front, back, here);
    }
