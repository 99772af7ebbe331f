use Rattle.std.proofs.Common.{◌<◌, ◌≤◌, ◌-◌, length, arith}
use Rattle.union_json.proofs.HeldLaws.{held_over, held_longer}
use Rattle.union_json.proofs.begun_line.BegunLine.add.Goals as goal

pub returns-then-part-saturating_sub : goal.returns-then-part-saturating_sub
returns-then-part-saturating_sub c =
    let more : 1048576 - length c.args.self.now.bytes.items < length c.args.part.now = omega (arith, c.args.self.now.bytes.ok.0) in
    λ begun held. held_over c.args.self.now.is_over c.args.self.now.bytes.items begun c.args.part.now c.if-self.false held more

pub returns : goal.returns
returns c =
    let less : length c.args.part.now ≤ 1048576 - length c.args.self.now.bytes.items = omega (arith, c.args.self.now.bytes.ok.0) in
    rw c.in_ok-extend_from_slice.ensures.items
    (λ begun held. held_longer c.args.self.now.is_over c.args.self.now.bytes.items begun c.args.part.now c.if-self.false held less)
