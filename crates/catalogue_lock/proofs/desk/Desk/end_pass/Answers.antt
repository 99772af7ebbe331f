use Rattle.std.proofs.Common.{arith}
use Rattle.catalogue_lock.proofs.Roots.{join_allowed}
use Rattle.catalogue_lock.proofs.desk.Desk.end_pass.Goals as goal

pub join_seat-requires : goal.join_seat-requires
join_seat-requires g c =
    let d = c.args.self.now in
    let r = c.args.root.now in
    let p = c.args.pass in (
      c.requires.desk,
      c.requires.pass_desk,
      p.rests.hand,
      omega (arith, d.sized.0),
      join_allowed g.M.Machine.setting g.M.Machine.entries r.place.id r.place.me.0 p.place.id p.place.me.0 g.M.Machine.spare r.rests.0 p.rests.role p.rests.idle,
    )
