use Rattle.std.proofs.Common.{arith}
use Rattle.catalogue_lock.proofs.Roots.{split_allowed}
use Rattle.catalogue_lock.proofs.desk.Desk.make_pass.Goals as goal

pub split_seat-place-requires : goal.split_seat-place-requires
split_seat-place-requires g c =
    let d = c.args.self.now in
    let r = c.args.root.now in
    (c.requires.desk, omega (arith, d.sized.0), split_allowed g.M.Machine.setting g.M.Machine.entries r.place.id r.place.me.0 r.rests.0)
