use Rattle.std.proofs.Common.{arith}
use Rattle.catalogue_lock.proofs.Kept.{load_allowed}
use Rattle.catalogue_lock.proofs.desk.Desk.look.Goals as goal

pub load-requires : goal.load-requires
load-requires g c = let d = c.args.self.now in let r = c.requires.rests in (
  c.requires.desk,
  omega (arith, d.sized.0),
  load_allowed g.M.Machine.setting g.M.Machine.entries _ _ _ r.role r.idle,
)
