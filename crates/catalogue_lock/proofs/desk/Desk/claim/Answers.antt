use Rattle.std.proofs.Common.{arith}
use Rattle.catalogue_lock.proofs.Kept.{claim_allowed}
use Rattle.catalogue_lock.proofs.desk.Desk.claim.Goals as goal

pub compare_exchange-requires : goal.compare_exchange-requires
compare_exchange-requires g c = let d = c.args.self.now in let r = c.requires.rests in (
  c.requires.desk,
  omega (arith, d.sized.0),
  claim_allowed g.M.Machine.setting g.M.Machine.entries _ _ _ c.args.loaded r.role r.idle c.requires.even,
)
