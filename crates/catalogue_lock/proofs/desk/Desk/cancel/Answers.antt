use Rattle.std.proofs.Common.{arith, ap, length, ◌+◌, ◌-◌, ◌%◌, ◌^◌}
use Rattle.catalogue_lock.proofs.Kept.{release_allowed, extends_none, no_turn_more}
use Rattle.catalogue_lock.proofs.desk.Desk.cancel.Goals as goal

pub fetch_sub-requires : goal.fetch_sub-requires
fetch_sub-requires g c =
    let d = c.args.self.now in
    let h = c.requires.same in
    let law = g.met.M.Machine g.world.𝓛 g.world.𝓜 g.world.𝓡 ((λ s x. x), (λ x. x), (λ x. x), λ x. x) in (
      c.requires.desk,
      omega (arith, d.sized.0),
      release_allowed g.M.Machine.setting g.M.Machine.entries _ _ _ (λ n. (n + (2 ^ 64 - 1)) % 2 ^ 64) c.requires.holds.0 c.requires.holds.1 h.0 h.1 h.2 (extends_none _ _ _ h.3) (no_turn_more _ _ (ap length h.3) (law.bounded h.0)),
    )
