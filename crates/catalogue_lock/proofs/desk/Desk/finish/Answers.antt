use Rattle.std.proofs.Common.{arith, ap, length, ◌∙◌, ◌+◌, ◌%◌, ◌^◌}
use Rattle.std.proofs.lemmas.List.{length_push}
use Rattle.catalogue_lock.proofs.Kept.{release_allowed, extends_by, one_turn_more}
use Rattle.catalogue_lock.proofs.desk.Desk.finish.Goals as goal

pub fetch_add-requires : goal.fetch_add-requires
fetch_add-requires g c =
    let d = c.args.self.now in
    let h = c.requires.grown in
    let law = g.met.M.Machine g.world.𝓛 g.world.𝓜 g.world.𝓡 ((λ s x. x), (λ x. x), (λ x. x), λ x. x) in
    let long = ap length h.4 ∙ length_push c.args.place.now.me.0.base (c.args.place.now.me.0.number, h.1) in (
      c.requires.desk,
      omega (arith, d.sized.0),
      release_allowed g.M.Machine.setting g.M.Machine.entries _ _ _ (λ n. (n + 1) % 2 ^ 64) c.requires.holds.0 c.requires.holds.1 h.0 h.2 h.3 (extends_by _ _ _ h.1 h.4) (one_turn_more _ _ long (law.bounded h.0)),
    )
