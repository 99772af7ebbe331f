use Rattle.std.proofs.Common.{Bor, map, sym, ap, ◌∙◌}
use Rattle.union_base.specs.declared.record_id.RecordId.{RecordId}
use Rattle.record_homes.specs.Moves.{taken_back}
use Rattle.record_homes.proofs.HomeLaws.{taken_back-more}
use Rattle.record_homes.proofs.moves.take_back.Goals as goal

pub loop-id-preserved : goal.loop-id-preserved
loop-id-preserved c =
    let rest = c.pop.new.self.items in
    ap (λ homes. taken_back homes (map (λ (id : Bor RecordId). id.now) rest)) c.remove.ensures
    ∙ sym (taken_back-more c.loop-id.homes.entries rest c.loop-id.came.items c.in-Some.id c.in-Some.ensures.items)
    ∙ c.loop-id.invariant
