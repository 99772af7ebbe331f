use Rattle.std.proofs.Common.{refl, sym, ◌∙◌}
use Rattle.record_homes.proofs.StayLaws.{houses-set, houses-passed, houses-next}
use Rattle.record_homes.proofs.moves.house_newcomers.Goals as goal

pub loop-id-init : goal.loop-id-init
loop-id-init c = record { stay = c.requires; rest = refl }

pub loop-id-preserved-in-Less : goal.loop-id-preserved-in-Less
loop-id-preserved-in-Less c =
    houses-set c.loop-id.invariant c.in-Some-Some.id.now c.in-Some-Some.lefts.now c.in-Some-Some.ensures.cases.0 c.set_block.new.self.entries c.set_block.ensures

pub loop-id-preserved-in-Equal : goal.loop-id-preserved-in-Equal
loop-id-preserved-in-Equal c =
    houses-passed c.loop-id.invariant c.in-Some-Some.id.now c.in-Some-Some.other.now c.in-Some-Some.lefts.now c.in-Some-Some.rights.now
    c.in-Some-Some.ensures.cases.0 c.in-Some-Some.ensures'.cases.0 (sym c.in-Equal.ensures)

pub loop-id-preserved : goal.loop-id-preserved
loop-id-preserved c = houses-next c.loop-id.invariant c.in-Some-Some.other.now c.in-Some-Some.rights.now c.in-Some-Some.ensures'.cases.0

pub returns : goal.returns
returns c = c.house.ensures ∙ c.loop-id.invariant.rest
