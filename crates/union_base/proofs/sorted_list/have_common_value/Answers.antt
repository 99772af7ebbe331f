use Rattle.std.proofs.Common.{sym, ◌∙◌}
use Rattle.std.proofs.lemmas.List.{nil_from_length}
use Rattle.union_base.proofs.SortedListLaws.{common_less, common_greater, common_none}
use Rattle.union_base.proofs.sorted_list.have_common_value.Goals as goal

pub loop-x-preserved-in-Less : goal.loop-x-preserved-in-Less
loop-x-preserved-in-Less g c =
    let step = common_less g.met.K.Ord.total c.in-Some-Some.x.now c.in-Some-Some.y.now c.in-Some-Some.lefts.now c.in-Some-Some.rights.now
    c.loop-x.left.now c.loop-x.right.now c.in-Some-Some.ensures.cases.0 c.in-Some-Some.ensures'.cases.0
    c.loop-x.invariant.left c.loop-x.invariant.right (sym c.in-Less.ensures) in
    record { left = step.0; right = c.loop-x.invariant.right; same = step.1 ∙ c.loop-x.invariant.same }

pub loop-x-preserved : goal.loop-x-preserved
loop-x-preserved g c =
    let step = common_greater g.met.K.Ord.total c.in-Some-Some.x.now c.in-Some-Some.y.now c.in-Some-Some.lefts.now c.in-Some-Some.rights.now
    c.loop-x.left.now c.loop-x.right.now c.in-Some-Some.ensures.cases.0 c.in-Some-Some.ensures'.cases.0
    c.loop-x.invariant.left c.loop-x.invariant.right (sym c.in-Greater.ensures) in
    record { left = c.loop-x.invariant.left; right = step.0; same = step.1 ∙ c.loop-x.invariant.same }

pub returns-in_default : goal.returns-in_default
returns-in_default g c =
    common_none g.met.K.Ord.total c.loop-x.left.now c.loop-x.right.now (nil_from_length _ c.in_default.ensures'.cases) ∙ c.loop-x.invariant.same
