use Rattle.std.proofs.Common.{◌∙◌}
use Rattle.match_features.proofs.BesideSteps.{left_rest, right_rest, each_less, each_equal, each_greater}
use Rattle.match_features.proofs.beside.has_each_of.Goals as goal

pub loop-x-preserved-in-Less : goal.loop-x-preserved-in-Less
loop-x-preserved-in-Less g c =
    let s = c.in-Some-Some in
    record {
      left = left_rest g.met.K.Ord.total g.met.K.Element.ties s.x.now s.y.now s.lefts.now s.rights.now
          c.loop-x.left.now c.loop-x.right.now s.ensures.cases.0 s.ensures'.cases.0 c.loop-x.invariant.left c.loop-x.invariant.right;
      right = c.loop-x.invariant.right;
      same = each_less g.met.K.Ord.total g.met.K.Element.ties s.x.now s.y.now s.lefts.now s.rights.now
          c.loop-x.left.now c.loop-x.right.now s.ensures.cases.0 s.ensures'.cases.0 c.loop-x.invariant.left c.loop-x.invariant.right
          c.in-Less.ensures ∙ c.loop-x.invariant.same;
    }

pub loop-x-preserved : goal.loop-x-preserved
loop-x-preserved g c =
    let s = c.in-Some-Some in
    record {
      left = left_rest g.met.K.Ord.total g.met.K.Element.ties s.x.now s.y.now s.lefts.now s.rights.now
          c.loop-x.left.now c.loop-x.right.now s.ensures.cases.0 s.ensures'.cases.0 c.loop-x.invariant.left c.loop-x.invariant.right;
      right = right_rest g.met.K.Ord.total g.met.K.Element.ties s.x.now s.y.now s.lefts.now s.rights.now
          c.loop-x.left.now c.loop-x.right.now s.ensures.cases.0 s.ensures'.cases.0 c.loop-x.invariant.left c.loop-x.invariant.right;
      same = each_equal g.met.K.Ord.total g.met.K.Element.ties s.x.now s.y.now s.lefts.now s.rights.now
          c.loop-x.left.now c.loop-x.right.now s.ensures.cases.0 s.ensures'.cases.0 c.loop-x.invariant.left c.loop-x.invariant.right
          c.in-Equal.ensures ∙ c.loop-x.invariant.same;
    }

pub returns-in-Greater : goal.returns-in-Greater
returns-in-Greater g c =
    let s = c.in-Some-Some in
    each_greater g.met.K.Ord.total g.met.K.Element.ties s.x.now s.y.now s.lefts.now s.rights.now
    c.loop-x.left.now c.loop-x.right.now s.ensures.cases.0 s.ensures'.cases.0 c.loop-x.invariant.left c.loop-x.invariant.right
    c.in-Greater.ensures ∙ c.loop-x.invariant.same
