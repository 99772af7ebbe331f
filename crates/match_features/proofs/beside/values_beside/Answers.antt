use Rattle.std.proofs.Common.{◌≡◌, ◌++◌, ◌∙◌, ap}
use Rattle.std.proofs.lemmas.List.{nil_from_length}
use Rattle.match_features.specs.KeyLists.{beside}
use Rattle.match_features.proofs.BesideSteps.{left_rest, right_rest, found_less, found_equal, found_greater, beside-left_ended, beside-right_ended}
use Rattle.match_features.proofs.beside.values_beside.Goals as goal
use Rattle.match_features.proofs.beside.values_beside.Goals.{in_default, in_default-2}

pub loop-x-preserved-in_ok-push-in-Less : goal.loop-x-preserved-in_ok-push-in-Less
loop-x-preserved-in_ok-push-in-Less g c =
    let s = c.in-Some-Some in
    record {
      left = left_rest g.met.K.Ord.total g.met.K.Element.ties s.x.now s.y.now s.lefts.now s.rights.now
          c.loop-x.left.now c.loop-x.right.now s.ensures.cases.0 s.ensures'.cases.0 c.loop-x.invariant.left c.loop-x.invariant.right;
      right = c.loop-x.invariant.right;
      all = rw (c.in_ok-push-in-Less.ensures.items, c.in_ok-copied-in-Less.ensures) (found_less g.met.K.Ord.total g.met.K.Element.ties s.x.now s.y.now s.lefts.now s.rights.now
          c.loop-x.left.now c.loop-x.right.now s.ensures.cases.0 s.ensures'.cases.0 c.loop-x.invariant.left c.loop-x.invariant.right
          c.loop-x.found.items (beside g.K.Ord.cmp c.args.list.now c.args.base.now) c.loop-x.invariant.all c.in-Less.ensures);
    }

pub loop-x-preserved-in-Equal : goal.loop-x-preserved-in-Equal
loop-x-preserved-in-Equal g c =
    let s = c.in-Some-Some in
    record {
      left = left_rest g.met.K.Ord.total g.met.K.Element.ties s.x.now s.y.now s.lefts.now s.rights.now
          c.loop-x.left.now c.loop-x.right.now s.ensures.cases.0 s.ensures'.cases.0 c.loop-x.invariant.left c.loop-x.invariant.right;
      right = right_rest g.met.K.Ord.total g.met.K.Element.ties s.x.now s.y.now s.lefts.now s.rights.now
          c.loop-x.left.now c.loop-x.right.now s.ensures.cases.0 s.ensures'.cases.0 c.loop-x.invariant.left c.loop-x.invariant.right;
      all = found_equal g.met.K.Ord.total g.met.K.Element.ties s.x.now s.y.now s.lefts.now s.rights.now
          c.loop-x.left.now c.loop-x.right.now s.ensures.cases.0 s.ensures'.cases.0 c.loop-x.invariant.left c.loop-x.invariant.right
          c.loop-x.found.items (beside g.K.Ord.cmp c.args.list.now c.args.base.now) c.loop-x.invariant.all c.in-Equal.ensures;
    }

pub loop-x-preserved : goal.loop-x-preserved
loop-x-preserved g c =
    let s = c.in-Some-Some in
    record {
      left = c.loop-x.invariant.left;
      right = right_rest g.met.K.Ord.total g.met.K.Element.ties s.x.now s.y.now s.lefts.now s.rights.now
          c.loop-x.left.now c.loop-x.right.now s.ensures.cases.0 s.ensures'.cases.0 c.loop-x.invariant.left c.loop-x.invariant.right;
      all = found_greater g.met.K.Ord.total g.met.K.Element.ties s.x.now s.y.now s.lefts.now s.rights.now
          c.loop-x.left.now c.loop-x.right.now s.ensures.cases.0 s.ensures'.cases.0 c.loop-x.invariant.left c.loop-x.invariant.right
          c.loop-x.found.items (beside g.K.Ord.cmp c.args.list.now c.args.base.now) c.loop-x.invariant.all c.in-Greater.ensures;
    }

pub returns : goal.returns
returns g c =
    let left = c.loop-x.left.now in
    let right = c.loop-x.right.now in
    let rest : left ≡ beside g.K.Ord.cmp left right = elim c.match-split_first.branch [
      | in_default w ↦ beside-right_ended g.met.K.Ord.total left right (nil_from_length _ w.in_default.ensures'.cases)
      | in_default-2 w ↦ beside-left_ended g.met.K.Ord.total left right (nil_from_length _ w.in_default.ensures.cases)
    ] in
    c.in_ok-push_copies.ensures ∙ ap (λ zs. c.loop-x.found.items ++ zs) rest ∙ c.loop-x.invariant.all
