use Rattle.std.proofs.Common.{sym}
use Rattle.std.proofs.lemmas.List.{nil_from_length}
use Rattle.union_base.proofs.SortedListLaws.{left_rest, right_rest, merged_less, merged_equal, merged_greater, merged_left, merged_right}
use Rattle.union_base.proofs.sorted_list.merged.Goals as goal
use Rattle.union_base.proofs.sorted_list.merged.Goals.{in_default, in_default-2}

pub loop-x-preserved-in_ok-push_copy-in-Less : goal.loop-x-preserved-in_ok-push_copy-in-Less
loop-x-preserved-in_ok-push_copy-in-Less g c =
    record {
      left = left_rest g.met.K.Ord.total g.met.K.Element.ties c.in-Some-Some.x.now c.in-Some-Some.y.now c.in-Some-Some.lefts.now c.in-Some-Some.rights.now
          c.loop-x.left.now c.loop-x.right.now c.loop-x.items.items _ c.in-Some-Some.ensures.cases.0 c.in-Some-Some.ensures'.cases.0
          c.loop-x.invariant.left c.loop-x.invariant.right c.loop-x.invariant.all;
      right = c.loop-x.invariant.right;
      all = rw c.in_ok-push_copy-in-Less.ensures (merged_less g.met.K.Ord.total g.met.K.Element.ties c.in-Some-Some.x.now c.in-Some-Some.y.now c.in-Some-Some.lefts.now c.in-Some-Some.rights.now
          c.loop-x.left.now c.loop-x.right.now c.loop-x.items.items _ c.in-Some-Some.ensures.cases.0 c.in-Some-Some.ensures'.cases.0
          c.loop-x.invariant.left c.loop-x.invariant.right c.loop-x.invariant.all (sym c.in-Less.ensures));
    }

pub loop-x-preserved-in_ok-push_copy-in-Equal : goal.loop-x-preserved-in_ok-push_copy-in-Equal
loop-x-preserved-in_ok-push_copy-in-Equal g c =
    record {
      left = left_rest g.met.K.Ord.total g.met.K.Element.ties c.in-Some-Some.x.now c.in-Some-Some.y.now c.in-Some-Some.lefts.now c.in-Some-Some.rights.now
          c.loop-x.left.now c.loop-x.right.now c.loop-x.items.items _ c.in-Some-Some.ensures.cases.0 c.in-Some-Some.ensures'.cases.0
          c.loop-x.invariant.left c.loop-x.invariant.right c.loop-x.invariant.all;
      right = right_rest g.met.K.Ord.total g.met.K.Element.ties c.in-Some-Some.x.now c.in-Some-Some.y.now c.in-Some-Some.lefts.now c.in-Some-Some.rights.now
          c.loop-x.left.now c.loop-x.right.now c.loop-x.items.items _ c.in-Some-Some.ensures.cases.0 c.in-Some-Some.ensures'.cases.0
          c.loop-x.invariant.left c.loop-x.invariant.right c.loop-x.invariant.all;
      all = rw c.in_ok-push_copy-in-Equal.ensures (merged_equal g.met.K.Ord.total g.met.K.Element.ties c.in-Some-Some.x.now c.in-Some-Some.y.now c.in-Some-Some.lefts.now c.in-Some-Some.rights.now
          c.loop-x.left.now c.loop-x.right.now c.loop-x.items.items _ c.in-Some-Some.ensures.cases.0 c.in-Some-Some.ensures'.cases.0
          c.loop-x.invariant.left c.loop-x.invariant.right c.loop-x.invariant.all (sym c.in-Equal.ensures));
    }

pub loop-x-preserved : goal.loop-x-preserved
loop-x-preserved g c =
    record {
      left = c.loop-x.invariant.left;
      right = right_rest g.met.K.Ord.total g.met.K.Element.ties c.in-Some-Some.x.now c.in-Some-Some.y.now c.in-Some-Some.lefts.now c.in-Some-Some.rights.now
          c.loop-x.left.now c.loop-x.right.now c.loop-x.items.items _ c.in-Some-Some.ensures.cases.0 c.in-Some-Some.ensures'.cases.0
          c.loop-x.invariant.left c.loop-x.invariant.right c.loop-x.invariant.all;
      all = rw c.in_ok-push_copy-in-Greater.ensures (merged_greater g.met.K.Ord.total g.met.K.Element.ties c.in-Some-Some.x.now c.in-Some-Some.y.now c.in-Some-Some.lefts.now c.in-Some-Some.rights.now
          c.loop-x.left.now c.loop-x.right.now c.loop-x.items.items _ c.in-Some-Some.ensures.cases.0 c.in-Some-Some.ensures'.cases.0
          c.loop-x.invariant.left c.loop-x.invariant.right c.loop-x.invariant.all (sym c.in-Greater.ensures));
    }

pub returns : goal.returns
returns g c =
    rw (c.in_ok-push_copies-2.ensures, c.in_ok-push_copies.ensures)
    (elim c.match-split_first.branch [
      | in_default w ↦ merged_left g.met.K.Ord.total g.met.K.Element.ties c.loop-x.items.items c.loop-x.left.now c.loop-x.right.now _
          (nil_from_length _ w.in_default.ensures'.cases) c.loop-x.invariant.all
      | in_default-2 w ↦ merged_right g.met.K.Ord.total g.met.K.Element.ties c.loop-x.items.items c.loop-x.left.now c.loop-x.right.now _
          (nil_from_length _ w.in_default.ensures.cases) c.loop-x.invariant.right c.loop-x.invariant.all
    ])
