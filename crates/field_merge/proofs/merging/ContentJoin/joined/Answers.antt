use Rattle.std.proofs.Common.{◌∙◌}
use Rattle.field_merge.specs.Equal.{same_contents}
use Rattle.field_merge.specs.KeptLaws.{kept-union}
use Rattle.field_merge.specs.Merging.{join}
use Rattle.field_merge.proofs.merging.ContentJoin.joined.Goals as goal

pub invariant_of-result : goal.invariant_of-result
invariant_of-result c =
    let one = c.args.self.now in
    let other = c.args.other.now in
    record { kept = rw (c.in_ok-union.ensures, c.in_ok-union-2.ensures) (kept-union one.contributors other.contributors one.united other.united one.kept other.kept) }

pub returns : goal.returns
returns c = same_contents _ (join c.args.self.now c.args.other.now) (record {
  contributors = c.in_ok-union.ensures;
  fixed = c.in_ok-copied.ensures ∙ c.greater.ensures;
  f005 = c.in_ok-copied_slot.ensures ∙ c.greater-2.ensures;
  f010 = c.in_ok-copied_slot-2.ensures ∙ c.greater-3.ensures;
  f040 = c.in_ok-copied_slot-3.ensures ∙ c.greater-4.ensures;
  f1xx = c.in_ok-copied_slot-4.ensures ∙ c.greater-5.ensures;
  f240 = c.in_ok-copied_slot-5.ensures ∙ c.greater-6.ensures;
  f245 = c.in_ok-copied-2.ensures ∙ c.greater-7.ensures;
  united = c.in_ok-union-2.ensures;
})
