use Rattle.field_merge.specs.Equal.{same_contents}
use Rattle.field_merge.proofs.content.ContentCopied.copied.Goals as goal

pub returns : goal.returns
returns c = same_contents _ c.args.self.now (record {
  contributors = c.in_ok-copied.ensures;
  fixed = c.in_ok-copied-2.ensures;
  f005 = c.in_ok-copied_slot.ensures;
  f010 = c.in_ok-copied_slot-2.ensures;
  f040 = c.in_ok-copied_slot-3.ensures;
  f1xx = c.in_ok-copied_slot-4.ensures;
  f240 = c.in_ok-copied_slot-5.ensures;
  f245 = c.in_ok-copied-3.ensures;
  united = c.in_ok-copied-4.ensures;
})
