use Rattle.std.proofs.Common.{◌≡◌, ◌+◌, ◌∙◌, [], sym, get_or, arith}
use Rattle.std.proofs.lemmas.List.{get_or_default}
use Rattle.marc_leader.specs.declared.entry.Entry.{Entry}
use Rattle.marc_fields.specs.Rules.{is_control_shaped, is_data_shaped}
use Rattle.marc_fields.proofs.FieldReading.{least-drop-later, least-past, shape-both, shape_failure-none}
use Rattle.marc_fields.proofs.fields.are_shaped_together.Goals as goal

-- the entry that stands for none
none : Entry
none = record { tag = []; length = 0; start = 0 }

pub loop-entry-preserved : goal.loop-entry-preserved
unfolding none
loop-entry-preserved c =
    let entries = c.args.entries.now in
    let bytes = c.args.bytes.now in
    let i = c.loop-entry.entry-index in
    let e : Entry = get_or entries i none in
    let is : e ≡ get_or entries i e = get_or_default entries i none e c.loop-entry-test.true in
    let both = shape-both bytes e (sym c.if-not-is_shaped.ensures) in
    record {
      controls = c.loop-entry.invariant.controls ∙ least-drop-later (is_control_shaped bytes) entries i e c.loop-entry-test.true is both.0;
      data_fields = c.loop-entry.invariant.data_fields ∙ least-drop-later (is_data_shaped bytes) entries i e c.loop-entry-test.true is both.1;
    }

pub returns : goal.returns
returns c = λ _.
    let entries = c.args.entries.now in
    let bytes = c.args.bytes.now in
    let i = c.loop-entry.entry-index in
    shape_failure-none bytes entries (c.loop-entry.invariant.controls ∙ least-past (is_control_shaped bytes) i (i + 1) entries (omega (arith, c.loop-entry-test.false)))
    (c.loop-entry.invariant.data_fields ∙ least-past (is_data_shaped bytes) i (i + 1) entries (omega (arith, c.loop-entry-test.false)))
