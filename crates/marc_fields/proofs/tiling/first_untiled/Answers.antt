use Rattle.std.proofs.Common.{◌≡◌, ◌∙◌, sym, take, get_or, [], length}
use Rattle.std.proofs.lemmas.List.{get_or_default}
use Rattle.marc_leader.specs.declared.entry.Entry.{Entry}
use Rattle.marc_fields.proofs.TilingLaws.{free-is, tiling-here, tiling-later, owners-more}
use Rattle.marc_fields.proofs.tiling.first_untiled.Goals as goal

-- the entry that stands for none
none : Entry
none = record { tag = []; length = 0; start = 0 }

pub returns-then-not-is_free_tile-clause-row : goal.returns-then-not-is_free_tile-clause-row
unfolding none
returns-then-not-is_free_tile-clause-row c =
    let entries = c.args.entries.now in
    let i = c.loop-i.i in
    let e : Entry = get_or entries i none in
    let is : e ≡ get_or entries i e = get_or_default entries i none e c.loop-i-test.true in
    let size : length c.loop-i.marks ≡ length c.args.bytes.now = c.loop-i.auto.marks ∙ c.requires.size in
    sym (c.loop-i.invariant.row ∙ tiling-here c.args.bytes.now entries i e c.loop-i-test.true is
    (sym (c.if-not-is_free_tile.ensures ∙ free-is c.args.bytes.now (take i entries) c.loop-i.marks e size c.loop-i.invariant.marked)))

pub loop-i-preserved : goal.loop-i-preserved
unfolding none
loop-i-preserved c =
    let entries = c.args.entries.now in
    let i = c.loop-i.i in
    let e : Entry = get_or entries i none in
    let is : e ≡ get_or entries i e = get_or_default entries i none e c.loop-i-test.true in
    let size : length c.loop-i.marks ≡ length c.args.bytes.now = c.loop-i.auto.marks ∙ c.requires.size in
    record {
      row = c.loop-i.invariant.row ∙ tiling-later c.args.bytes.now entries i e c.loop-i-test.true is
          (sym (c.if-not-is_free_tile.ensures ∙ free-is c.args.bytes.now (take i entries) c.loop-i.marks e size c.loop-i.invariant.marked));
      marked = owners-more entries i e c.loop-i.marks c.mark.new.marks c.loop-i-test.true is c.loop-i.invariant.marked c.mark.ensures;
    }
