use Rattle.std.proofs.Common.{◌≡◌, length, map, take, arith, length-append}
use Rattle.std.proofs.lemmas.List.Folds.{length-flat_map-take}
use Rattle.std.specs.List.{flat_map}
use Rattle.marc_fields.specs.Spelling.{stored, entry_bytes, entries_from}
use Rattle.marc_fields.proofs.AppendingLaws.{Appends-refused, front_kept, data-more, directory-appended, length-stored, short-at, seen-at, seen-below}
use Rattle.marc_fields.proofs.encoding.append_entries.Goals as goal

pub append_entry-requires-clause-length : goal.append_entry-requires-clause-length
append_entry-requires-clause-length g c =
    let field = g.F.HasField.field in
    let xs = c.args.fields.now in
    let i = c.loop-each.each-index in
    let f = c.field-field.result.now in
    let below = seen-below field xs i c.loop-each-test.true in
    let is = seen-at field xs i c.each-item.result f c.loop-each-test.true c.each-item.is c.field-field.ensures in
    omega (arith, c.stored_size-length.ensures, short-at (map field xs) i f c.requires.short below is, length-stored f)

pub append_entry-requires-clause-start : goal.append_entry-requires-clause-start
append_entry-requires-clause-start g c =
    let field = g.F.HasField.field in
    let xs = c.args.fields.now in
    let i = c.loop-each.each-index in
    let below = seen-below field xs i c.loop-each-test.true in
    omega (arith, c.loop-each.invariant.start, c.requires.few, length-flat_map-take stored (map field xs) i c.field-field.result.now below)

pub returns-in_err-append_entry : goal.returns-in_err-append_entry
returns-in_err-append_entry g c =
    let fields = map g.F.HasField.field c.args.fields.now in
    Appends-refused c.from_residual.result c.args.into.now.items c.append_entry.new.into.items
    (flat_map entry_bytes (entries_from 0 fields)) c.from_residual.ensures.0
    (front_kept c.args.into.now.items c.loop-each.into.items c.append_entry.new.into.items
    (flat_map entry_bytes (entries_from 0 (take c.loop-each.each-index fields))) c.loop-each.invariant.appended (c.in_err-append_entry.ensures))

pub overflow_add-start : goal.overflow_add-start
overflow_add-start g c =
    let field = g.F.HasField.field in
    let xs = c.args.fields.now in
    let i = c.loop-each.each-index in
    let below = seen-below field xs i c.loop-each-test.true in
    let room = length-flat_map-take stored (map field xs) i c.field-field.result.now below in
    omega (arith, c.loop-each.invariant.start, c.requires.few, room, c.stored_size-length.ensures)

pub loop-each-preserved : goal.loop-each-preserved
loop-each-preserved g c =
    let field = g.F.HasField.field in
    let xs = c.args.fields.now in
    let fields = map field xs in
    let i = c.loop-each.each-index in
    let f = c.field-field.result.now in
    let below = seen-below field xs i c.loop-each-test.true in
    let is = seen-at field xs i c.each-item.result f c.loop-each-test.true c.each-item.is c.field-field.ensures in
    let size : c.stored_size-length.result ≡ length (stored f)
    = omega (arith, c.stored_size-length.ensures, short-at fields i f c.requires.short below is, length-stored f) in
    let bytes = data-more fields i f below is in
    record {
      start = rw bytes (omega (arith, c.loop-each.invariant.start, length-append (flat_map stored (take i fields)) (stored f)));
      appended = directory-appended fields i f c.args.into.now.items c.loop-each.into.items c.append_entry.new.into.items
          c.stored_size-length.result c.loop-each.start below is size c.loop-each.invariant.start
          c.loop-each.invariant.appended c.in_ok-append_entry.ensures;
    }
