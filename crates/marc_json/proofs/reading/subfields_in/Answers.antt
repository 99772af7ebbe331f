use Rattle.std.proofs.Common.{◌≡◌, map, Some, arith}
use Rattle.serde_json.specs.Find.{as_array}
use Rattle.serde_json.specs.View.{view, items_of}
use Rattle.marc_json.proofs.ShapeLaws.{no_list_items, no_list}
use Rattle.marc_json.proofs.reading.subfields_in.Goals as goal

pub returns-then-is_empty : goal.returns-then-is_empty
returns-then-is_empty c =
    let list : Some (items_of (map view c.as_slice-items.result.now)) ≡ as_array (view c.args.value.now) = rw c.as_slice-items.ensures.value c.in-Some.ensures in
    no_list_items c.as_slice-items.result.now (view c.args.value.now) c.if-is_empty.ensures list

pub returns-in-None : goal.returns-in-None
returns-in-None c =
    let list : Some (items_of (map view c.as_slice-items.result.now)) ≡ as_array (view c.args.value.now) = rw c.as_slice-items.ensures.value c.in-Some.ensures in
    no_list c.as_slice-items.result.now c.loop-item.item-index c.item-item.result (view c.args.value.now) (omega arith) c.item-item.is list c.in-None.ensures
