use Rattle.std.proofs.Common.{◌≡◌, map, take, true}
use Rattle.std.specs.List.{list_all}
use Rattle.serde_json.specs.View.{view}
use Rattle.union_base.specs.Fields.{is_subfield}
use Rattle.marc_json.specs.Values.{subfield_value}
use Rattle.marc_json.proofs.reading.subfields_in.Given as goal

-- the items so far are the values of the subfields
abbrev pub invariant-loop-item : goal.invariant-loop-item
invariant-loop-item l = record {
  formed : list_all is_subfield l.subfields.items ≡ true;
  same : map subfield_value l.subfields.items ≡ map view (take l.item-index l.items);
}
