use Rattle.std.proofs.Common.{◌≡◌, length, take, map, min}
use Rattle.std.specs.List.{flat_map, list_all}
use Rattle.std.specs.Prelude.{IsTrue}
use Rattle.marc_fields.specs.Spelling.{stored, is_short}
use Rattle.marc_fields.proofs.encoding.data_size.Given as goal

-- the fields so far are short, and these are their bytes
abbrev pub invariant-loop-each : goal.invariant-loop-each
invariant-loop-each g l = record {
  short : IsTrue (list_all is_short (map g.F.HasField.field (take l.each-index l.fields)));
  size : l.size ≡ min (length (flat_map stored (map g.F.HasField.field (take l.each-index l.fields)))) 100000;
}
