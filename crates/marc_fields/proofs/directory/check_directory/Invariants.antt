use Rattle.std.proofs.Common.{◌≡◌, ◌+◌, ◌++◌, ◌-◌, ◌*◌, length, map, true}
use Rattle.std.specs.List.{flat_map, list_all}
use Rattle.marc_fields.specs.Directories.{is_formed}
use Rattle.marc_fields.specs.Rows.{least_where_not}
use Rattle.marc_fields.specs.Rules.{entry_in, entry_texts, has_digits, has_tag}
use Rattle.marc_fields.specs.Spelling.{entry_bytes}
use Rattle.marc_fields.proofs.directory.check_directory.Given as goal

-- the entries so far and the rest of the texts are the whole, and the rest decides
abbrev pub invariant-loop-i : goal.invariant-loop-i
invariant-loop-i l = record {
  size : length l.rest ≡ 12 * (l.count - l.i);
  digits : least_where_not has_digits 1 (entry_texts l.count l.directory) ≡ least_where_not has_digits (l.i + 1) (entry_texts (l.count - l.i) l.rest);
  tags : least_where_not has_tag 1 (entry_texts l.count l.directory) ≡ least_where_not has_tag (l.i + 1) (entry_texts (l.count - l.i) l.rest);
  spelled : l.directory ≡ flat_map entry_bytes l.entries.items ++ l.rest;
  are : map entry_in (entry_texts l.count l.directory) ≡ l.entries.items ++ map entry_in (entry_texts (l.count - l.i) l.rest);
  formed : list_all is_formed l.entries.items ≡ true;
}
