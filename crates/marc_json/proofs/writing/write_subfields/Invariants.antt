use Rattle.std.proofs.Common.{◌≡◌, ◌++◌, true}
use Rattle.std.specs.List.{list_all}
use Rattle.union_base.specs.Fields.{is_subfield}
use Rattle.marc_parts.specs.Loads.{is_utf8_subfield}
use Rattle.marc_json.proofs.TokenLaws.{subfields_tokens}
use Rattle.marc_json.proofs.writing.write_subfields.Given as goal

-- with the subfields that are left, all are written
abbrev pub invariant-loop-subfield : goal.invariant-loop-subfield
invariant-loop-subfield l = record {
  tokens : l.out.tokens ++ subfields_tokens l.subfield-iterator ≡ l.initial.out.tokens ++ subfields_tokens l.fn.subfields;
  before : l.out.before ≡ l.initial.out.before;
  formed : list_all is_subfield l.subfield-iterator ≡ true;
  utf8 : list_all is_utf8_subfield l.subfield-iterator ≡ true;
}
