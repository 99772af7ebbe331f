use Rattle.std.proofs.Common.{◌≡◌, ◌++◌, take}
use Rattle.marc_json.proofs.TokenLaws.{fields_tokens}
use Rattle.marc_json.proofs.writing.write_fields.Given as goal

-- the fields so far are written
abbrev pub invariant-loop-field : goal.invariant-loop-field
invariant-loop-field l = record {
  tokens : l.out.tokens ≡ l.initial.out.tokens ++ fields_tokens (take l.field-index l.fields);
  before : l.out.before ≡ l.initial.out.before;
}
