use Rattle.std.proofs.Common.{[], refl}
use Rattle.std.proofs.lemmas.List.Elements.{All-nil}
use Rattle.union_json.proofs.converter.Converter.open.Goals as goal

pub returns-clause-taken : goal.returns-clause-taken
returns-clause-taken c = record {
  done = [];
  begun = [];
  lines = λ more. refl;
  unended = All-nil _;
  held = c.new.ensures;
  all = [];
  outcomes = tt;
  counted = c.in_ok-open.ensures.counted;
}
