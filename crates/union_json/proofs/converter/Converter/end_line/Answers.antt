use Rattle.std.proofs.Common.{[], ◌∷◌, ◌++◌}
use Rattle.std.proofs.lemmas.List.Elements.{All-nil}
use Rattle.union_json.proofs.LineLaws.{lines_ended, zip_push}
use Rattle.union_json.specs.Outcomes.{IsOutcome}
use Rattle.union_json.proofs.converter.Converter.end_line.Goals as goal

pub returns-clause-taken : goal.returns-clause-taken
returns-clause-taken c =
    λ text before.
    let part = c.args.part.now in
    let line = before.begun ++ part in
    let judged = c.in_ok-judge_begun.ensures.counted line before.all (c.in_ok-add.ensures before.begun before.held) before.counted in
    record {
      done = before.done ++ line ∷ [];
      begun = [];
      lines = lines_ended text before.begun part before.done before.lines before.unended c.requires.unended;
      unended = All-nil _;
      held = c.clear.ensures;
      all = before.all ++ judged.0 ∷ [];
      outcomes = zip_push IsOutcome before.done before.all line judged.0 before.outcomes judged.1;
      counted = judged.2;
    }
