use Rattle.std.proofs.Common.{[], ◌∷◌, ◌++◌, sym, subst}
use Rattle.std.specs.List.{AllZip}
use Rattle.union_json.proofs.LineLaws.{lines_whole, zip_push}
use Rattle.union_json.specs.Outcomes.{IsOutcome}
use Rattle.union_json.proofs.converter.Converter.finish.Goals as goal

pub returns : goal.returns
returns c =
    λ text before.
    let judged = c.in_ok-judge_begun.ensures.counted before.begun before.all before.held before.counted in
    record {
      all = before.all ++ judged.0 ∷ [];
      outcomes = subst (λ lines. AllZip IsOutcome lines (before.all ++ judged.0 ∷ []))
          (sym (lines_whole text before.begun before.done before.lines before.unended))
          (zip_push IsOutcome before.done before.all before.begun judged.0 before.outcomes judged.1);
      counted = judged.2;
    }
