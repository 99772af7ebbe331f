use Rattle.std.proofs.Common.{◌++◌, sym, ap, ◌∙◌, subst, append_assoc, arith, take}
use Rattle.std.proofs.lemmas.List.{take_more, take_all}
use Rattle.library_batches.specs.Outcomes.{AreCounted}
use Rattle.library_batches.proofs.outcome_counts.OutcomeCounts.count.Goals as goal

-- src/outcome_counts.rt:51:9
pub loop-outcome-preserved : goal.loop-outcome-preserved
loop-outcome-preserved c = record {
  more = λ found before. let h = c.count_one.ensures.more (found ++ take c.loop-outcome.outcome-index c.args.outcomes.now) (c.loop-outcome.invariant.more found before) in
      let e = take_more c.args.outcomes.now c.loop-outcome.outcome-index _ c.loop-outcome-test.true in
      subst (λ xs. AreCounted xs c.count_one.new.self) (append_assoc found _ _ ∙ sym (ap (λ xs. found ++ xs) e)) h;
  total = omega arith;
}

-- src/outcome_counts.rt:46:5
pub returns-clause-more : goal.returns-clause-more
returns-clause-more c = λ found before. subst (λ xs. AreCounted (found ++ xs) c.loop-outcome.self) (take_all c.loop-outcome.outcome-index c.args.outcomes.now c.loop-outcome-test.false) (c.loop-outcome.invariant.more found before)
