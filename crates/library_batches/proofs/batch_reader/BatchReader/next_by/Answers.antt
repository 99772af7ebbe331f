use Rattle.std.proofs.Common.{◌≡◌, ◌<◌, length, sym, ap, ◌∙◌, arith}
use Rattle.std.proofs.lemmas.Bool.Decides.{nat_tests}
use Rattle.std.proofs.lemmas.Result.{err_from_is_err_and}
use Rattle.library_batches.specs.Reading.{Batching, IsLostBySeveral}
use Rattle.library_batches.proofs.BlockLaws.{some_in-more, some_in-none}
use Rattle.library_batches.proofs.StopLaws.{stops-reading}
use Rattle.library_batches.proofs.PassedLaws.{Passes-block, Answers-batch, Answers-end, is_batch-block}
use Rattle.library_batches.proofs.batch_reader.BatchReader.next_by.Goals as goal

pub invariant_of-result : goal.invariant_of-result
invariant_of-result g c =
    let block = c.in_ok-ops.ensures.answers in
    let ops = c.in_ok-ops.field-0.ops in
    let some : 0 < length ops.items = grind (arith, nat_tests, c.if-not-is_empty.ensures, ops.ok) in
    let code : c.loop-ops.self.library ≡ c.self.inside.library = sym (ap (λ (a : Batching). a.library) c.self.view_is ∙ c.read_block_by.ensures.library) in
    record { fits = rw (c.from.ensures, ← code) (is_batch-block c.loop-ops.self.prefer c.loop-ops.self.library _ block.taken ops.items _ _ block.checked block.most some) }

pub returns-then-not-is_empty-clause-answers : goal.returns-then-not-is_empty-clause-answers
returns-then-not-is_empty-clause-answers g c =
    let ops = c.in_ok-ops.field-0.ops in
    let some : 0 < length ops.items = grind (arith, nat_tests, c.if-not-is_empty.ensures, ops.ok) in
    let code : c.self.inside.library ≡ c.loop-ops.self.library = ap (λ (a : Batching). a.library) c.self.view_is ∙ c.read_block_by.ensures.library in
    Answers-batch c.args.self.now c.loop-ops.self c.read_block_by.new.self (g.S.Source.left c.args.source.now) (g.S.Source.left c.loop-ops.source)
    (g.S.Source.left c.read_block_by.new.source) c.in_ok-ops.field-0 _ c.loop-ops.invariant.passed c.in_ok-ops.ensures.answers c.read_block_by.ensures.prefer c.read_block_by.ensures.library code
    c.from.ensures (some_in-more ops.items some)

pub returns-then-ended-clause-answers : goal.returns-then-ended-clause-answers
returns-then-ended-clause-answers g c =
    let ops = c.in_ok-ops.field-0.ops in
    let none : length ops.items ≡ 0 = grind (arith, nat_tests, c.if-not-is_empty.ensures, ops.ok) in
    Answers-end c.args.self.now c.loop-ops.self c.read_block_by.new.self (g.S.Source.left c.args.source.now) (g.S.Source.left c.loop-ops.source)
    (g.S.Source.left c.read_block_by.new.source) c.in_ok-ops.field-0 c.loop-ops.invariant.passed c.in_ok-ops.ensures.answers c.read_block_by.ensures.prefer c.read_block_by.ensures.library
    (some_in-none ops.items none) c.if-ended.true

pub loop-ops-preserved : goal.loop-ops-preserved
loop-ops-preserved g c =
    let ops = c.in_ok-ops.field-0.ops in
    let none : length ops.items ≡ 0 = grind (arith, nat_tests, c.if-not-is_empty.ensures, ops.ok) in
    record {
      name = c.read_block_by.ensures.name ∙ c.loop-ops.invariant.name;
      faults = c.in_ok-ops.ensures.calm (λ wrong. cc) ∙ c.loop-ops.invariant.faults;
      prefer = c.read_block_by.ensures.prefer ∙ c.loop-ops.invariant.prefer;
      library = c.read_block_by.ensures.library ∙ c.loop-ops.invariant.library;
      passed = Passes-block c.args.self.now c.loop-ops.self c.read_block_by.new.self (g.S.Source.left c.args.source.now) (g.S.Source.left c.loop-ops.source)
          (g.S.Source.left c.read_block_by.new.source) c.in_ok-ops.field-0 c.loop-ops.invariant.passed c.in_ok-ops.ensures.answers c.read_block_by.ensures.prefer c.read_block_by.ensures.library
          (some_in-none ops.items none);
      fewer = omega (arith, c.in_ok-ops.ensures.answers.fewer, c.loop-ops.invariant.fewer);
    }

pub returns-in_err-ops-clause-kept : goal.returns-in_err-ops-clause-kept
returns-in_err-ops-clause-kept g c =
    let p = err_from_is_err_and c.from_residual.result c.from_residual.ensures.1 in
    rw (p.1, p.2)
    (stops-reading IsLostBySeveral c.in_err-ops.field-0.0 c.args.self.now c.loop-ops.self c.read_block_by.new.self (g.S.Source.left c.args.source.now) (g.S.Source.left c.loop-ops.source)
    (g.S.Source.left c.read_block_by.new.source) c.loop-ops.invariant.passed c.in_err-ops.ensures.answers)
