use Rattle.std.proofs.Common.{◌≡◌, ◌<◌, ◌++◌, ◌∷◌, [], length, subst, ◌∙◌, arith}
use Rattle.std.proofs.lemmas.Bool.Decides.{nat_tests}
use Rattle.union_trial.specs.Blocks.{IsBlockOf}
use Rattle.union_trial.specs.Streams.{library_code, still_drawn}
use Rattle.union_trial.proofs.BlockLaws.{loaded-more, loaded-all, block-batch, block-fewer}
use Rattle.union_trial.proofs.loading.load_library.Goals as goal

pub returns-then-is_empty-clause-loads : goal.returns-then-is_empty-clause-loads
returns-then-is_empty-clause-loads g c =
    let a = c.args in
    let ops = c.in_ok-ops.ops in
    let none : length ops.items ≡ 0 = grind (arith, nat_tests, c.if-is_empty.ensures, ops.ok) in
    let block : IsBlockOf (library_code a.place) (still_drawn c.applying.draws) (still_drawn c.read_block.new.draws) ops.items = rw c.library_code-library.ensures at c.in_ok-ops.ensures in
    loaded-all a.seed a.count a.place a.catalogue.now.history c.applying.catalogue.history _ _ ops.items c.applying.invariant.loaded block none

pub of-requires : goal.of-requires
of-requires g c =
    let ops = c.in_ok-ops.ops in
    let some : 0 < length ops.items = grind (arith, nat_tests, c.if-is_empty.ensures, ops.ok) in
    block-batch c.library_code-library.result _ _ ops.items c.in_ok-ops.ensures some

pub applying-preserved : goal.applying-preserved
applying-preserved g c =
    let a = c.args in
    let ops = c.in_ok-ops.ops in
    let some : 0 < length ops.items = grind (arith, nat_tests, c.if-is_empty.ensures, ops.ok) in
    let block : IsBlockOf (library_code a.place) (still_drawn c.applying.draws) (still_drawn c.read_block.new.draws) ops.items = rw c.library_code-library.ensures at c.in_ok-ops.ensures in
    let appended =
    subst (λ batch. c.apply_prepared.new.self.history ≡ c.applying.catalogue.history ++ record { pass = a.place; batch = batch } ∷ []) c.in_ok-prepared.ensures
    c.in_ok-apply_prepared.ensures.appended in
    record {
      names = c.in_ok-apply_prepared.ensures.names ∙ c.applying.invariant.names;
      loaded =
          loaded-more a.seed a.count a.place a.catalogue.now.history c.applying.catalogue.history c.apply_prepared.new.self.history _ _ ops.items c.of.result
          c.applying.invariant.loaded block some (rw c.library_code-library.ensures at c.of.ensures.library) c.of.ensures.ops appended;
    }

pub applying-smaller : goal.applying-smaller
applying-smaller g c =
    let ops = c.in_ok-ops.ops in
    let some : 0 < length ops.items = grind (arith, nat_tests, c.if-is_empty.ensures, ops.ok) in
    block-fewer c.library_code-library.result (still_drawn c.applying.draws) (still_drawn c.read_block.new.draws) ops.items c.in_ok-ops.ensures some
