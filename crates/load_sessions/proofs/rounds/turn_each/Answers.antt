use Rattle.std.proofs.Common.{◌≡◌, [], ◌∷◌, ◌++◌, length, refl, sym, ap, subst, ◌∙◌, arith, append_assoc, append-nil, length-append}
use Rattle.std.proofs.lemmas.List.{nil_from_length}
use Rattle.std.proofs.lemmas.Result.{err_from_is_err_and}
use Rattle.catalogue_lock.specs.Tokens.{view}
use Rattle.library_batches.specs.Outcomes.{AreCounted}
use Rattle.library_batches.specs.Tallies.{found}
use Rattle.load_sessions.proofs.TurnLaws.{TurnsEach-first}
use Rattle.load_sessions.proofs.rounds.turn_each.Goals as goal

pub loop-batch-init : goal.loop-batch-init
loop-batch-init g c = record {
  all = sym c.into_iter-batch-iterator.ensures.into_iter_gives.0;
  desk = c.requires.desk;
  same = (refl, refl);
  own = sym (append-nil (view c.args.pass.now).own);
  brought = c.requires.counts;
  few = omega arith;
  place = omega arith;
}

pub count-requires : goal.count-requires
count-requires g c =
    let so = c.loop-batch.invariant in
    let front = c.loop-batch.yielded in
    let rest = c.next.new.self.rest.items in
    let whole : c.args.batches.items ≡ front ++ c.in-Some.batch ∷ rest = so.all ∙ ap (λ bs. front ++ bs) c.in-Some.ensures.steps.0 in
    omega (
      arith,
      so.few,
      c.requires.few,
      c.in_ok-outcomes.ensures.few,
      ap length c.as_slice.ensures.value,
      ap length whole,
      length-append front (c.in-Some.batch ∷ rest),
    )

pub overflow_add-turn : goal.overflow_add-turn
overflow_add-turn g c =
    let so = c.loop-batch.invariant in
    let front = c.loop-batch.yielded in
    let rest = c.next.new.self.rest.items in
    let whole : c.args.batches.items ≡ front ++ c.in-Some.batch ∷ rest = so.all ∙ ap (λ bs. front ++ bs) c.in-Some.ensures.steps.0 in
    omega (arith, so.place, c.requires.turns, ap length whole, length-append front (c.in-Some.batch ∷ rest))

pub loop-batch-preserved : goal.loop-batch-preserved
loop-batch-preserved g c =
    let so = c.loop-batch.invariant in
    let front = c.loop-batch.yielded in
    let batch = c.in-Some.batch in
    let pass = view c.loop-batch.pass in
    let turn = c.in_ok-outcomes.ensures in
    let more = length-append front (batch ∷ []) in
    record {
      all = so.all ∙ ap (λ bs. front ++ bs) c.in-Some.ensures.steps.0 ∙ sym (append_assoc front (batch ∷ []) c.next.new.self.rest.items);
      desk = turn.desk;
      same = (turn.same.0 ∙ so.same.0, turn.same.1 ∙ so.same.1);
      own = turn.own ∙ ap (λ change. pass.own ++ change ∷ []) c.plain.ensures ∙ ap (λ bs. bs ++ batch ∷ []) so.own
          ∙ append_assoc (view c.args.pass.now).own front (batch ∷ []);
      brought = subst (λ outcomes. AreCounted outcomes c.count.new.self) (ap (λ outcomes. found pass.seen pass.number ++ outcomes) c.as_slice.ensures.value ∙ sym turn.found)
          (c.count.ensures.more (found pass.seen pass.number) so.brought);
      few = omega (arith, so.few, c.count.ensures.total, ap length c.as_slice.ensures.value, turn.few, more);
      place = omega (arith, so.place, more);
    }

pub returns-in_err-outcomes-clause-turned : goal.returns-in_err-outcomes-clause-turned
returns-in_err-outcomes-clause-turned g c =
    let so = c.loop-batch.invariant in
    let front = c.loop-batch.yielded in
    let rest = c.in-Some.batch ∷ c.next.new.self.rest.items in
    let p = err_from_is_err_and c.from_residual.result c.from_residual.ensures.1 in
    TurnsEach-first (view c.args.pass.now).own c.args.batches.items (view c.turn_due.new.pass).own front rest c.from_residual.result _ p.1
    (so.all ∙ ap (λ bs. front ++ bs) c.in-Some.ensures.steps.0) (c.in_err-outcomes.ensures.memory ∙ so.own)

pub returns-clause-turned : goal.returns-clause-turned
returns-clause-turned g c =
    let so = c.loop-batch.invariant in
    let none : c.loop-batch.batch-iterator.rest.items ≡ [] = nil_from_length _ (sym c.loop-batch.batch-iterator.rest.ok.0 ∙ c.in-None.ensures.steps.0) in
    let all : c.args.batches.items ≡ c.loop-batch.yielded = so.all ∙ ap (λ bs. c.loop-batch.yielded ++ bs) none ∙ append-nil c.loop-batch.yielded in
    so.own ∙ ap (λ bs. (view c.args.pass.now).own ++ bs) (sym all)

pub returns-clause-few : goal.returns-clause-few
returns-clause-few g c =
    let so = c.loop-batch.invariant in
    let none : c.loop-batch.batch-iterator.rest.items ≡ [] = nil_from_length _ (sym c.loop-batch.batch-iterator.rest.ok.0 ∙ c.in-None.ensures.steps.0) in
    let all : c.args.batches.items ≡ c.loop-batch.yielded = so.all ∙ ap (λ bs. c.loop-batch.yielded ++ bs) none ∙ append-nil c.loop-batch.yielded in
    omega (arith, so.few, ap length all)
