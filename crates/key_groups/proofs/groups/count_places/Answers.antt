use Rattle.std.proofs.Common.{◌<◌, ◌≤◌, ◌+◌, ℕ, length, get_or, replicate, sym, ◌∙◌, ap, subst, inl, inr, arith}
use Rattle.std.proofs.lemmas.Bool.{cases_lt}
use Rattle.std.proofs.lemmas.List.{length-set, length-replicate, get_or-replicate, get_or_past}
use Rattle.key_groups.proofs.Grouping.{counted_more, sizes_bound}
use Rattle.key_groups.proofs.groups.count_places.Goals as goal

pub loop-label-init : goal.loop-label-init
loop-label-init c =
    let n = length c.args.labels.now in
    record {
      size = ap length c.requires.none ∙ length-replicate {A = ℕ} n 0;
      bound = λ k. subst (λ xs. get_or xs k 0 ≤ 0) (sym c.requires.none) (elim (cases_lt k n) [
        | inl within ↦ (let none = get_or-replicate {A = ℕ} n k 0 0 within in omega (arith, none))
        | inr past ↦ (let size = length-replicate {A = ℕ} n 0 in let none = get_or_past {X = ℕ} (replicate n 0) k 0 (omega (arith, past, size)) in omega (arith, none))
      ]);
      counted = record { one = λ i il. absurd (omega arith); two = λ i j ij jl same. absurd (omega arith) };
    }

pub bounds-sizes-label : goal.bounds-sizes-label
bounds-sizes-label c =
    let earlier = c.requires.links c.loop-label.label-index c.loop-label-test.true in
    let size = c.loop-label.invariant.size in
    omega (arith, earlier, size, c.loop-label-test.true)

pub loop-label-preserved : goal.loop-label-preserved
loop-label-preserved c =
    let so = c.loop-label.invariant in
    let labels = c.args.labels.now in
    let sizes = c.loop-label.sizes in
    let n = c.loop-label.label-index in
    let label = get_or labels n 0 in
    let earlier = c.requires.links n c.loop-label-test.true in
    let size = so.size in
    let within : label < length sizes = omega (arith, earlier, size, c.loop-label-test.true) in
    record {
      size = length-set sizes label (get_or sizes label 0 + 1) ∙ size;
      bound = sizes_bound sizes label n within so.bound;
      counted = counted_more sizes labels n within so.counted;
    }

pub returns : goal.returns
returns c = λ i j ij jl same. c.loop-label.invariant.counted.two i j ij (omega (arith, jl, c.loop-label-test.false)) same
