use Rattle.std.proofs.Common.{◌≡◌, ℕ, false, ◌++◌}
use Rattle.std.specs.Prelude.{IfSome}
use Rattle.std.proofs.lemmas.List.Elements.{All-map, Contains-append_left, Contains-append_right}
use Rattle.std.proofs.lemmas.Option.{IfSome_then}
use Rattle.std.proofs.lemmas.Result.{IfOk-weaker}
use Rattle.swoosh_resolver.specs.Tables.{Entry}
use Rattle.swoosh_resolver.specs.Insertions.{MergesMatch}
use Rattle.swoosh_halves.proofs.Pairing.{All-both, among_before, merges_first, merges_second, paid_both, paid_first}
use Rattle.swoosh_resolver.proofs.Places.{IfNone_then, OnOk-from_either}
use Rattle.swoosh_halves.proofs.both.Both.merge_next.Goals as goal

pub merge_match-requires-clause-free : goal.merge_match-requires-clause-free
merge_match-requires-clause-free g c e there =
    let both = c.args.self.now in
    c.requires.free e (Contains-append_left both.met.items both.apart.items e there)

pub merge_match-requires-in-None-clause-free : goal.merge_match-requires-in-None-clause-free
merge_match-requires-in-None-clause-free g c e there =
    let both = c.args.self.now in
    c.requires.free e (Contains-append_right both.met.items both.apart.items e there)

pub returns-in-Some-clause-merged : goal.returns-in-Some-clause-merged
returns-in-Some-clause-merged g c =
    let both = c.args.self.now in
    merges_first both.met.items both.apart.items c.merge_match.new.self.items c.args.value.now.value c.in-Some.merged (rw c.in-Some.is at c.in_ok-merged.ensures.merged)

pub returns-in-None-clause-merged : goal.returns-in-None-clause-merged
returns-in-None-clause-merged g c =
    let both = c.args.self.now in
    let met = c.merge_match.new.self.items in
    let left = c.merge_match-in-None.new.self.items in
    let none = rw c.in-None.is at c.in_ok-merged.ensures.none in
    rw none.0
    (IfOk-weaker c.merge_match-in-None.result
    (λ o. IfSome o (λ merged. MergesMatch g.R.Resolvable.meets g.R.Join.join both.apart.items c.args.value.now.value left merged))
    (λ o. IfSome o (λ merged. MergesMatch g.R.Resolvable.meets g.R.Join.join (both.met.items ++ both.apart.items) c.args.value.now.value (both.met.items ++ left) merged))
    (λ o some. IfSome_then o some (λ merged m. merges_second both.met.items both.apart.items left c.args.value.now.value merged m))
    c.merge_match-in-None.ensures.merged)

pub returns-in-None-clause-apart : goal.returns-in-None-clause-apart
returns-in-None-clause-apart g c =
    let apart = c.args.self.now.apart.items in
    let left = c.merge_match-in-None.new.self.items in
    OnOk-from_either c.merge_match-in-None.result c.merge_match-in-None.ensures.merged c.merge_match-in-None.ensures.none
    (λ merged m. among_before apart left c.args.value.now.value merged m)
    (λ none x there. rw none.0 at there)

pub returns-in-None-clause-none : goal.returns-in-None-clause-none
returns-in-None-clause-none g c =
    let both = c.args.self.now in
    let none = rw c.in-None.is at c.in_ok-merged.ensures.none in
    IfOk-weaker c.merge_match-in-None.result _ _
    (λ o rest. IfNone_then o rest (λ other. (
      none.0,
      other.0,
      All-both (λ w. g.R.Resolvable.meets c.args.value.now.value w ≡ false) both.met.items both.apart.items
          (All-map (λ w. g.R.Resolvable.meets c.args.value.now.value w ≡ false) (λ (e : Entry g.row.R.Denot ℕ). e.value) both.met.items none.1)
          (All-map (λ w. g.R.Resolvable.meets c.args.value.now.value w ≡ false) (λ (e : Entry g.row.R.Denot ℕ). e.value) both.apart.items other.1),
    )))
    c.merge_match-in-None.ensures.none

-- each way out has made no more tests than values of both rows are found for the value
pub returns-in_err-merged-clause-cost : goal.returns-in_err-merged-clause-cost
returns-in_err-merged-clause-cost g c =
    let both = c.args.self.now in
    paid_first g.R.Resolvable.is_found both.met.items both.apart.items c.args.value.now.value c.args.steps.now c.merge_match.new.steps c.merge_match.ensures.cost

pub returns-in-Some-clause-cost : goal.returns-in-Some-clause-cost
returns-in-Some-clause-cost g c =
    let both = c.args.self.now in
    paid_first g.R.Resolvable.is_found both.met.items both.apart.items c.args.value.now.value c.args.steps.now c.merge_match.new.steps c.merge_match.ensures.cost

pub returns-in-None-clause-cost : goal.returns-in-None-clause-cost
returns-in-None-clause-cost g c =
    let both = c.args.self.now in
    paid_both g.R.Resolvable.is_found both.met.items both.apart.items c.args.value.now.value c.args.steps.now c.merge_match.new.steps c.merge_match-in-None.new.steps
    c.merge_match.ensures.cost c.merge_match-in-None.ensures.cost
