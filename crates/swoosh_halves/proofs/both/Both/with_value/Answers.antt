use Rattle.std.proofs.Common.{◌≡◌, ℕ, false, [], ◌∷◌, ◌++◌, ◌∙◌}
use Rattle.std.specs.Prelude.{Contains}
use Rattle.std.proofs.lemmas.List.{map-append}
use Rattle.std.proofs.lemmas.List.Elements.{All-map, Contains-append_left}
use Rattle.std.proofs.lemmas.Result.{IfOk-weaker}
use Rattle.merge_laws.specs.Resolution.{IsResolution}
use Rattle.merge_laws.proofs.InsertingAll.{looked-within}
use Rattle.swoosh_resolver.specs.Tables.{Entry, values_of}
use Rattle.swoosh_resolver.specs.Insertions.{MergesMatch}
use Rattle.swoosh_halves.proofs.Pairing.{All-both, apart_before, base-none, free_before, free_second, last_of_second, merged_within, merges_first, never_merges, paid_first, resolved_kept, resolved_merged}
use Rattle.swoosh_halves.proofs.both.Both.with_value.Goals as goal

pub with_merge-requires-clause-apart : goal.with_merge-requires-clause-apart
with_merge-requires-clause-apart g c =
    let both = c.args.self in
    let left = c.merge_match.new.self.items in
    let m = rw c.in-Some.is at c.in_ok-merged.ensures.merged in
    apart_before (both.met.items ++ both.apart.items) (left ++ both.apart.items) c.in_ok-seeker.seeker.value c.in-Some.merged
    (merges_first both.met.items both.apart.items left c.in_ok-seeker.seeker.value c.in-Some.merged m) c.requires.apart

pub with_merge-requires-clause-free : goal.with_merge-requires-clause-free
with_merge-requires-clause-free g c =
    let both = c.args.self in
    let left = c.merge_match.new.self.items in
    let m = rw c.in-Some.is at c.in_ok-merged.ensures.merged in
    free_before (both.met.items ++ both.apart.items) (left ++ both.apart.items) c.in_ok-seeker.seeker.value c.in-Some.merged
    (merges_first both.met.items both.apart.items left c.in_ok-seeker.seeker.value c.in-Some.merged m) c.requires.free

pub merge_match-requires-clause-free : goal.merge_match-requires-clause-free
merge_match-requires-clause-free g c e there =
    let both = c.args.self in
    c.requires.free e (Contains-append_left both.met.items both.apart.items e there)

pub returns-in_ok-apart-in-None-clause-free : goal.returns-in_ok-apart-in-None-clause-free
returns-in_ok-apart-in-None-clause-free g c =
    let both = c.args.self in
    let (last, items, value, base) = c.in_ok-apart-in-None.ensures in
    let none = rw c.in-None.is at c.in_ok-merged.ensures.none in
    rw (items, none.0) (free_second both.met.items both.apart.items last c.requires.free (base ∙ base-none c.in_ok-keyed-in-None.ensures.base c.in_ok-seeker.ensures.base))

pub returns-in-Some-clause-resolved : goal.returns-in-Some-clause-resolved
returns-in-Some-clause-resolved g c =
    let both = c.args.self in
    let left = c.merge_match.new.self.items in
    let merged = c.in-Some.merged in
    let m : MergesMatch g.R.Resolvable.meets g.R.Join.join both.met.items c.args.value left merged = rw c.in_ok-seeker.ensures.value at (rw c.in-Some.is at c.in_ok-merged.ensures.merged) in
    IfOk-weaker c.with_merge.result
    (λ new. IsResolution g.R.Resolvable.meets g.R.Join.join (values_of (left ++ both.apart.items) ++ merged ∷ []) (values_of (new.met.items ++ new.apart.items)))
    (λ new. IsResolution g.R.Resolvable.meets g.R.Join.join (values_of (both.met.items ++ both.apart.items) ++ c.args.value ∷ []) (values_of (new.met.items ++ new.apart.items)))
    (λ new. resolved_merged g.met.R.Join.join_laws g.met.R.Resolvable.match_laws (both.met.items ++ both.apart.items) (left ++ both.apart.items) c.args.value merged (values_of (new.met.items ++ new.apart.items)) c.requires.apart
    (merges_first both.met.items both.apart.items left c.args.value merged m))
    c.with_merge.ensures.resolved

pub returns-in-Some-clause-apart : goal.returns-in-Some-clause-apart
returns-in-Some-clause-apart g c =
    let apart = c.args.self.apart.items in
    IfOk-weaker c.with_merge.result
    (λ new. (x : g.row.R.Denot) → Contains (values_of new.apart.items) x → Contains (values_of apart) x)
    (λ new. (x : g.row.R.Denot) → Contains (values_of new.apart.items) x → Contains (values_of apart ++ c.args.value ∷ []) x)
    (λ new among x there. Contains-append_left (values_of apart) (c.args.value ∷ []) x (among x there))
    c.with_merge.ensures.apart

-- where the value matches none, it is merged with none
pub returns-in-Some-clause-met : goal.returns-in-Some-clause-met
returns-in-Some-clause-met g c =
    let both = c.args.self in
    let left = c.merge_match.new.self.items in
    let m : MergesMatch g.R.Resolvable.meets g.R.Join.join both.met.items c.args.value left c.in-Some.merged = rw c.in_ok-seeker.ensures.value at (rw c.in-Some.is at c.in_ok-merged.ensures.merged) in
    IfOk-weaker c.with_merge.result _ _ (λ new among none. absurd (never_merges both.met.items left c.args.value c.in-Some.merged m none)) c.with_merge.ensures.apart

pub returns-in-Some-clause-untested : goal.returns-in-Some-clause-untested
returns-in-Some-clause-untested g c none =
    let both = c.args.self in
    let left = c.merge_match.new.self.items in
    let m : MergesMatch g.R.Resolvable.meets g.R.Join.join both.met.items c.args.value left c.in-Some.merged = rw c.in_ok-seeker.ensures.value at (rw c.in-Some.is at c.in_ok-merged.ensures.merged) in
    absurd (never_merges both.met.items left c.args.value c.in-Some.merged m none)

-- the value matches none, and is put among the second
pub returns-in_ok-apart-in-None-clause-resolved : goal.returns-in_ok-apart-in-None-clause-resolved
returns-in_ok-apart-in-None-clause-resolved g c =
    let both = c.args.self in
    let row = values_of (both.met.items ++ both.apart.items) in
    let (last, items, value, base) = c.in_ok-apart-in-None.ensures in
    let is : last.value ≡ c.args.value = value ∙ c.in_ok-keyed-in-None.ensures.value ∙ c.in_ok-seeker.ensures.value in
    let none = rw c.in_ok-seeker.ensures.value at (rw c.in-None.is at c.in_ok-merged.ensures.none) in
    rw (items, none.0, last_of_second both.met.items both.apart.items last, is)
    (resolved_kept g.met.R.Join.join_laws g.met.R.Resolvable.match_laws row c.args.value c.requires.apart
    (All-both (λ w. g.R.Resolvable.meets c.args.value w ≡ false) both.met.items both.apart.items
    (All-map (λ w. g.R.Resolvable.meets c.args.value w ≡ false) (λ (e : Entry g.row.R.Denot ℕ). e.value) both.met.items none.1) c.requires.unmatched))

pub returns-in_ok-apart-in-None-clause-apart : goal.returns-in_ok-apart-in-None-clause-apart
returns-in_ok-apart-in-None-clause-apart g c x there =
    let apart = c.args.self.apart.items in
    let (last, items, value, base) = c.in_ok-apart-in-None.ensures in
    let is : last.value ≡ c.args.value = value ∙ c.in_ok-keyed-in-None.ensures.value ∙ c.in_ok-seeker.ensures.value in
    rw (items, map-append (λ (e : Entry g.row.R.Denot ℕ). e.value) apart (last ∷ []), is) at there

-- where the value matches none, each way out has made no more tests than values of the first row are found for it
pub returns-in_err-merged-clause-untested : goal.returns-in_err-merged-clause-untested
returns-in_err-merged-clause-untested g c none = rw c.in_ok-seeker.ensures.value at c.merge_match.ensures.cost

pub returns-in_err-keyed-in-None-clause-untested : goal.returns-in_err-keyed-in-None-clause-untested
returns-in_err-keyed-in-None-clause-untested g c none = rw c.in_ok-seeker.ensures.value at c.merge_match.ensures.cost

pub returns-in_err-apart-in-None-clause-untested : goal.returns-in_err-apart-in-None-clause-untested
returns-in_err-apart-in-None-clause-untested g c none = rw c.in_ok-seeker.ensures.value at c.merge_match.ensures.cost

pub returns-in_ok-apart-in-None-clause-untested : goal.returns-in_ok-apart-in-None-clause-untested
returns-in_ok-apart-in-None-clause-untested g c none = rw c.in_ok-seeker.ensures.value at c.merge_match.ensures.cost

-- in any case, no more than the reach of its insertion
pub returns-in_err-merged-clause-cost : goal.returns-in_err-merged-clause-cost
returns-in_err-merged-clause-cost g c all x r cx d =
    let both = c.args.self in
    looked-within g.met.R.Join.join_laws g.met.R.Resolvable.match_laws g.met.R.Resolvable.finding_laws.grows (values_of (both.met.items ++ both.apart.items)) c.args.value c.args.steps.now c.merge_match.new.steps c.requires.apart
    (paid_first g.R.Resolvable.is_found both.met.items both.apart.items c.args.value c.args.steps.now c.merge_match.new.steps (rw c.in_ok-seeker.ensures.value at c.merge_match.ensures.cost)) all x r cx d

pub returns-in_err-keyed-in-None-clause-cost : goal.returns-in_err-keyed-in-None-clause-cost
returns-in_err-keyed-in-None-clause-cost g c all x r cx d =
    let both = c.args.self in
    looked-within g.met.R.Join.join_laws g.met.R.Resolvable.match_laws g.met.R.Resolvable.finding_laws.grows (values_of (both.met.items ++ both.apart.items)) c.args.value c.args.steps.now c.merge_match.new.steps c.requires.apart
    (paid_first g.R.Resolvable.is_found both.met.items both.apart.items c.args.value c.args.steps.now c.merge_match.new.steps (rw c.in_ok-seeker.ensures.value at c.merge_match.ensures.cost)) all x r cx d

pub returns-in_err-apart-in-None-clause-cost : goal.returns-in_err-apart-in-None-clause-cost
returns-in_err-apart-in-None-clause-cost g c all x r cx d =
    let both = c.args.self in
    looked-within g.met.R.Join.join_laws g.met.R.Resolvable.match_laws g.met.R.Resolvable.finding_laws.grows (values_of (both.met.items ++ both.apart.items)) c.args.value c.args.steps.now c.merge_match.new.steps c.requires.apart
    (paid_first g.R.Resolvable.is_found both.met.items both.apart.items c.args.value c.args.steps.now c.merge_match.new.steps (rw c.in_ok-seeker.ensures.value at c.merge_match.ensures.cost)) all x r cx d

pub returns-in_ok-apart-in-None-clause-cost : goal.returns-in_ok-apart-in-None-clause-cost
returns-in_ok-apart-in-None-clause-cost g c all x r cx d =
    let both = c.args.self in
    looked-within g.met.R.Join.join_laws g.met.R.Resolvable.match_laws g.met.R.Resolvable.finding_laws.grows (values_of (both.met.items ++ both.apart.items)) c.args.value c.args.steps.now c.merge_match.new.steps c.requires.apart
    (paid_first g.R.Resolvable.is_found both.met.items both.apart.items c.args.value c.args.steps.now c.merge_match.new.steps (rw c.in_ok-seeker.ensures.value at c.merge_match.ensures.cost)) all x r cx d

pub returns-in-Some-clause-cost : goal.returns-in-Some-clause-cost
returns-in-Some-clause-cost g c all x r cx d =
    let both = c.args.self in
    let left = c.merge_match.new.self.items in
    let merged = c.in-Some.merged in
    let m : MergesMatch g.R.Resolvable.meets g.R.Join.join both.met.items c.args.value left merged = rw c.in_ok-seeker.ensures.value at (rw c.in-Some.is at c.in_ok-merged.ensures.merged) in
    merged_within g.met.R.Join.join_laws g.met.R.Resolvable.match_laws g.met.R.Resolvable.finding_laws.grows (both.met.items ++ both.apart.items) (left ++ both.apart.items) c.args.value merged
    c.args.steps.now c.merge_match.new.steps c.with_merge.new.steps c.requires.apart (merges_first both.met.items both.apart.items left c.args.value merged m)
    (paid_first g.R.Resolvable.is_found both.met.items both.apart.items c.args.value c.args.steps.now c.merge_match.new.steps (rw c.in_ok-seeker.ensures.value at c.merge_match.ensures.cost))
    c.with_merge.ensures.cost all x r cx d
