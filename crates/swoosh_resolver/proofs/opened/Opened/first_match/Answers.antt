use Rattle.std.proofs.Common.{◌≡◌, ℕ, ◌+◌, Some, true, [], sym, ◌∙◌, ap, subst, inl, inr, arith}
use Rattle.std.specs.Prelude.{Contains, map}
use Rattle.swoosh_resolver.specs.Tables.{AreSought, Entry, block_at}
use Rattle.swoosh_resolver.specs.Looks.{IsFound, IsLook}
use Rattle.swoosh_resolver.proofs.Looking.{paid-next, paid-all, none-next, none-matches}
use Rattle.swoosh_resolver.proofs.Listing.{blocks-listed, passing-listed, there-from_listed}
use Rattle.swoosh_resolver.proofs.opened.Opened.first_match.Goals as goal

pub returns-then-matches_at-clause-cost : goal.returns-then-matches_at-clause-cost
returns-then-matches_at-clause-cost g c =
    let items = c.args.self.now.items in
    let value = c.args.value.now.value in
    let keys = c.args.value.now.keys in
    let numbers = c.args.numbers.now in
    let places = c.deref-place-items.result.now in
    let seeks : AreSought g.R.Resolvable.meets g.R.Resolvable.is_posted g.R.Resolvable.seeks c.args.value.now.value c.args.value.now.base c.args.value.now.keys =
    subst (λ (e : Entry g.row.R.Denot g.row.R-Key.Denot). AreSought g.R.Resolvable.meets g.R.Resolvable.is_posted g.R.Resolvable.seeks e.value e.base e.keys) c.value.view_is c.value.invariant.0 in
    let sought : c.as_slice.result.now ≡ keys = c.as_slice.ensures.value ∙ ap (λ (e : Entry g.row.R.Denot g.row.R-Key.Denot). e.keys) c.value.view_is in
    let sound : (k : g.row.R-Key.Denot) → Contains keys k → g.R.Resolvable.seeks value k = seeks.sound in
    let look : IsLook (IsFound g.R.Resolvable.is_posted keys numbers) (map Some items) places =
    rw (c.deref-place-items.ensures.value, ← sought) c.in_ok-places.ensures.look in
    let found : (e : Entry g.row.R.Denot ℕ) (n : ℕ) → block_at (map Some items) n ≡ Some e → IsFound g.R.Resolvable.is_posted keys numbers e → g.R.Resolvable.is_found e.value value ≡ true =
    λ e n at seen. elim seen as (λ _. g.R.Resolvable.is_found e.value value ≡ true) [
      | inl (k, ck, own) ↦ (g.met.R.Resolvable.finding_laws.found e.value value).1 (k, (sound k ck), own.0)
      | inr (b, is, stands) ↦
          (let there = there-from_listed items n e at in
          let (k, ck, had) = c.requires.led e b there is stands in
          let based = c.in_ok-places.ensures.based e there in
          (g.met.R.Resolvable.finding_laws.found e.value value).1 (k, (sound k ck), ((rw is at based.keeps) k had)))
    ] in
    let near = λ (e : Entry g.row.R.Denot ℕ). g.R.Resolvable.is_found e.value value in
    let i = c.loop-place.place-index in
    rw blocks-listed at (paid-all (map Some items) [] places look near found c.args.steps.now c.matches_at.new.steps (i + 1)
    (paid-next (map Some items) [] places look near found c.args.steps.now c.loop-place.steps c.matches_at.new.steps i (omega arith) c.loop-place.invariant.cost c.matches_at.ensures.cost))

pub loop-place-preserved : goal.loop-place-preserved
loop-place-preserved g c =
    let items = c.args.self.now.items in
    let value = c.args.value.now.value in
    let keys = c.args.value.now.keys in
    let numbers = c.args.numbers.now in
    let places = c.deref-place-items.result.now in
    let seeks : AreSought g.R.Resolvable.meets g.R.Resolvable.is_posted g.R.Resolvable.seeks c.args.value.now.value c.args.value.now.base c.args.value.now.keys =
    subst (λ (e : Entry g.row.R.Denot g.row.R-Key.Denot). AreSought g.R.Resolvable.meets g.R.Resolvable.is_posted g.R.Resolvable.seeks e.value e.base e.keys) c.value.view_is c.value.invariant.0 in
    let sought : c.as_slice.result.now ≡ keys = c.as_slice.ensures.value ∙ ap (λ (e : Entry g.row.R.Denot g.row.R-Key.Denot). e.keys) c.value.view_is in
    let sound : (k : g.row.R-Key.Denot) → Contains keys k → g.R.Resolvable.seeks value k = seeks.sound in
    let look : IsLook (IsFound g.R.Resolvable.is_posted keys numbers) (map Some items) places =
    rw (c.deref-place-items.ensures.value, ← sought) c.in_ok-places.ensures.look in
    let found : (e : Entry g.row.R.Denot ℕ) (n : ℕ) → block_at (map Some items) n ≡ Some e → IsFound g.R.Resolvable.is_posted keys numbers e → g.R.Resolvable.is_found e.value value ≡ true =
    λ e n at seen. elim seen as (λ _. g.R.Resolvable.is_found e.value value ≡ true) [
      | inl (k, ck, own) ↦ (g.met.R.Resolvable.finding_laws.found e.value value).1 (k, (sound k ck), own.0)
      | inr (b, is, stands) ↦
          (let there = there-from_listed items n e at in
          let (k, ck, had) = c.requires.led e b there is stands in
          let based = c.in_ok-places.ensures.based e there in
          (g.met.R.Resolvable.finding_laws.found e.value value).1 (k, (sound k ck), ((rw is at based.keeps) k had)))
    ] in
    let near = λ (e : Entry g.row.R.Denot ℕ). g.R.Resolvable.is_found e.value value in
    let i = c.loop-place.place-index in
    record {
      none = none-next (map Some items) [] places look (λ (e : Entry g.row.R.Denot ℕ). g.R.Resolvable.meets value e.value) i (omega arith) c.loop-place.invariant.none (sym c.matches_at.ensures.answer ∙ c.if-matches_at.false);
      cost = paid-next (map Some items) [] places look near found c.args.steps.now c.loop-place.steps c.matches_at.new.steps i (omega arith) c.loop-place.invariant.cost c.matches_at.ensures.cost;
    }

pub returns-clause-none : goal.returns-clause-none
returns-clause-none g c =
    let items = c.args.self.now.items in
    let value = c.args.value.now.value in
    let keys = c.args.value.now.keys in
    let numbers = c.args.numbers.now in
    let places = c.deref-place-items.result.now in
    let seeks : AreSought g.R.Resolvable.meets g.R.Resolvable.is_posted g.R.Resolvable.seeks c.args.value.now.value c.args.value.now.base c.args.value.now.keys =
    subst (λ (e : Entry g.row.R.Denot g.row.R-Key.Denot). AreSought g.R.Resolvable.meets g.R.Resolvable.is_posted g.R.Resolvable.seeks e.value e.base e.keys) c.value.view_is c.value.invariant.0 in
    let sought : c.as_slice.result.now ≡ keys = c.as_slice.ensures.value ∙ ap (λ (e : Entry g.row.R.Denot g.row.R-Key.Denot). e.keys) c.value.view_is in
    let sound : (k : g.row.R-Key.Denot) → Contains keys k → g.R.Resolvable.seeks value k = seeks.sound in
    let look : IsLook (IsFound g.R.Resolvable.is_posted keys numbers) (map Some items) places =
    rw (c.deref-place-items.ensures.value, ← sought) c.in_ok-places.ensures.look in
    let found : (e : Entry g.row.R.Denot ℕ) (n : ℕ) → block_at (map Some items) n ≡ Some e → IsFound g.R.Resolvable.is_posted keys numbers e → g.R.Resolvable.is_found e.value value ≡ true =
    λ e n at seen. elim seen as (λ _. g.R.Resolvable.is_found e.value value ≡ true) [
      | inl (k, ck, own) ↦ (g.met.R.Resolvable.finding_laws.found e.value value).1 (k, (sound k ck), own.0)
      | inr (b, is, stands) ↦
          (let there = there-from_listed items n e at in
          let (k, ck, had) = c.requires.led e b there is stands in
          let based = c.in_ok-places.ensures.based e there in
          (g.met.R.Resolvable.finding_laws.found e.value value).1 (k, (sound k ck), ((rw is at based.keeps) k had)))
    ] in
    let near = λ (e : Entry g.row.R.Denot ℕ). g.R.Resolvable.is_found e.value value in
    let i = c.loop-place.place-index in
    rw blocks-listed at (none-matches (map Some items) [] places look (λ (e : Entry g.row.R.Denot ℕ). g.R.Resolvable.meets value e.value) i (omega arith) c.loop-place.invariant.none)

pub returns-clause-cost : goal.returns-clause-cost
returns-clause-cost g c =
    let items = c.args.self.now.items in
    let value = c.args.value.now.value in
    let keys = c.args.value.now.keys in
    let numbers = c.args.numbers.now in
    let places = c.deref-place-items.result.now in
    let seeks : AreSought g.R.Resolvable.meets g.R.Resolvable.is_posted g.R.Resolvable.seeks c.args.value.now.value c.args.value.now.base c.args.value.now.keys =
    subst (λ (e : Entry g.row.R.Denot g.row.R-Key.Denot). AreSought g.R.Resolvable.meets g.R.Resolvable.is_posted g.R.Resolvable.seeks e.value e.base e.keys) c.value.view_is c.value.invariant.0 in
    let sought : c.as_slice.result.now ≡ keys = c.as_slice.ensures.value ∙ ap (λ (e : Entry g.row.R.Denot g.row.R-Key.Denot). e.keys) c.value.view_is in
    let sound : (k : g.row.R-Key.Denot) → Contains keys k → g.R.Resolvable.seeks value k = seeks.sound in
    let look : IsLook (IsFound g.R.Resolvable.is_posted keys numbers) (map Some items) places =
    rw (c.deref-place-items.ensures.value, ← sought) c.in_ok-places.ensures.look in
    let found : (e : Entry g.row.R.Denot ℕ) (n : ℕ) → block_at (map Some items) n ≡ Some e → IsFound g.R.Resolvable.is_posted keys numbers e → g.R.Resolvable.is_found e.value value ≡ true =
    λ e n at seen. elim seen as (λ _. g.R.Resolvable.is_found e.value value ≡ true) [
      | inl (k, ck, own) ↦ (g.met.R.Resolvable.finding_laws.found e.value value).1 (k, (sound k ck), own.0)
      | inr (b, is, stands) ↦
          (let there = there-from_listed items n e at in
          let (k, ck, had) = c.requires.led e b there is stands in
          let based = c.in_ok-places.ensures.based e there in
          (g.met.R.Resolvable.finding_laws.found e.value value).1 (k, (sound k ck), ((rw is at based.keeps) k had)))
    ] in
    let near = λ (e : Entry g.row.R.Denot ℕ). g.R.Resolvable.is_found e.value value in
    let i = c.loop-place.place-index in
    rw blocks-listed at (paid-all (map Some items) [] places look near found c.args.steps.now c.loop-place.steps i c.loop-place.invariant.cost)

pub returns-then-matches_at-clause-within : goal.returns-then-matches_at-clause-within
returns-then-matches_at-clause-within g c =
    (passing-listed (λ (e : Entry g.row.R.Denot ℕ). g.R.Resolvable.meets c.args.value.now.value e.value) c.args.self.now.items _ (sym c.matches_at.ensures.answer ∙ c.if-matches_at.true)).0

pub returns-then-matches_at-clause-found : goal.returns-then-matches_at-clause-found
returns-then-matches_at-clause-found g c d =
    (passing-listed (λ (e : Entry g.row.R.Denot ℕ). g.R.Resolvable.meets c.args.value.now.value e.value) c.args.self.now.items _ (sym c.matches_at.ensures.answer ∙ c.if-matches_at.true)).1 d
