use Rattle.std.proofs.Common.{◌≡◌, ℕ, ◌++◌, ◌∷◌, [], Some, map, length, ◌∙◌, ap, inl, inr, subst, arith}
use Rattle.std.proofs.lemmas.List.Elements.{Contains-push_cases}
use Rattle.feature_index.specs.Postings.{Posting}
use Rattle.swoosh_resolver.specs.Tables.{Entry, Listed, AreListed, HasOwn, IsOnBase, IsPlaced}
use Rattle.swoosh_resolver.proofs.Opening.{reposted, unposted-free}
use Rattle.swoosh_resolver.proofs.Listing.{listed-past, listed-pushed}
use Rattle.swoosh_resolver.proofs.Placing.{gained-keys, keys_at-stay, placed-stays}
use Rattle.swoosh_resolver.proofs.opened.Opened.with_last.Goals as goal

pub make_room_for-requires : goal.make_room_for-requires
make_room_for-requires g c =
    let is = c.as_slice.ensures.value ∙ ap (λ (e : Entry g.row.R.Denot ℕ). e.keys) c.last.view_is in
    rw is c.in_ok-last.ensures.placed.rows

pub post-requires-clause-rows : goal.post-requires-clause-rows
post-requires-clause-rows g c =
    let is = c.as_slice-2.ensures.value ∙ ap (λ (e : Entry g.row.R.Denot ℕ). e.keys) c.last.view_is in
    rw is (placed-stays c.with_places.new.postings c.make_room_for.new.postings c.make_room_for.ensures.rows c.in_ok-last.last.keys c.in_ok-last.ensures.placed).rows

pub post-requires-clause-once : goal.post-requires-clause-once
post-requires-clause-once g c =
    let is = c.as_slice-2.ensures.value ∙ ap (λ (e : Entry g.row.R.Denot ℕ). e.keys) c.last.view_is in
    rw is (placed-stays c.with_places.new.postings c.make_room_for.new.postings c.make_room_for.ensures.rows c.in_ok-last.last.keys c.in_ok-last.ensures.placed).keys.once

pub post-requires-clause-room : goal.post-requires-clause-room
post-requires-clause-room g c k =
    let is = c.as_slice.ensures.value ∙ ap (λ (e : Entry g.row.R.Denot ℕ). e.keys) c.last.view_is in
    let is' = c.as_slice-2.ensures.value ∙ ap (λ (e : Entry g.row.R.Denot ℕ). e.keys) c.last.view_is in
    let room = rw is at (c.in_ok-make_room_for.ensures.room k) in
    let stay = keys_at-stay c.with_places.new.postings c.make_room_for.new.postings c.make_room_for.ensures.rows c.in_ok-last.last.keys c.in_ok-last.ensures.placed.rows in
    rw (is', stay) (omega arith)

pub post-requires-clause-absent : goal.post-requires-clause-absent
post-requires-clause-absent g c k has =
    let xs = c.self.inside.values.items in
    let same : (k : g.row.R-Key.Denot) → _ ≡ _ = λ k. c.make_room_for.ensures.numbers k ∙ ap (λ (p : Posting). p.numbers) (c.with_places.ensures.postings k) in
    let listed : AreListed g.R.Key.PartialEq.eq (HasOwn g.R.Resolvable.is_posted) xs c.make_room_for.new.postings = reposted (map Some xs) c.self.inside.postings c.make_room_for.new.postings same c.self.invariant.listed in
    unposted-free (map Some xs) c.make_room_for.new.postings listed c.make_room_for.new.postings c.len.result (listed-past xs c.len.result (omega (arith, c.len.ensures))) k

pub invariant_of-result : goal.invariant_of-result
invariant_of-result g c =
    let xs = c.self.inside.values.items in
    let last = c.in_ok-last.last in
    let len : c.len.result ≡ length xs = omega (arith, c.len.ensures) in
    let is : c.as_slice-2.result.now ≡ last.keys = c.as_slice-2.ensures.value ∙ ap (λ (e : Entry g.row.R.Denot ℕ). e.keys) c.last.view_is in
    let same : (k : g.row.R-Key.Denot) → _ ≡ _ = λ k. c.make_room_for.ensures.numbers k ∙ ap (λ (p : Posting). p.numbers) (c.with_places.ensures.postings k) in
    let listed : AreListed g.R.Key.PartialEq.eq (HasOwn g.R.Resolvable.is_posted) xs c.make_room_for.new.postings = reposted (map Some xs) c.self.inside.postings c.make_room_for.new.postings same c.self.invariant.listed in
    let here : IsPlaced (HasOwn g.R.Resolvable.is_posted last) c.make_room_for.new.postings last.keys =
    placed-stays c.with_places.new.postings c.make_room_for.new.postings c.make_room_for.ensures.rows last.keys c.in_ok-last.ensures.placed in
    let roomy : (e : Entry g.row.R.Denot ℕ) → IsPlaced (HasOwn g.R.Resolvable.is_posted e) c.with_places.new.postings e.keys → IsPlaced (HasOwn g.R.Resolvable.is_posted e) c.post.new.postings e.keys =
    λ e placed. placed-stays c.make_room_for.new.postings c.post.new.postings c.post.ensures.rows e.keys (placed-stays c.with_places.new.postings c.make_room_for.new.postings c.make_room_for.ensures.rows e.keys placed) in
    rw c.in_ok-push.ensures.items (record {
      listed = listed-pushed xs last c.make_room_for.new.postings c.post.new.postings listed
          (gained-keys g.R.Key.PartialEq.eq c.make_room_for.new.postings c.post.new.postings last.keys (length xs) here (rw (is, len) at c.post.ensures.numbers));
      placed = λ e there. elim (Contains-push_cases xs last e there) as (λ _. IsPlaced (HasOwn g.R.Resolvable.is_posted e) c.post.new.postings e.keys) [
        | inl before ↦ roomy e (placed-stays c.self.inside.postings c.with_places.new.postings c.with_places.ensures.rows e.keys (c.self.invariant.placed e before))
        | inr same' ↦ subst (λ (f : Entry g.row.R.Denot ℕ). IsPlaced (HasOwn g.R.Resolvable.is_posted f) c.post.new.postings f.keys) same' (roomy last c.in_ok-last.ensures.placed)
      ];
      based = λ e there. elim (Contains-push_cases xs last e there) as (λ _. IsOnBase g.R.Resolvable.is_posted g.R.Join.join e.value e.base) [
        | inl before ↦ c.self.invariant.based e before
        | inr same' ↦ subst (λ (f : Entry g.row.R.Denot ℕ). IsOnBase g.R.Resolvable.is_posted g.R.Join.join f.value f.base) same' c.in_ok-last.ensures.based
      ];
    })

pub returns : goal.returns
returns g c = (
  c.in_ok-last.last,
  c.in_ok-push.ensures.items ∙ ap (λ (l : Listed g.row.R.Denot ℕ). l.items ++ c.in_ok-last.last ∷ []) c.self.view_is,
  c.in_ok-last.ensures.value,
  c.in_ok-last.ensures.base,
)
