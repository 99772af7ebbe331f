use Rattle.std.proofs.Common.{◌≡◌, ℕ, ◌<◌, ◌∷◌, None, Some, length, sym, ◌∙◌, ap}
use Rattle.std.specs.Prelude.{slice_set}
use Rattle.std.proofs.lemmas.List.Sorted.{IsPermutation-sym, Contains-permutation}
use Rattle.merge_laws.proofs.Places.{Contains-head, Contains-tail}
use Rattle.std.proofs.lemmas.List.{get_or_default}
use Rattle.swoosh_resolver.specs.Tables.{Entry, Has, IsPlaced, block_at, blocks_in}
use Rattle.swoosh_resolver.proofs.Opening.{within-from_some, posted-block, posted-closed}
use Rattle.swoosh_resolver.proofs.Places.{taken-from_set}
use Rattle.swoosh_resolver.proofs.Placing.{lost-keys, placed-stays}
use Rattle.swoosh_resolver.proofs.install.close.Goals as goal

pub unpost-requires-clause-rows : goal.unpost-requires-clause-rows
unpost-requires-clause-rows g c =
    let blocks = c.args.blocks.now.items in
    let within : c.args.number < length blocks = within-from_some blocks c.args.number c.requires.stands in
    let at : block_at blocks c.args.number ≡ Some c.in-Some.placed = get_or_default blocks c.args.number None c.index_mut.result.now within ∙ sym c.index_mut.ensures.value ∙ sym c.take.ensures.value ∙ c.in-Some.is in
    let left = blocks_in (slice_set blocks c.args.number None) in
    let is : c.as_slice.result.now ≡ c.in-Some.placed.keys = c.as_slice.ensures.value ∙ ap (λ (e : Entry g.row.R.Denot ℕ). e.keys) c.placed.view_is in
    let here : IsPlaced (Has g.R.Resolvable.is_posted c.in-Some.placed) c.args.postings.now c.in-Some.placed.keys =
    c.requires.placed c.in-Some.placed (Contains-permutation (c.in-Some.placed ∷ left) (blocks_in blocks) c.in-Some.placed
    (IsPermutation-sym (blocks_in blocks) (c.in-Some.placed ∷ left) (taken-from_set blocks c.args.number c.in-Some.placed at)) (Contains-head c.in-Some.placed left)) in
    rw is here.rows

pub unpost-requires-clause-once : goal.unpost-requires-clause-once
unpost-requires-clause-once g c =
    let blocks = c.args.blocks.now.items in
    let within : c.args.number < length blocks = within-from_some blocks c.args.number c.requires.stands in
    let at : block_at blocks c.args.number ≡ Some c.in-Some.placed = get_or_default blocks c.args.number None c.index_mut.result.now within ∙ sym c.index_mut.ensures.value ∙ sym c.take.ensures.value ∙ c.in-Some.is in
    let left = blocks_in (slice_set blocks c.args.number None) in
    let is : c.as_slice.result.now ≡ c.in-Some.placed.keys = c.as_slice.ensures.value ∙ ap (λ (e : Entry g.row.R.Denot ℕ). e.keys) c.placed.view_is in
    let here : IsPlaced (Has g.R.Resolvable.is_posted c.in-Some.placed) c.args.postings.now c.in-Some.placed.keys =
    c.requires.placed c.in-Some.placed (Contains-permutation (c.in-Some.placed ∷ left) (blocks_in blocks) c.in-Some.placed
    (IsPermutation-sym (blocks_in blocks) (c.in-Some.placed ∷ left) (taken-from_set blocks c.args.number c.in-Some.placed at)) (Contains-head c.in-Some.placed left)) in
    rw is here.keys.once

pub unpost-requires-clause-present : goal.unpost-requires-clause-present
unpost-requires-clause-present g c k among =
    let blocks = c.args.blocks.now.items in
    let within : c.args.number < length blocks = within-from_some blocks c.args.number c.requires.stands in
    let at : block_at blocks c.args.number ≡ Some c.in-Some.placed = get_or_default blocks c.args.number None c.index_mut.result.now within ∙ sym c.index_mut.ensures.value ∙ sym c.take.ensures.value ∙ c.in-Some.is in
    let left = blocks_in (slice_set blocks c.args.number None) in
    let is : c.as_slice.result.now ≡ c.in-Some.placed.keys = c.as_slice.ensures.value ∙ ap (λ (e : Entry g.row.R.Denot ℕ). e.keys) c.placed.view_is in
    let here : IsPlaced (Has g.R.Resolvable.is_posted c.in-Some.placed) c.args.postings.now c.in-Some.placed.keys =
    c.requires.placed c.in-Some.placed (Contains-permutation (c.in-Some.placed ∷ left) (blocks_in blocks) c.in-Some.placed
    (IsPermutation-sym (blocks_in blocks) (c.in-Some.placed ∷ left) (taken-from_set blocks c.args.number c.in-Some.placed at)) (Contains-head c.in-Some.placed left)) in
    posted-block blocks c.args.postings.now c.requires.posted c.args.postings.now c.args.number c.in-Some.placed at k ((here.keys.members k).0 (rw is at among))

pub returns-in-Some-clause-posted : goal.returns-in-Some-clause-posted
returns-in-Some-clause-posted g c =
    let blocks = c.args.blocks.now.items in
    let within : c.args.number < length blocks = within-from_some blocks c.args.number c.requires.stands in
    let at : block_at blocks c.args.number ≡ Some c.in-Some.placed = get_or_default blocks c.args.number None c.index_mut.result.now within ∙ sym c.index_mut.ensures.value ∙ sym c.take.ensures.value ∙ c.in-Some.is in
    let left = blocks_in (slice_set blocks c.args.number None) in
    let is : c.as_slice.result.now ≡ c.in-Some.placed.keys = c.as_slice.ensures.value ∙ ap (λ (e : Entry g.row.R.Denot ℕ). e.keys) c.placed.view_is in
    let here : IsPlaced (Has g.R.Resolvable.is_posted c.in-Some.placed) c.args.postings.now c.in-Some.placed.keys =
    c.requires.placed c.in-Some.placed (Contains-permutation (c.in-Some.placed ∷ left) (blocks_in blocks) c.in-Some.placed
    (IsPermutation-sym (blocks_in blocks) (c.in-Some.placed ∷ left) (taken-from_set blocks c.args.number c.in-Some.placed at)) (Contains-head c.in-Some.placed left)) in
    rw c.take.ensures.after
    (posted-closed blocks c.args.postings.now c.requires.posted c.unpost.new.postings c.args.number c.in-Some.placed at
    (lost-keys g.R.Key.PartialEq.eq c.args.postings.now c.unpost.new.postings c.in-Some.placed.keys c.args.number here (rw is at c.unpost.ensures.numbers)))

pub returns-in-Some-clause-placed : goal.returns-in-Some-clause-placed
returns-in-Some-clause-placed g c =
    let blocks = c.args.blocks.now.items in
    let within : c.args.number < length blocks = within-from_some blocks c.args.number c.requires.stands in
    let at : block_at blocks c.args.number ≡ Some c.in-Some.placed = get_or_default blocks c.args.number None c.index_mut.result.now within ∙ sym c.index_mut.ensures.value ∙ sym c.take.ensures.value ∙ c.in-Some.is in
    let left = blocks_in (slice_set blocks c.args.number None) in
    let is : c.as_slice.result.now ≡ c.in-Some.placed.keys = c.as_slice.ensures.value ∙ ap (λ (e : Entry g.row.R.Denot ℕ). e.keys) c.placed.view_is in
    let here : IsPlaced (Has g.R.Resolvable.is_posted c.in-Some.placed) c.args.postings.now c.in-Some.placed.keys =
    c.requires.placed c.in-Some.placed (Contains-permutation (c.in-Some.placed ∷ left) (blocks_in blocks) c.in-Some.placed
    (IsPermutation-sym (blocks_in blocks) (c.in-Some.placed ∷ left) (taken-from_set blocks c.args.number c.in-Some.placed at)) (Contains-head c.in-Some.placed left)) in
    rw c.take.ensures.after (λ e there. placed-stays c.args.postings.now c.unpost.new.postings c.unpost.ensures.rows e.keys (c.requires.placed e (
    Contains-permutation (c.in-Some.placed ∷ left) (blocks_in blocks) e
    (IsPermutation-sym (blocks_in blocks) (c.in-Some.placed ∷ left) (taken-from_set blocks c.args.number c.in-Some.placed at)) (Contains-tail c.in-Some.placed left e there))))
