use Rattle.std.proofs.Common.{◌≡◌, ℕ, ◌∙◌, ap}
use Rattle.swoosh_resolver.specs.Tables.{Entry, HasOwn, IsPlaced}
use Rattle.swoosh_resolver.proofs.Placing.{lost-keys}
use Rattle.swoosh_resolver.proofs.opened.unpost_fresh.Goals as goal

pub unpost-requires-clause-rows : goal.unpost-requires-clause-rows
unpost-requires-clause-rows g c =
    let is : c.as_slice.result.now ≡ c.args.fresh.now.keys = c.as_slice.ensures.value ∙ ap (λ (e : Entry g.row.R.Denot ℕ). e.keys) c.fresh.view_is in
    let placed : IsPlaced (HasOwn g.R.Resolvable.is_posted c.args.fresh.now) c.args.postings.now c.as_slice.result.now = rw is c.requires.placed in
    placed.rows

pub unpost-requires-clause-once : goal.unpost-requires-clause-once
unpost-requires-clause-once g c =
    let is : c.as_slice.result.now ≡ c.args.fresh.now.keys = c.as_slice.ensures.value ∙ ap (λ (e : Entry g.row.R.Denot ℕ). e.keys) c.fresh.view_is in
    let placed : IsPlaced (HasOwn g.R.Resolvable.is_posted c.args.fresh.now) c.args.postings.now c.as_slice.result.now = rw is c.requires.placed in
    placed.keys.once

pub unpost-requires-clause-present : goal.unpost-requires-clause-present
unpost-requires-clause-present g c =
    let is : c.as_slice.result.now ≡ c.args.fresh.now.keys = c.as_slice.ensures.value ∙ ap (λ (e : Entry g.row.R.Denot ℕ). e.keys) c.fresh.view_is in
    let placed : IsPlaced (HasOwn g.R.Resolvable.is_posted c.args.fresh.now) c.args.postings.now c.as_slice.result.now = rw is c.requires.placed in
    λ k at. c.requires.present k ((placed.keys.members k).0 at)

pub returns-clause-numbers : goal.returns-clause-numbers
returns-clause-numbers g c =
    let is : c.as_slice.result.now ≡ c.args.fresh.now.keys = c.as_slice.ensures.value ∙ ap (λ (e : Entry g.row.R.Denot ℕ). e.keys) c.fresh.view_is in
    let placed : IsPlaced (HasOwn g.R.Resolvable.is_posted c.args.fresh.now) c.args.postings.now c.as_slice.result.now = rw is c.requires.placed in
    lost-keys g.R.Key.PartialEq.eq c.args.postings.now c.unpost.new.postings c.as_slice.result.now c.args.place placed c.unpost.ensures.numbers
