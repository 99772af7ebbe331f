use Rattle.std.proofs.Common.{◌≡◌, ℕ, ◌∙◌, ap}
use Rattle.swoosh_resolver.specs.Tables.{Entry, HasOwn, IsPlaced}
use Rattle.swoosh_resolver.proofs.Placing.{moved-keys}
use Rattle.swoosh_resolver.proofs.opened.repost_fresh.Goals as goal

pub repost-requires-clause-rows : goal.repost-requires-clause-rows
repost-requires-clause-rows g c =
    let is : c.as_slice.result.now ≡ c.args.fresh.now.keys = c.as_slice.ensures.value ∙ ap (λ (e : Entry g.row.R.Denot ℕ). e.keys) c.fresh.view_is in
    let placed : IsPlaced (HasOwn g.R.Resolvable.is_posted c.args.fresh.now) c.args.postings.now c.as_slice.result.now = rw is c.requires.placed in
    placed.rows

pub repost-requires-clause-once : goal.repost-requires-clause-once
repost-requires-clause-once g c =
    let is : c.as_slice.result.now ≡ c.args.fresh.now.keys = c.as_slice.ensures.value ∙ ap (λ (e : Entry g.row.R.Denot ℕ). e.keys) c.fresh.view_is in
    let placed : IsPlaced (HasOwn g.R.Resolvable.is_posted c.args.fresh.now) c.args.postings.now c.as_slice.result.now = rw is c.requires.placed in
    placed.keys.once

pub repost-requires-clause-present : goal.repost-requires-clause-present
repost-requires-clause-present g c =
    let is : c.as_slice.result.now ≡ c.args.fresh.now.keys = c.as_slice.ensures.value ∙ ap (λ (e : Entry g.row.R.Denot ℕ). e.keys) c.fresh.view_is in
    let placed : IsPlaced (HasOwn g.R.Resolvable.is_posted c.args.fresh.now) c.args.postings.now c.as_slice.result.now = rw is c.requires.placed in
    λ k at. c.requires.present k ((placed.keys.members k).0 at)

pub repost-requires-clause-absent : goal.repost-requires-clause-absent
repost-requires-clause-absent g c =
    let is : c.as_slice.result.now ≡ c.args.fresh.now.keys = c.as_slice.ensures.value ∙ ap (λ (e : Entry g.row.R.Denot ℕ). e.keys) c.fresh.view_is in
    let placed : IsPlaced (HasOwn g.R.Resolvable.is_posted c.args.fresh.now) c.args.postings.now c.as_slice.result.now = rw is c.requires.placed in
    λ k at. c.requires.absent k ((placed.keys.members k).0 at)

pub returns-clause-numbers : goal.returns-clause-numbers
returns-clause-numbers g c =
    let is : c.as_slice.result.now ≡ c.args.fresh.now.keys = c.as_slice.ensures.value ∙ ap (λ (e : Entry g.row.R.Denot ℕ). e.keys) c.fresh.view_is in
    let placed : IsPlaced (HasOwn g.R.Resolvable.is_posted c.args.fresh.now) c.args.postings.now c.as_slice.result.now = rw is c.requires.placed in
    moved-keys g.R.Key.PartialEq.eq c.args.postings.now c.repost.new.postings c.as_slice.result.now c.args.from placed c.args.to c.repost.ensures.numbers
