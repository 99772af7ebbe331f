use Rattle.std.proofs.Common.{◌≡◌, ℕ, ◌+◌, ◌≤◌, ◌∷◌, ◌++◌, [], List, map, take, refl, sym, ◌∙◌, ap, arith}
use Rattle.std.specs.Prelude.{count_by}
use Rattle.std.proofs.lemmas.List.{map-append, take_more, take_all}
use Rattle.feature_index.specs.Postings.{spare_of}
use Rattle.swoosh_resolver.specs.Tables.{Entry, HasOwn, IsPlaced, keys_at}
use Rattle.swoosh_resolver.proofs.Opening.{count-keys}
use Rattle.swoosh_resolver.proofs.Placing.{keys_at-stay, placed-stays}
use Rattle.swoosh_resolver.proofs.install.make_room_for_all.Goals as goal

pub make_room_for-requires : goal.make_room_for-requires
make_room_for-requires g c =
    let e = c.fresh-item.result in
    let is = c.as_slice.ensures.value ∙ ap (λ (e : Entry g.row.R.Denot ℕ). e.keys) c.fresh.view_is in
    let placed : IsPlaced (HasOwn g.R.Resolvable.is_posted e) c.loop-fresh.postings e.keys =
    placed-stays c.args.postings.now c.loop-fresh.postings c.loop-fresh.invariant.rows e.keys (c.requires e (c.loop-fresh.fresh-index, omega arith, sym c.fresh-item.is)) in
    rw is placed.rows

pub loop-fresh-preserved : goal.loop-fresh-preserved
loop-fresh-preserved g c =
    let opened = c.args.opened.now in
    let old = c.args.postings.now in
    let i = c.loop-fresh.fresh-index in
    let e = c.fresh-item.result in
    let keys : Entry g.row.R.Denot ℕ → List ℕ = λ e. e.keys in
    let is = c.as_slice.ensures.value ∙ ap (λ (e : Entry g.row.R.Denot ℕ). e.keys) c.fresh.view_is in
    let placed : IsPlaced (HasOwn g.R.Resolvable.is_posted e) old e.keys = c.requires e (i, omega arith, sym c.fresh-item.is) in
    let longer : take (i + 1) opened ≡ take i opened ++ e ∷ [] = take_more opened i e (omega arith) ∙ ap (λ x. take i opened ++ x ∷ []) (sym c.fresh-item.is) in
    let lists : map keys (take (i + 1) opened) ≡ map keys (take i opened) ++ e.keys ∷ [] = ap (map keys) longer ∙ map-append keys (take i opened) (e ∷ []) in
    let stay : keys_at c.loop-fresh.postings e.keys ≡ keys_at old e.keys = keys_at-stay old c.loop-fresh.postings c.loop-fresh.invariant.rows e.keys placed.rows in
    record {
      numbers = λ k. c.make_room_for.ensures.numbers k ∙ c.loop-fresh.invariant.numbers k;
      room = λ k.
          let eq = g.R.Key.PartialEq.eq in
          let before = c.loop-fresh.invariant.room k in
          let room : spare_of eq c.loop-fresh.postings k + count_by (eq k) (keys_at old e.keys) ≤ spare_of eq c.make_room_for.new.postings k = rw stay at (rw is at (c.in_ok-make_room_for.ensures.room k)) in
          let counted = count-keys eq old k (map keys (take i opened)) e.keys [] in
          rw lists (omega arith);
      rows = λ place k at. c.make_room_for.ensures.rows place k (c.loop-fresh.invariant.rows place k at);
    }

pub returns-clause-room : goal.returns-clause-room
returns-clause-room g c k =
    let all : take c.loop-fresh.fresh-index c.args.opened.now ≡ c.args.opened.now = take_all c.loop-fresh.fresh-index c.args.opened.now (omega arith) in
    let room = rw all at (c.loop-fresh.invariant.room k) in
    omega arith

pub loop-fresh-init : goal.loop-fresh-init
loop-fresh-init g c = record { numbers = λ k. refl; room = λ k. omega arith; rows = λ place k at. at }

pub returns-in_err-make_room_for-clause-numbers : goal.returns-in_err-make_room_for-clause-numbers
returns-in_err-make_room_for-clause-numbers g c k = c.make_room_for.ensures.numbers k ∙ c.loop-fresh.invariant.numbers k

pub returns-in_err-make_room_for-clause-rows : goal.returns-in_err-make_room_for-clause-rows
returns-in_err-make_room_for-clause-rows g c place k at = c.make_room_for.ensures.rows place k (c.loop-fresh.invariant.rows place k at)

pub returns-clause-numbers : goal.returns-clause-numbers
returns-clause-numbers g c = c.loop-fresh.invariant.numbers

pub returns-clause-rows : goal.returns-clause-rows
returns-clause-rows g c = c.loop-fresh.invariant.rows
