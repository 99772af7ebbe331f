use Rattle.std.proofs.Common.{◌≡◌, ℕ, ◌≤◌, List, map, sym, ◌∙◌, ap, subst}
use Rattle.std.specs.Prelude.{count_by}
use Rattle.std.proofs.lemmas.Result.{IfOk-weaker}
use Rattle.feature_index.specs.Postings.{Posting, spare_of}
use Rattle.swoosh_resolver.specs.Tables.{Entry}
use Rattle.swoosh_resolver.specs.Changes.{AreMoved, keys_in}
use Rattle.swoosh_resolver.proofs.Placing.{keys_in-stay, placed-stays}
use Rattle.swoosh_resolver.proofs.Seats.{own-rows}
use Rattle.swoosh_resolver.proofs.install.placed_in.Goals as goal

pub make_room_for_all-requires : goal.make_room_for_all-requires
make_room_for_all-requires g c = rw c.as_slice.ensures.value c.in_ok-fresh.ensures.placed

pub returns-in_err-fresh-clause-numbers : goal.returns-in_err-fresh-clause-numbers
returns-in_err-fresh-clause-numbers g c k = ap (λ (p : Posting). p.numbers) (c.moved.ensures.postings k)

pub returns-in_err-make_room_for_all-clause-numbers : goal.returns-in_err-make_room_for_all-clause-numbers
returns-in_err-make_room_for_all-clause-numbers g c k = c.make_room_for_all.ensures.numbers k ∙ ap (λ (p : Posting). p.numbers) (c.moved.ensures.postings k)

pub returns-in_err-make_room_for_all-clause-rows : goal.returns-in_err-make_room_for_all-clause-rows
returns-in_err-make_room_for_all-clause-rows g c place k at = c.make_room_for_all.ensures.rows place k (c.moved.ensures.rows place k at)

pub returns-clause-numbers : goal.returns-clause-numbers
returns-clause-numbers g c k = c.make_room_for_all.ensures.numbers k ∙ ap (λ (p : Posting). p.numbers) (c.moved.ensures.postings k)

pub returns-clause-rows : goal.returns-clause-rows
returns-clause-rows g c place k at = c.make_room_for_all.ensures.rows place k (c.moved.ensures.rows place k at)

pub returns-clause-moved : goal.returns-clause-moved
returns-clause-moved g c =
    let eq = g.R.Key.PartialEq.eq in
    let old = c.moved.new.postings in
    let new = c.make_room_for_all.new.postings in
    let moved = c.in_ok-fresh.fresh.items in
    let are : AreMoved eq g.R.Resolvable.is_posted g.R.Join.join c.args.opened.items new moved = record {
      values = c.in_ok-fresh.ensures.values;
      placed = λ e there. placed-stays old new c.make_room_for_all.ensures.rows e.keys (c.in_ok-fresh.ensures.placed e there);
      based = c.in_ok-fresh.ensures.based;
      spares = λ k.
          let room = subst (λ es. count_by (eq k) (keys_in old (map (λ (e : Entry g.row.R.Denot ℕ). e.keys) es)) ≤ spare_of eq new k) c.as_slice.ensures.value (c.in_ok-make_room_for_all.ensures.room k) in
          let stay = keys_in-stay old new c.make_room_for_all.ensures.rows (map (λ (e : Entry g.row.R.Denot ℕ). e.keys) moved) (own-rows g.R.Resolvable.is_posted old moved c.in_ok-fresh.ensures.placed) in
          subst (λ ks. count_by (eq k) ks ≤ spare_of eq new k) (sym stay) room;
    } in
    IfOk-weaker c.whole_all.result _ _ (λ whole is. (moved, are, is)) c.whole_all.ensures
