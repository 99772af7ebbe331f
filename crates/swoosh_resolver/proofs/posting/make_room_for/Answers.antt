use Rattle.std.proofs.Common.{◌≡◌, ◌+◌, ◌≤◌, true, false, cond, Some, get_or, take, refl, sym, ◌∙◌, ap, subst, arith}
use Rattle.std.specs.Prelude.{count_by}
use Rattle.std.proofs.lemmas.List.{take_all}
use Rattle.feature_index.specs.Postings.{key_at, spare_of}
use Rattle.swoosh_resolver.specs.Tables.{keys_at}
use Rattle.swoosh_resolver.proofs.Placing.{counted-push, key-of, row-stays}
use Rattle.swoosh_resolver.proofs.posting.make_room_for.Goals as goal

pub make_room_at-requires : goal.make_room_at-requires
make_room_at-requires g c =
    let places = c.args.places.now in
    let i = c.loop-place.place-index in
    let (k, here) = key-of c.args.postings.now places c.requires i (omega arith) in
    row-stays c.args.postings.now c.loop-place.postings c.loop-place.invariant.rows (get_or places i 0) (rw here.at refl)

pub loop-place-preserved : goal.loop-place-preserved
loop-place-preserved g c =
    let places = c.args.places.now in
    let old = c.args.postings.now in
    let now = c.loop-place.postings in
    let new = c.make_room_at.new.self in
    let i = c.loop-place.place-index in
    let eq = g.R.Key.PartialEq.eq in
    let (k, here) = key-of old places c.requires i (omega arith) in
    let at : key_at now (get_or places i 0) ≡ Some k = c.loop-place.invariant.rows (get_or places i 0) k here.at in
    record {
      numbers = λ j. c.make_room_at.ensures.numbers j ∙ c.loop-place.invariant.numbers j;
      room = λ j.
          let before = c.loop-place.invariant.room j in
          let counted : count_by (eq j) (keys_at old (take (i + 1) places)) ≡ count_by (eq j) (keys_at old (take i places)) + cond (eq j k) 1 0 = ap (count_by (eq j)) here.longer ∙ counted-push (eq j) (keys_at old (take i places)) k in
          elim (eq j k) as (λ b. eq j k ≡ b → spare_of eq old j + count_by (eq j) (keys_at old (take (i + 1) places)) ≤ spare_of eq new j) [
            | true ↦ λ e.
                (let same : j ≡ k = g.met.R.Resolvable.exact_keys j k e in
                let counted' = rw e at counted in
                let more : spare_of eq now j + 1 ≤ spare_of eq new j = subst (λ z. spare_of eq now z + 1 ≤ spare_of eq new z) (sym same) (c.in_ok-make_room_at.ensures.room k at) in
                omega arith)
            | false ↦ λ e. (let counted' = rw e at counted in let kept = c.make_room_at.ensures.kept j in omega arith)
          ] refl;
      rows = λ place j at'. c.make_room_at.ensures.rows place j (c.loop-place.invariant.rows place j at');
    }

pub returns-clause-room : goal.returns-clause-room
returns-clause-room g c k =
    let all : take c.loop-place.place-index c.args.places.now ≡ c.args.places.now = take_all c.loop-place.place-index c.args.places.now (omega arith) in
    rw all at (c.loop-place.invariant.room k)

pub returns-in_err-make_room_at-clause-numbers : goal.returns-in_err-make_room_at-clause-numbers
returns-in_err-make_room_at-clause-numbers g c k = c.make_room_at.ensures.numbers k ∙ c.loop-place.invariant.numbers k

pub returns-in_err-make_room_at-clause-rows : goal.returns-in_err-make_room_at-clause-rows
returns-in_err-make_room_at-clause-rows g c place k at = c.make_room_at.ensures.rows place k (c.loop-place.invariant.rows place k at)

pub returns-clause-numbers : goal.returns-clause-numbers
returns-clause-numbers g c = c.loop-place.invariant.numbers

pub returns-clause-rows : goal.returns-clause-rows
returns-clause-rows g c = c.loop-place.invariant.rows
