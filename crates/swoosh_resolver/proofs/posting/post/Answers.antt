use Rattle.std.proofs.Common.{◌≡◌, ℕ, refl, ◌<◌, ◌≤◌, true, Some, get_or, take, sym, subst, inl, inr, arith}
use Rattle.std.specs.Prelude.{Contains, IsSome, count_by}
use Rattle.std.proofs.lemmas.List.{take_all}
use Rattle.feature_index.specs.Postings.{key_at, numbers_of, spare_of}
use Rattle.swoosh_resolver.specs.Tables.{keys_at}
use Rattle.swoosh_resolver.proofs.Numbering.{IsPosted, posted_none, posted_more}
use Rattle.swoosh_resolver.proofs.Placing.{key-of}
use Rattle.swoosh_resolver.proofs.posting.post.Goals as goal

pub loop-place-init : goal.loop-place-init
loop-place-init g c =
    record { done = posted_none g.met.R.Key.Eq.laws g.met.R.Resolvable.exact_keys c.args.postings.now c.args.number; rows = λ place k at. at }

pub add_at-requires-clause-row : goal.add_at-requires-clause-row
add_at-requires-clause-row g c =
    let places = c.args.places.now in
    let old = c.args.postings.now in
    let rows : (place : ℕ) → Contains places place → IsSome (key_at old place) = c.requires.rows in
    let now = c.loop-place.postings in
    let i = c.loop-place.place-index in
    let (k, here) = key-of old places rows i (omega arith) in
    let at : key_at now (get_or places i 0) ≡ Some k = c.loop-place.invariant.rows (get_or places i 0) k here.at in
    let eq = g.R.Key.PartialEq.eq in
    rw at refl

pub add_at-requires-clause-spare : goal.add_at-requires-clause-spare
add_at-requires-clause-spare g c j at' =
    let places = c.args.places.now in
    let old = c.args.postings.now in
    let rows : (place : ℕ) → Contains places place → IsSome (key_at old place) = c.requires.rows in
    let now = c.loop-place.postings in
    let i = c.loop-place.place-index in
    let (k, here) = key-of old places rows i (omega arith) in
    let at : key_at now (get_or places i 0) ≡ Some k = c.loop-place.invariant.rows (get_or places i 0) k here.at in
    let eq = g.R.Key.PartialEq.eq in
    let same : k ≡ j = cc in
    let room : count_by (eq k) (keys_at old places) ≤ spare_of eq old k = c.requires.room k in
    let counted = here.counted (eq k) in
    let itself : eq k k ≡ true = g.met.R.Key.Eq.laws.refl k in
    let counted' = rw itself at counted in
    let used = c.loop-place.invariant.done.spares k in
    subst (λ z. 0 < spare_of eq now z) same (omega arith)

pub add_at-requires-clause-absent : goal.add_at-requires-clause-absent
add_at-requires-clause-absent g c j at' there =
    let places = c.args.places.now in
    let old = c.args.postings.now in
    let rows : (place : ℕ) → Contains places place → IsSome (key_at old place) = c.requires.rows in
    let now = c.loop-place.postings in
    let i = c.loop-place.place-index in
    let (k, here) = key-of old places rows i (omega arith) in
    let at : key_at now (get_or places i 0) ≡ Some k = c.loop-place.invariant.rows (get_or places i 0) k here.at in
    let eq = g.R.Key.PartialEq.eq in
    let same : k ≡ j = cc in
    elim ((c.loop-place.invariant.done.numbers k c.args.number).0 (subst (λ z. Contains (numbers_of eq now z) c.args.number) (sym same) there)) as (λ _. ⊥) [
      | inl before ↦ c.requires.absent k here.among before
      | inr (before, e) ↦ here.new c.requires.once before
    ]

pub loop-place-preserved : goal.loop-place-preserved
loop-place-preserved g c =
    let places = c.args.places.now in
    let old = c.args.postings.now in
    let rows : (place : ℕ) → Contains places place → IsSome (key_at old place) = c.requires.rows in
    let now = c.loop-place.postings in
    let i = c.loop-place.place-index in
    let (k, here) = key-of old places rows i (omega arith) in
    let at : key_at now (get_or places i 0) ≡ Some k = c.loop-place.invariant.rows (get_or places i 0) k here.at in
    let eq = g.R.Key.PartialEq.eq in
    record {
      done = rw here.longer (posted_more g.met.R.Key.Eq.laws g.met.R.Resolvable.exact_keys old now c.add_at.new.self (keys_at old (take i places)) c.args.number k
          c.loop-place.invariant.done (c.add_at.ensures.numbers k at) (let used = c.add_at.ensures.used k at in omega arith) (λ j apart. c.add_at.ensures.others k j at apart));
      rows = λ place j at'. c.add_at.ensures.rows place j (c.loop-place.invariant.rows place j at');
    }

pub returns-clause-numbers : goal.returns-clause-numbers
returns-clause-numbers g c k n =
    let places = c.args.places.now in
    let old = c.args.postings.now in
    let all : take c.loop-place.place-index places ≡ places = take_all c.loop-place.place-index places (omega arith) in
    let done : IsPosted g.R.Key.PartialEq.eq old (keys_at old places) c.args.number c.loop-place.postings = rw all at c.loop-place.invariant.done in
    done.numbers k n

pub returns-clause-spares : goal.returns-clause-spares
returns-clause-spares g c k =
    let places = c.args.places.now in
    let old = c.args.postings.now in
    let all : take c.loop-place.place-index places ≡ places = take_all c.loop-place.place-index places (omega arith) in
    let done : IsPosted g.R.Key.PartialEq.eq old (keys_at old places) c.args.number c.loop-place.postings = rw all at c.loop-place.invariant.done in
    done.spares k
