use Rattle.std.proofs.Common.{◌≡◌, ℕ, refl, Some, get_or, take, subst, arith}
use Rattle.std.specs.Prelude.{Contains, IsSome}
use Rattle.std.proofs.lemmas.List.{take_all}
use Rattle.feature_index.specs.Postings.{key_at, numbers_of}
use Rattle.swoosh_resolver.specs.Tables.{keys_at}
use Rattle.swoosh_resolver.proofs.Numbering.{IsUnposted, unposted_none, unposted_more}
use Rattle.swoosh_resolver.proofs.Placing.{key-of}
use Rattle.swoosh_resolver.proofs.posting.unpost.Goals as goal

pub loop-place-init : goal.loop-place-init
loop-place-init g c =
    record { done = unposted_none g.met.R.Key.Eq.laws g.met.R.Resolvable.exact_keys c.args.postings.now c.args.number; rows = λ place k at. at }

pub remove_at-requires-clause-row : goal.remove_at-requires-clause-row
remove_at-requires-clause-row g c =
    let places = c.args.places.now in
    let old = c.args.postings.now in
    let rows : (place : ℕ) → Contains places place → IsSome (key_at old place) = c.requires.rows in
    let now = c.loop-place.postings in
    let i = c.loop-place.place-index in
    let (k, here) = key-of old places rows i (omega arith) in
    let at : key_at now (get_or places i 0) ≡ Some k = c.loop-place.invariant.rows (get_or places i 0) k here.at in
    let eq = g.R.Key.PartialEq.eq in
    rw at refl

pub remove_at-requires-clause-present : goal.remove_at-requires-clause-present
remove_at-requires-clause-present g c j at' =
    let places = c.args.places.now in
    let old = c.args.postings.now in
    let rows : (place : ℕ) → Contains places place → IsSome (key_at old place) = c.requires.rows in
    let now = c.loop-place.postings in
    let i = c.loop-place.place-index in
    let (k, here) = key-of old places rows i (omega arith) in
    let at : key_at now (get_or places i 0) ≡ Some k = c.loop-place.invariant.rows (get_or places i 0) k here.at in
    let eq = g.R.Key.PartialEq.eq in
    let same : k ≡ j = cc in
    subst (λ z. Contains (numbers_of eq now z) c.args.number) same ((c.loop-place.invariant.done.numbers k c.args.number).1 (
      c.requires.present k here.among,
      λ before. absurd (here.new c.requires.once before),
    ))

pub loop-place-preserved : goal.loop-place-preserved
loop-place-preserved g c =
    let places = c.args.places.now in
    let old = c.args.postings.now in
    let rows : (place : ℕ) → Contains places place → IsSome (key_at old place) = c.requires.rows in
    let now = c.loop-place.postings in
    let i = c.loop-place.place-index in
    let (k, here) = key-of old places rows i (omega arith) in
    let at : key_at now (get_or places i 0) ≡ Some k = c.loop-place.invariant.rows (get_or places i 0) k here.at in
    let eq = g.R.Key.PartialEq.eq in
    record {
      done = rw here.longer (unposted_more g.met.R.Key.Eq.laws g.met.R.Resolvable.exact_keys old now c.remove_at.new.self (keys_at old (take i places)) c.args.number k
          c.loop-place.invariant.done (c.remove_at.ensures.numbers k at) (c.remove_at.ensures.spare k at) (λ j apart. c.remove_at.ensures.others k j at apart));
      rows = λ place j at'. c.remove_at.ensures.rows place j (c.loop-place.invariant.rows place j at');
    }

pub returns-clause-numbers : goal.returns-clause-numbers
returns-clause-numbers g c k n =
    let places = c.args.places.now in
    let old = c.args.postings.now in
    let all : take c.loop-place.place-index places ≡ places = take_all c.loop-place.place-index places (omega arith) in
    let done : IsUnposted g.R.Key.PartialEq.eq old (keys_at old places) c.args.number c.loop-place.postings = rw all at c.loop-place.invariant.done in
    done.numbers k n
