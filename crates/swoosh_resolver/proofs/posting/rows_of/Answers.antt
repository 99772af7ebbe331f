use Rattle.std.proofs.Common.{◌≡◌, ◌∷◌, ◌++◌, [], Some, map, refl, sym, ◌∙◌, ap}
use Rattle.std.proofs.lemmas.List.{map-append}
use Rattle.feature_index.specs.Postings.{key_at}
use Rattle.swoosh_resolver.proofs.Placing.{keys-stay}
use Rattle.swoosh_resolver.proofs.posting.rows_of.Goals as goal

pub loop-key-preserved : goal.loop-key-preserved
loop-key-preserved g c =
    let now = c.loop-key.postings in
    let new = c.row_of.new.self in
    let key = c.in-Some.key in
    let done = c.loop-key.yielded in
    let places = c.loop-key.places.items in
    let place = c.in_ok-row_of.field-0 in
    let (k, at, e) = c.in_ok-row_of.ensures.place in
    let same : key ≡ k = g.met.R.Resolvable.exact_keys key k e in
    let before : map (key_at new) places ≡ map Some done = keys-stay now new c.row_of.ensures.rows places done c.loop-key.invariant.places in
    record {
      places = rw c.in_ok-push.ensures.items (map-append (key_at new) places (place ∷ []) ∙ (λ i. before i ++ (at ∙ ap Some (sym same)) i ∷ []) ∙ sym (map-append Some done (key ∷ [])));
      postings = λ j. c.row_of.ensures.postings j ∙ c.loop-key.invariant.postings j;
      rows = λ p j at'. c.row_of.ensures.rows p j (c.loop-key.invariant.rows p j at');
    }

pub loop-key-init : goal.loop-key-init
loop-key-init g c = record { places = rw c.in_ok-places.ensures.items refl; postings = λ k. refl; rows = λ place k at. at }

pub returns-in_err-row_of-clause-postings : goal.returns-in_err-row_of-clause-postings
returns-in_err-row_of-clause-postings g c k = c.row_of.ensures.postings k ∙ c.loop-key.invariant.postings k

pub returns-in_err-row_of-clause-rows : goal.returns-in_err-row_of-clause-rows
returns-in_err-row_of-clause-rows g c place k at = c.row_of.ensures.rows place k (c.loop-key.invariant.rows place k at)

pub returns-in_err-push-clause-postings : goal.returns-in_err-push-clause-postings
returns-in_err-push-clause-postings g c k = c.row_of.ensures.postings k ∙ c.loop-key.invariant.postings k

pub returns-in_err-push-clause-rows : goal.returns-in_err-push-clause-rows
returns-in_err-push-clause-rows g c place k at = c.row_of.ensures.rows place k (c.loop-key.invariant.rows place k at)

pub returns-clause-postings : goal.returns-clause-postings
returns-clause-postings g c = c.loop-key.invariant.postings

pub returns-clause-rows : goal.returns-clause-rows
returns-clause-rows g c = c.loop-key.invariant.rows
