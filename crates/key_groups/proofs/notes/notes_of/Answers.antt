use Rattle.std.proofs.Common.{◌≡◌, length, map, refl, sym, ap, ◌∙◌, arith}
use Rattle.std.proofs.lemmas.List.{with_items_is}
use Rattle.std.proofs.lemmas.Option.{slice_get_read}
use Rattle.key_groups.specs.Notes.{hash_by, HashIsAmong}
use Rattle.key_groups.proofs.Noting.{noted_none, noted_more}
use Rattle.key_groups.proofs.notes.notes_of.Goals as goal

pub loop-place-init : goal.loop-place-init
loop-place-init g c = record {
  count = c.in_ok-parts.ensures.count;
  noted = noted_none c.args.list.now c.args.first (map (λ part. part.items) c.in_ok-parts.parts.items) c.args.count c.in_ok-parts.ensures.empty;
}

pub loop-place-preserved : goal.loop-place-preserved
loop-place-preserved g c =
    let hash = hash_by g.R.Key.Hash.hash_input c.args.hashing in
    let list = c.args.list.now in
    let so = c.loop-place.invariant in
    let n = c.loop-place.place in
    let v = c.index-list-place.result in
    let was = c.loop-place.parts.items in
    let new = c.note_all.new.parts in
    let size : length new ≡ length was = c.note_all.auto.parts ∙ ap length c.as_mut_slice.ensures.value in
    let now = rw c.as_mut_slice.ensures.value at c.in_ok-note_all.ensures in
    let keys = c.in_ok-index_keys.ensures.keys in
    let here = slice_get_read list _ n v refl c.loop-place-test.true c.index-list-place.is in
    rw (with_items_is c.loop-place.parts new (size ∙ sym c.loop-place.parts.ok.0))
    (record {
      count = size ∙ so.count;
      noted = noted_more list c.args.first n v (map (λ part. part.items) was) (map (λ part. part.items) new) (HashIsAmong hash c.in_ok-index_keys.field-0.items) here
          (λ h. (
            (λ has. let (k, ck, is) = has in (k, (keys k).0 ck, is)),
            (λ has. let (k, hk, is) = has in (k, (keys k).1 hk, is)),
          ))
          so.noted now;
    })

pub returns-clause-noted : goal.returns-clause-noted
returns-clause-noted g c =
    let so = c.loop-place.invariant.noted in
    record {
      each = λ i x h il. so.each i x h (omega (arith, il, c.loop-place-test.false));
      own = so.own;
    }
