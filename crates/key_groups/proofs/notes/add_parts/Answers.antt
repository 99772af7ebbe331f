use Rattle.std.proofs.Common.{◌≡◌, ◌<◌, ◌+◌, ◌++◌, ◌∷◌, [], List, length, get_or, set, map, refl, sym, ap, ◌∙◌, subst, arith, append_assoc, length-append}
use Rattle.std.proofs.lemmas.List.{length-map, length-set, length_push, map_push}
use Rattle.key_groups.proofs.Noting.{added_none, added_more}
use Rattle.key_groups.proofs.Grouping.{put_last}
use Rattle.key_groups.specs.declared.notes.Noted.{Noted}
use Rattle.key_groups.specs.Notes.{AreAdded}
use Rattle.key_groups.proofs.notes.add_parts.Goals as goal

pub loop-notes-init : goal.loop-notes-init
loop-notes-init c = record {
  all = sym c.into_iter-notes-iterator.ensures.into_iter_gives.0;
  place = refl;
  count = refl;
  added = added_none (map (λ part. part.items) c.args.parts.now);
}

pub loop-notes-preserved : goal.loop-notes-preserved
loop-notes-preserved c =
    let so = c.loop-notes.invariant in
    let front = c.loop-notes.yielded in
    let notes = c.in-Some.notes in
    let rest = c.next.new.self.rest.items in
    let parts = c.loop-notes.parts in
    let place = c.loop-notes.place in
    let lists = map (λ part. part.items) parts in
    let whole : c.args.more.items ≡ front ++ notes ∷ rest = so.all ∙ ap (λ xs. front ++ xs) c.in-Some.ensures.steps.0 in
    let long = ap length whole ∙ length-append front (notes ∷ rest) in
    let within : place < length parts = omega (arith, long, so.place, so.count, c.requires) in
    let put = put_last parts place c.index-parts-place.result c.append.new.self notes.items (λ part. part.items) within c.in_ok-append.ensures.items in
    record {
      all = whole ∙ sym (append_assoc front (notes ∷ []) rest);
      place = ap (λ n. n + 1) so.place ∙ sym (length_push front notes);
      count = length-set parts place c.append.new.self ∙ so.count;
      added = subst (λ (new : List (List Noted)). AreAdded (map (λ part. part.items) c.args.parts.now) (map (λ part. part.items) (front ++ notes ∷ [])) new) (sym put)
          (subst (λ (more : List (List Noted)). AreAdded (map (λ part. part.items) c.args.parts.now) more (set lists place (get_or lists place [] ++ notes.items)))
          (sym (map_push (λ part. part.items) front notes))
          (added_more (map (λ part. part.items) c.args.parts.now) (map (λ part. part.items) front) lists notes.items place
          (so.place ∙ sym (length-map front (λ part. part.items)))
          (let start = length-map c.args.parts.now (λ part. part.items) in omega (arith, within, so.count, start)) so.added));
    }
