use Rattle.std.proofs.Common.{◌≡◌, List, [], ◌∷◌, ◌++◌, map, sym, ◌∙◌, ap, subst, append_assoc, append-nil}
use Rattle.std.proofs.lemmas.List.{nil_from_length, map_push}
use Rattle.key_groups.specs.declared.notes.Noted.{Noted}
use Rattle.key_groups.specs.Notes.{ArePairs}
use Rattle.key_groups.proofs.Pairing.{pairs_none, pairs_more}
use Rattle.key_groups.proofs.pairs.pairs_of.Goals as goal

pub loop-part-init : goal.loop-part-init
loop-part-init c = record {
  all = sym c.into_iter-part-iterator.ensures.into_iter_gives.0;
  pairs = pairs_none c.new-pairs.result.items c.new-pairs.ensures.items;
}

pub loop-part-preserved : goal.loop-part-preserved
loop-part-preserved c =
    let so = c.loop-part.invariant in
    let front = c.loop-part.yielded in
    let part = c.in-Some.part in
    let now = rw c.as_slice.ensures.value at c.in_ok-add_neighbours.ensures in
    record {
      all = so.all ∙ ap (λ xs. front ++ xs) c.in-Some.ensures.steps.0 ∙ sym (append_assoc front (part ∷ []) c.next.new.self.rest.items);
      pairs = subst (λ (parts : List (List Noted)). ArePairs parts c.add_neighbours.new.pairs.items) (sym (map_push (λ part. part.items) front part))
          (pairs_more (map (λ part. part.items) front) part.items c.sorted-part.result.items c.loop-part.pairs.items c.add_neighbours.new.pairs.items
          c.sorted-part.ensures.same now.joined now.own so.pairs);
    }

pub returns : goal.returns
returns c =
    let none : c.loop-part.part-iterator.rest.items ≡ [] = nil_from_length _ (sym c.loop-part.part-iterator.rest.ok.0 ∙ c.in-None.ensures.steps.0) in
    let all : c.args.parts.items ≡ c.loop-part.yielded = c.loop-part.invariant.all ∙ ap (λ xs. c.loop-part.yielded ++ xs) none ∙ append-nil c.loop-part.yielded in
    rw all c.loop-part.invariant.pairs
