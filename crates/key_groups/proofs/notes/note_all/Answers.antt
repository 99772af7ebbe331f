use Rattle.std.proofs.Common.{◌≡◌, [], ◌∷◌, ◌++◌, map, sym, ◌∙◌, ap, append_assoc, append-nil}
use Rattle.std.proofs.lemmas.List.{nil_from_length}
use Rattle.key_groups.specs.Notes.{hash_by}
use Rattle.key_groups.proofs.Noting.{get_none, get_more}
use Rattle.key_groups.proofs.notes.note_all.Goals as goal

pub loop-key-init : goal.loop-key-init
loop-key-init g c = record {
  all = sym c.into_iter-key-iterator.ensures.into_iter_gives.0;
  noted = get_none (hash_by g.K.Hash.hash_input c.args.hashing) (map (λ part. part.items) c.args.parts.now) c.args.place;
}

pub loop-key-preserved : goal.loop-key-preserved
loop-key-preserved g c =
    let so = c.loop-key.invariant in
    record {
      all = so.all ∙ ap (λ xs. c.loop-key.yielded ++ xs) c.in-Some.ensures.steps.0 ∙ sym (append_assoc c.loop-key.yielded (c.in-Some.key ∷ []) c.next.new.self.rest.items);
      noted = get_more (hash_by g.K.Hash.hash_input c.args.hashing) (map (λ part. part.items) c.args.parts.now) (map (λ part. part.items) c.loop-key.parts)
          (map (λ part. part.items) c.note.new.parts) c.loop-key.yielded c.in-Some.key c.args.place so.noted
          (rw c.hash_of-hash.ensures at c.in_ok-note.ensures);
    }

pub returns : goal.returns
returns g c =
    let none : c.loop-key.key-iterator.rest.items ≡ [] = nil_from_length _ (sym c.loop-key.key-iterator.rest.ok.0 ∙ c.in-None.ensures.steps.0) in
    let all : c.args.keys.items ≡ c.loop-key.yielded = c.loop-key.invariant.all ∙ ap (λ xs. c.loop-key.yielded ++ xs) none ∙ append-nil c.loop-key.yielded in
    rw all c.loop-key.invariant.noted
