use Rattle.std.proofs.Common.{◌≡◌, ◌++◌, ◌∷◌, [], rules, subst, sym, ap, ◌∙◌, append_assoc, append-nil}
use Rattle.std.proofs.lemmas.List.{nil_from_length}
use Rattle.work_clusters.specs.Room.{HasRoomForPairs}
use Rattle.work_clusters.specs.Steps.{PutsIn}
use Rattle.work_clusters.proofs.Steps.{puts_in_none, puts_in_more, room_first, room_rest}
use Rattle.work_clusters.proofs.works.Works.put_in.Goals as goal

pub loop-key-init : goal.loop-key-init
loop-key-init c =
    let all : c.args.come.items ≡ c.into_iter-key-iterator.result.rest.items = search rules in
    record { done = puts_in_none c.args.self.now; all = all; room = subst (HasRoomForPairs c.args.self.now.room) all c.requires }

pub put_in_one-requires : goal.put_in_one-requires
put_in_one-requires c =
    room_first c.loop-key.self c.in-Some.key c.in-Some.id c.next.new.self.rest.items (subst (HasRoomForPairs c.loop-key.self.room) c.in-Some.ensures.steps.0 c.loop-key.invariant.room)

pub loop-key-preserved : goal.loop-key-preserved
loop-key-preserved c =
    let rest = c.next.new.self.rest.items in
    record {
      done = puts_in_more c.args.self.now c.loop-key.self c.put_in_one.new.self c.loop-key.yielded _ c.loop-key.invariant.done c.put_in_one.ensures;
      all = c.loop-key.invariant.all ∙ ap (λ xs. c.loop-key.yielded ++ xs) c.in-Some.ensures.steps.0 ∙ sym (append_assoc c.loop-key.yielded ((c.in-Some.key, c.in-Some.id) ∷ []) rest);
      room = room_rest c.loop-key.self c.put_in_one.new.self _ rest (subst (HasRoomForPairs c.loop-key.self.room) c.in-Some.ensures.steps.0 c.loop-key.invariant.room) c.put_in_one.ensures;
    }

pub returns : goal.returns
returns c =
    let none : c.loop-key.key-iterator.rest.items ≡ [] = nil_from_length _ (sym c.loop-key.key-iterator.rest.ok.0 ∙ c.in-None.ensures.steps.0) in
    subst (PutsIn c.args.self.now c.loop-key.self) (sym (c.loop-key.invariant.all ∙ ap (λ xs. c.loop-key.yielded ++ xs) none ∙ append-nil c.loop-key.yielded)) c.loop-key.invariant.done
