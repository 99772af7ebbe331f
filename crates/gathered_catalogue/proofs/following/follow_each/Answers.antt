use Rattle.std.proofs.Common.{◌≡◌, ◌<◌, ◌+◌, ◌∷◌, List, length, map, get_or, drop, suc, add-one, sym, ap, subst, refl, ◌∙◌, arith}
use Rattle.std.proofs.Math.Seq.{drop-cons}
use Rattle.std.proofs.lemmas.List.{length_push}
use Rattle.catalogue_editions.specs.declared.op.Op.{Op}
use Rattle.turn_plans.proofs.TurnLaws.{op-loads, op-own}
use Rattle.gathered_catalogue.specs.Following.{control_of}
use Rattle.gathered_catalogue.proofs.FollowLaws.{named-next, follows-begin, follows-next}
use Rattle.gathered_catalogue.proofs.following.follow_each.Goals as goal

pub loop-control-init : goal.loop-control-init
loop-control-init c = record {
  follows = λ libraries f. follows-begin c.args.history.now c.args.batch.now libraries c.args.places.now.rows c.args.found.items c.requires.none f;
  controls = c.into_iter-control-iterator.ensures.into_iter_gives.0 ∙ c.requires.controls;
  below = omega arith;
  room = omega (arith, c.requires.room);
  found = ap length c.requires.none;
  capacity = c.requires.capacity;
}

pub loop-control-preserved : goal.loop-control-preserved
loop-control-preserved c =
    let so = c.loop-control.invariant in
    let history = c.args.history.now in
    let batch = c.args.batch.now in
    let i = c.loop-control.i in
    let op = c.index-ops-i.result in
    let control = c.in-Some.control in
    let rest = c.next.new.self.rest.items in
    let is : op ≡ get_or batch.ops i op = subst (λ (xs : List Op). op ≡ get_or xs i op) c.as_slice-ops.ensures c.index-ops-i.is in
    let left : control ∷ rest ≡ map control_of (drop i batch.ops) = sym c.in-Some.ensures.steps.0 ∙ so.controls in
    let below : i < length batch.ops = named-next batch.ops i control rest left in
    let next : drop i batch.ops ≡ op ∷ drop (suc i) batch.ops = drop-cons batch.ops i op below ∙ ap (λ (x : Op). x ∷ drop (suc i) batch.ops) (sym is) in
    let both : control ∷ rest ≡ control_of op ∷ map control_of (drop (suc i) batch.ops) = left ∙ ap (map control_of) next in
    let named : control ≡ control_of op = cc in
    let more : rest ≡ map control_of (drop (suc i) batch.ops) = cc in
    record {
      follows = λ libraries f.
          follows-next (so.follows libraries f) op below is (op-own batch i op below is) (record { turn = length history; op = i }) (op-loads history batch i op (length history) refl below is)
          c.follow-outcome.new.places.rows control named c.follow-outcome.ensures.set c.follow-outcome.result c.follow-outcome.ensures.outcome c.push_reserved.new.self.items
          c.push_reserved.ensures.items;
      controls = rw add-one more;
      below = omega (arith, below);
      room = omega (arith, so.room, c.follow-outcome.ensures.room);
      found = ap length c.push_reserved.ensures.items ∙ length_push c.loop-control.found.items c.follow-outcome.result ∙ ap (λ n. n + 1) so.found;
      capacity = omega (arith, so.capacity, c.push_reserved.ensures.capacity);
    }
