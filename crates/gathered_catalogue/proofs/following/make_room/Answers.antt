use Rattle.std.proofs.Common.{cond, [], refl, ap, subst, ◌∙◌}
use Rattle.std.specs.Prelude.{Option, Some, IsSome}
use Rattle.std.specs.Option.{option_map_or}
use Rattle.std.specs.Ordering.{nat_cmp}
use Rattle.std.specs.Cmp.Lexicographic.{slice_cmp}
use Rattle.std.specs.BTreeMap.{is_at}
use Rattle.std.specs.Map.{lookup}
use Rattle.std.proofs.lemmas.Result.{on_ok_weaker}
use Rattle.gathered_catalogue.specs.Tables.{Shelf}
use Rattle.gathered_catalogue.proofs.FollowLaws.{own-library, place-kept, place-written}
use Rattle.gathered_catalogue.proofs.following.make_room.Goals as goal

pub returns-in-Some-clause-same : goal.returns-in-Some-clause-same
returns-in-Some-clause-same c = λ id.
    let old = c.args.libraries.now.entries in
    let library = c.args.library.now in
    place-written old (c.get_mut.follows.lender c.make_room.new.self).entries library c.make_room.new.self
    ((c.get_mut.follows.holds c.make_room.new.self).3 (subst IsSome c.in-Some.ensures.value refl)).0 id
    ∙ place-kept old library c.make_room.new.self.rows
    (c.make_room.ensures.same ∙ ap (λ (o : Option Shelf). option_map_or (λ (shelf : Shelf). shelf.rows) o []) c.in-Some.ensures.value) id

pub returns-in-Some-clause-room : goal.returns-in-Some-clause-room
returns-in-Some-clause-room c =
    let old = c.args.libraries.now.entries in
    let library = c.args.library.now in
    let after = c.make_room.new.self in
    on_ok_weaker c.make_room.result
    (λ room. (
      after,
      ((c.get_mut.follows.holds after).3 (subst IsSome c.in-Some.ensures.value refl)).0 library
          ∙ ap (λ b. cond b (Some after) (lookup (is_at (slice_cmp nat_cmp library)) old)) (own-library library),
      room,
    )) c.make_room.ensures.room

pub returns-in_ok-insert-in-None-clause-same : goal.returns-in_ok-insert-in-None-clause-same
returns-in_ok-insert-in-None-clause-same c = λ id.
    let old = c.args.libraries.now.entries in
    let library = c.args.library.now in
    let writes = rw c.get_mut.follows.holds-at-none at c.in_ok-insert-in-None.ensures.updates in
    place-written old c.insert.new.self.entries library c.make_room-in-None.new.self writes.0 id
    ∙ place-kept old library c.make_room-in-None.new.self.rows
    (c.in_ok-make_room-in-None.ensures.same ∙ c.empty-places.ensures
    ∙ ap (λ (o : Option Shelf). option_map_or (λ (shelf : Shelf). shelf.rows) o []) c.in-None.ensures.value) id
