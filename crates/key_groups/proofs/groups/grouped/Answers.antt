use Rattle.std.proofs.Common.{◌≡◌, ◌<◌, ◌+◌, List, [], ◌++◌, ◌∷◌, length, map, get_or, refl, sym, ◌∙◌, ap, subst, append_assoc, append-nil, arith, length-append}
use Rattle.std.proofs.lemmas.List.{nil_from_length, length_push, length-map, length-replicate, with_items_is}
use Rattle.key_groups.proofs.Grouping.{AreGrouped, grouped_none, grouped_stranger, grouped_more, groups_alike, cut_apart, cut_members}
use Rattle.key_groups.proofs.groups.grouped.Goals.{then-sizes-label-gt1+in_ok-put, else-sizes-label-gt1+in_ok-push}
use Rattle.key_groups.proofs.groups.grouped.Goals as goal

pub loop-value-init : goal.loop-value-init
loop-value-init g c = record {
  grouped = grouped_none c.args.list.items c.args.labels.now c.args.sizes.now [] c.in_ok-strangers.strangers.items (map (λ group. group.items) c.in_ok-groups.groups.items)
      (length c.args.sizes.now) refl c.in_ok-strangers.ensures.items c.in_ok-groups.ensures;
  room = sym (length-map c.in_ok-groups.groups.items (λ group. group.items)) ∙ ap length c.in_ok-groups.ensures ∙ length-replicate {A = List g.row.R.Denot} (length c.args.sizes.now) []
      ∙ c.requires.sizes;
  place = refl;
  all = sym c.into_iter-value-iterator.ensures.into_iter_gives.0;
}

pub loop-value-preserved : goal.loop-value-preserved
loop-value-preserved g c =
    let so = c.loop-value.invariant in
    let list = c.args.list.items in
    let labels = c.args.labels.now in
    let sizes = c.args.sizes.now in
    let rest = c.next.new.self.rest.items in
    let values = c.loop-value.yielded in
    let v = c.in-Some.value in
    let label = get_or labels c.loop-value.place 0 in
    let left : c.loop-value.value-iterator.rest.items ≡ v ∷ rest = c.in-Some.ensures.steps.0 in
    let whole : list ≡ values ++ v ∷ rest = so.all ∙ ap (λ xs. values ++ xs) left in
    let strangers = c.loop-value.strangers.items in
    let groups = map (λ group. group.items) c.loop-value.groups.items in
    let long : length list ≡ length values + length (v ∷ rest) = ap length whole ∙ length-append values (v ∷ rest) in
    let place = ap (λ n. n + 1) so.place ∙ sym (length_push values v) in
    let all = whole ∙ sym (append_assoc values (v ∷ []) rest) in
    let is : get_or labels (length values) 0 ≡ label = ap (λ k. get_or labels k 0) (sym so.place) in
    elim c.if-sizes-label-gt1.branch [
      | then-sizes-label-gt1+in_ok-put w ↦
          let was = c.loop-value.groups in
          let new = w.put.new.groups in
          let size : length new ≡ length was.items = w.put.auto.groups ∙ ap length w.as_mut_slice.ensures.value in
          let put = rw w.as_mut_slice.ensures.value at w.in_ok-put.ensures in
          let labelled = c.requires.links (length values) (omega (arith, long, c.requires.labels)) in
          let within : label < length groups = omega (arith, labelled, is, long, so.room, length-map was.items (λ group. group.items)) in
          rw (w.strangers-is, w.groups-is, with_items_is was new (size ∙ sym was.ok.0))
          (record {
            grouped = subst (λ (lists : List (List g.row.R.Denot)). AreGrouped g.R.Resolvable.has_key list labels sizes (values ++ v ∷ []) strangers lists) (sym put)
                (grouped_more list labels sizes values rest strangers groups v label whole is within w.if-sizes-label-gt1.true so.grouped);
            room = size ∙ so.room;
            place = place;
            all = all;
          })
      | else-sizes-label-gt1+in_ok-push w ↦
          rw (w.strangers-is, w.groups-is, w.in_ok-push.ensures.items)
          (record {
            grouped = grouped_stranger list labels sizes c.requires.joined values rest strangers groups v label whole c.requires.labels c.requires.sized is
                w.if-sizes-label-gt1.false so.grouped;
            room = so.room;
            place = place;
            all = all;
          })
    ]

pub returns-clause-apart : goal.returns-clause-apart
returns-clause-apart g c =
    cut_apart c.args.list.items c.args.labels.now c.args.sizes.now c.requires.joined c.loop-value.yielded c.loop-value.strangers.items
    (map (λ group. group.items) c.loop-value.groups.items) c.loop-value.invariant.grouped

pub returns-clause-members : goal.returns-clause-members
returns-clause-members g c =
    let none : c.loop-value.value-iterator.rest.items ≡ [] = nil_from_length _ (sym c.loop-value.value-iterator.rest.ok.0 ∙ c.in-None.ensures.steps.0) in
    let all : c.args.list.items ≡ c.loop-value.yielded = c.loop-value.invariant.all ∙ ap (λ xs. c.loop-value.yielded ++ xs) none ∙ append-nil c.loop-value.yielded in
    cut_members c.args.list.items c.args.labels.now c.args.sizes.now c.loop-value.yielded c.loop-value.strangers.items
    (map (λ group. group.items) c.loop-value.groups.items) all c.loop-value.invariant.grouped

pub returns-clause-alike : goal.returns-clause-alike
returns-clause-alike g c =
    groups_alike c.args.list.items c.args.labels.now c.args.sizes.now c.loop-value.yielded c.loop-value.strangers.items
    (map (λ group. group.items) c.loop-value.groups.items) c.loop-value.invariant.grouped
