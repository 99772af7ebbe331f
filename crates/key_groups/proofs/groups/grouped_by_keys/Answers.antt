use Rattle.std.proofs.Common.{refl, map}
use Rattle.std.proofs.lemmas.Result.{IfOk-weaker}
use Rattle.key_groups.specs.Groups.{AreAlike, AreJoined}
use Rattle.key_groups.specs.Notes.{hash_by, HasHash}
use Rattle.key_groups.proofs.Grouping.{groups_joined}
use Rattle.key_groups.proofs.groups.grouped_by_keys.Goals as goal

-- values that share a key have keys of one hash
pub grouped-requires-clause-joined : goal.grouped-requires-clause-joined
grouped-requires-clause-joined g c =
    rw (c.as_slice-2.ensures.value, c.in_ok-list.ensures.list)
    (λ i j x y k at at' hx hy. c.in_ok-list.ensures.joined i j x y (hash_by g.R.Key.Hash.hash_input c.args.hashing k) at at' (k, hx, refl) (k, hy, refl))

pub returns-clause-joined : goal.returns-clause-joined
returns-clause-joined g c =
    let has = HasHash g.R.Resolvable.has_key (hash_by g.R.Key.Hash.hash_input c.args.hashing) in
    let list = c.args.list.items in
    let labels = c.in_ok-list.labels.items in
    IfOk-weaker c.grouped.result (λ cut. AreAlike list labels (map (λ group. group.items) cut.1.items)) (λ cut. AreJoined has list (map (λ group. group.items) cut.1.items))
    (λ cut. groups_joined list labels c.in_ok-list.ensures.length c.in_ok-list.ensures.only (map (λ group. group.items) cut.1.items))
    (rw (c.as_slice-2.ensures.value, c.in_ok-list.ensures.list) at c.grouped.ensures.alike)

pub returns-clause-members : goal.returns-clause-members
returns-clause-members g c = rw c.in_ok-list.ensures.list at c.grouped.ensures.members
