use Rattle.std.proofs.Common.{◌≡◌, ◌+◌, ◌++◌, List, length, map, sym, ap, ap₂, ◌∙◌, subst, arith}
use Rattle.std.proofs.lemmas.List.{take-append-drop, length-map, with_items_is}
use Rattle.std.proofs.lemmas.Result.{IfOk-at_ok}
use Rattle.key_groups.specs.Notes.{hash_by, HasHash, AreNoted}
use Rattle.key_groups.proofs.Noting.{noted_beside}
use Rattle.key_groups.proofs.notes.+noting.Goals as goal

-- the notes of the two shares are those of the list
pub returns-clause-noted : goal.returns-clause-noted
returns-clause-noted g t c =
    let has = HasHash g.R.Resolvable.has_key (hash_by g.R.Key.Hash.hash_input c.args.hashing) in
    let first = c.args.first in
    let second = first + c.share-cut.result in
    let front = c.split_off.new.self.items in
    let back = c.in_ok-back.back.items in
    let parts = c.in_ok-whole.parts.items in
    let more = c.in_ok-rest.more.items in
    let new = c.add_parts.new.parts in
    let whole : front ++ back ≡ c.args.list.items = ap₂ ◌++◌ c.in_ok-back.ensures.items c.in_ok-back.ensures.tail ∙ take-append-drop _ c.args.list.items in
    let next : second ≡ first + length front = omega (arith, c.split_off.new.self.ok.0, c.in_ok-back.ensures.len) in
    let one : AreNoted has front first (length front) (map (λ part. part.items) parts) =
    IfOk-at_ok (λ both. AreNoted has front first (length front) (map (λ part. part.items) both.1.items)) {r = c.join-one.result.0} c.in_ok-whole.was c.join-one.ensures.first.1.1 in
    let other : AreNoted has back second (length back) (map (λ part. part.items) more) =
    IfOk-at_ok (λ both. AreNoted has back second (length back) (map (λ part. part.items) both.1.items)) {r = c.join-one.result.1} c.in_ok-rest.was c.join-one.ensures.second.1.1 in
    let some : length parts ≡ c.args.count =
    IfOk-at_ok (λ both. length both.1.items ≡ c.args.count) {r = c.join-one.result.0} c.in_ok-whole.was c.join-one.ensures.first.1.0 in
    let as_many : length more ≡ c.args.count =
    IfOk-at_ok (λ both. length both.1.items ≡ c.args.count) {r = c.join-one.result.1} c.in_ok-rest.was c.join-one.ensures.second.1.0 in
    let alike : length (map (λ part. part.items) more) ≡ length (map (λ part. part.items) parts) =
    length-map more (λ part. part.items) ∙ as_many ∙ sym some ∙ sym (length-map parts (λ part. part.items)) in
    let sum = rw c.as_mut_slice.ensures.value at c.in_ok-add_parts.ensures in
    let size : length new ≡ length parts = c.add_parts.auto.parts ∙ ap length c.as_mut_slice.ensures.value in
    rw (with_items_is c.in_ok-whole.parts new (size ∙ sym c.in_ok-whole.parts.ok.0))
    (subst (λ (list : List g.row.R.Denot). AreNoted has list first (length list) (map (λ part. part.items) new)) whole
    (noted_beside front back first second (map (λ part. part.items) parts) (map (λ part. part.items) more) (map (λ part. part.items) new) next alike one other sum))
