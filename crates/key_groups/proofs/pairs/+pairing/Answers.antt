use Rattle.std.proofs.Common.{◌≡◌, ◌++◌, List, map, sym, ap, ap₂, ◌∙◌, subst}
use Rattle.std.proofs.lemmas.List.{take-append-drop, map-append}
use Rattle.std.proofs.lemmas.Result.{IfOk-at_ok}
use Rattle.key_groups.specs.declared.notes.Noted.{Noted}
use Rattle.key_groups.specs.Notes.{ArePairs}
use Rattle.key_groups.proofs.Pairing.{pairs_beside}
use Rattle.key_groups.proofs.pairs.+pairing.Goals as goal

-- the pairs of the two shares are those of the parts
pub returns : goal.returns
returns g t c =
    let front = c.split_off.new.self.items in
    let back = c.in_ok-back.back.items in
    let one = c.in_ok-pairs.pairs.items in
    let other = c.in_ok-other.field-0.items in
    let whole : front ++ back ≡ c.args.parts.items = ap₂ ◌++◌ c.in_ok-back.ensures.items c.in_ok-back.ensures.tail ∙ take-append-drop _ c.args.parts.items in
    let lists : map (λ part. part.items) front ++ map (λ part. part.items) back ≡ map (λ part. part.items) c.args.parts.items =
    sym (map-append (λ part. part.items) front back) ∙ ap (map (λ part. part.items)) whole in
    rw c.in_ok-append.ensures.items
    (subst (λ (parts : List (List Noted)). ArePairs parts (one ++ other)) lists
    (pairs_beside (map (λ part. part.items) front) (map (λ part. part.items) back) one other
    (IfOk-at_ok (λ pairs. ArePairs (map (λ part. part.items) front) pairs.items) {r = c.join-one.result.0} c.in_ok-pairs.was c.join-one.ensures.first)
    (IfOk-at_ok (λ pairs. ArePairs (map (λ part. part.items) back) pairs.items) {r = c.join-one.result.1} c.in_ok-other.was c.join-one.ensures.second)))
