use Rattle.std.proofs.Common.{◌≡◌, ℕ, ◌+◌, ◌*◌, ◌<◌, List, [], ◌∷◌, length, refl, arith}
use Rattle.std.specs.List.Sorted.{IsPermutation}
use Rattle.std.proofs.lemmas.List.Sorted.{length_permutation}
use Rattle.merge_laws.proofs.Places.{length-from_push}
use Rattle.catalogue_editions.specs.Joining.{join}
use Rattle.edition_derivations.proofs.DerivingLaws.{deriving-begun, deriving-kept, deriving-joined, deriving-ended}
use Rattle.edition_derivations.proofs.merging.derived.Goals as goal

one_less : {A : Type 0} (xs : List A) (x : A) (rest : List A) → IsPermutation xs (x ∷ rest) → length xs ≡ length rest + 1
one_less xs x rest p = omega (arith, length_permutation xs (x ∷ rest) p)

fall : (left left' left'' done done' : ℕ) → left ≡ left' + 1 → left'' ≡ left' + 1 → done ≡ done' + 1 → 2 * left'' + done' < 2 * left + done
fall left left' left'' done done' a b c = omega (arith, a, b, c)

pub loop-value-init : goal.loop-value-init
loop-value-init c = rw (c.new-steps.ensures.items, c.new-done.ensures.items) (deriving-begun c.args.records.items)

pub loop-value-preserved-in-Continue-1 : goal.loop-value-preserved-in-Continue-1
loop-value-preserved-in-Continue-1 c =
    let left = c.pop.new.self.items in
    let done = c.loop-value.done.items in
    let value = c.in-Some.value in
    let items = rw c.in-None.ensures.same at c.in_ok-push-in-None.ensures.items in
    rw items
    (deriving-kept c.args.records.items left c.loop-value.steps.items done value
    (rw c.in-Some.ensures.items at c.loop-value.invariant) c.in-None.ensures.none)

pub loop-value-preserved : goal.loop-value-preserved
loop-value-preserved c =
    let left = c.pop.new.self.items in
    let value = c.in-Some.value in
    let other = c.in-Some-take_match.other in
    let pushed = c.in_ok-push_merged-in-Some-take_match.ensures in
    rw (pushed.left, pushed.steps)
    (deriving-joined c.args.records.items left c.loop-value.steps.items c.loop-value.done.items value other c.take_match.new.done.items
    (record { left = other; right = value }) refl refl
    (rw c.in-Some.ensures.items at c.loop-value.invariant) c.in-Some-take_match.ensures.taken c.in-Some-take_match.ensures.matches)

pub loop-value-smaller : goal.loop-value-smaller
loop-value-smaller c =
    let left = c.pop.new.self.items in
    fall (length c.loop-value.left.items) (length left) (length c.push_merged.new.left.items) (length c.loop-value.done.items) (length c.take_match.new.done.items)
    (length-from_push left c.loop-value.left.items c.in-Some.value c.in-Some.ensures.items)
    (length-from_push left c.push_merged.new.left.items (join c.in-Some-take_match.other c.in-Some.value) c.in_ok-push_merged-in-Some-take_match.ensures.left)
    (one_less c.loop-value.done.items c.in-Some-take_match.other c.take_match.new.done.items c.in-Some-take_match.ensures.taken)

-- at last nothing is left
pub returns : goal.returns
returns c =
    let emptied : c.pop.new.self.items ≡ [] = rw c.in_default.ensures.cases.0 at c.in_default.ensures.rest in
    let none : c.loop-value.left.items ≡ [] = rw emptied at c.in_default.ensures.items in
    deriving-ended c.args.records.items c.loop-value.steps.items c.loop-value.done.items (rw none at c.loop-value.invariant)
