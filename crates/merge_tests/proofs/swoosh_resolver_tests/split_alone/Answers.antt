use Rattle.std.proofs.Common.{Bor, ◌≡◌, ◌≢◌, ℕ, true, List, [], ◌∷◌, ◌++◌, Option, None, Some, length, append-nil, refl, inl, inr, is_some, sym, ◌∙◌, subst, arith}
use Rattle.std.specs.Prelude.{AllPairs, IsSome, option_copied, option_map}
use Rattle.std.proofs.lemmas.List.{length-map}
use Rattle.merge_laws.specs.Resolution.{DoNotMatch}
use Rattle.merge_tests.specs.SmallSets.{meet}
use Rattle.merge_laws.proofs.Places.{AllPairs-one, Contains-cases}
use Rattle.swoosh_resolver.specs.declared.change.Place.TheVariants.{Kept}
use Rattle.swoosh_resolver.specs.Tables.{Entry, block_at, blocks_in}
use Rattle.swoosh_resolver.specs.Changes.{without}
use Rattle.swoosh_resolver.specs.Splits.{others_of}
use Rattle.swoosh_resolver.proofs.Places.{count-closed}
use Rattle.merge_tests.proofs.swoosh_resolver_tests.split_alone.Goals as goal

-- pairs of a list before which no other stands
alone : {A : Type 0} (P : A → A → Type 0) (xs ys : List A) → length xs ≡ 0 → AllPairs P ys → AllPairs P (xs ++ ys)
alone P [] ys e h = h
alone P (x ∷ xs) ys e h = absurd (omega arith)

stands-from_found : {R K : Type 0} (o : Option (Entry R K)) (r : Option (Bor R)) → option_copied r ≡ option_map (λ e. e.value) o → is_some r ≡ true → IsSome o
stands-from_found None None e h = h
stands-from_found None (Some b) e h = absurd cc
stands-from_found (Some x) r e h = let some : is_some (Some x) ≡ true = refl in some

no_others : {R K : Type 0} (blocks : List (Option (Entry R K))) (n : ℕ) → IsSome (block_at blocks n) → length (blocks_in blocks) ≡ 1 → length (others_of blocks [] [] (Kept n)) ≡ 0
no_others blocks n stands one =
    let fewer = count-closed (n ∷ []) blocks (AllPairs-one (λ m n. m ≢ n) n)
    (λ m c. elim (Contains-cases n [] m c) as (λ _. IsSome (block_at blocks m)) [ inl same ↦ subst (λ m. IsSome (block_at blocks m)) same stands | inr (k, kl, e) ↦ absurd (omega arith) ]) in
    let left = blocks_in (without blocks (n ∷ [])) in
    rw (append-nil left, length-map) (omega arith)

pub plan_split-requires-clause-apart : goal.plan_split-requires-clause-apart
plan_split-requires-clause-apart g c =
    let blocks = c.args.blocks.now.blocks in
    let parts = c.in_ok-parts.parts.items in
    let stands = stands-from_found (block_at blocks c.args.number) c.block.result c.block.ensures (sym c.is_some.ensures ∙ c.if-is_some.true) in
    let one : length (blocks_in blocks) ≡ 1 = omega (arith, c.count.ensures) in
    let none : length (others_of blocks c.start.result.closed.items c.start.result.opened.items (Kept c.args.number)) ≡ 0 = rw (c.start.ensures.closed, c.start.ensures.opened) (no_others blocks c.args.number stands one) in
    alone (DoNotMatch meet) (others_of blocks c.start.result.closed.items c.start.result.opened.items (Kept c.args.number)) parts none
    (c.resolution_is_apart.ensures _ parts c.in_ok-parts.ensures.resolved)
