-- Blocks of editions: which of them stand before and after a change.
use Rattle.std.proofs.Common.{◌≡◌, ◌≢◌, ℕ, IsTrue, List, [], ◌∷◌, ◌++◌, Contains, refl, sym, ap, subst, ◌∙◌, inl, inr, arith}
use Rattle.std.specs.Prelude.{◌⊎◌, slice_set, Option, Some, None}
use Rattle.std.specs.List.Sorted.{IsPermutation}
use Rattle.std.proofs.lemmas.List.Elements.{Contains-append_left, Contains-append_right, Contains-append_cases}
use Rattle.std.proofs.Math.Decide.{dec_lt}
use Rattle.std.proofs.lemmas.List.Sorted.{IsPermutation-sym, IsPermutation-map, Contains-permutation}
use Rattle.merge_laws.specs.Resolution.{DoNotMatch, AreApart}
use Rattle.merge_laws.proofs.Places.{Contains-head, Contains-tail, Contains-cases, AllPairs-permutation, AllPairs-first}
use Rattle.swoosh_resolver.specs.Changes.{view_of, without}
use Rattle.swoosh_resolver.specs.Tables.{Entry, block_at, blocks_in, values_of}
use Rattle.swoosh_resolver.proofs.Places.{block-closed, block-kept, block-from_open, taken-from_set, number-from_block}
use Rattle.catalogue_editions.specs.Matching.{match}
use Rattle.catalogue_editions.specs.declared.edition.Edition.{Edition}

-- an edition as a block
abbrev pub Block : Type 0
Block = Entry Edition ℕ

-- a block is among the blocks
pub block-stands : (blocks : List (Option Block)) (n : ℕ) (e : Block) → block_at blocks n ≡ Some e → Contains (blocks_in blocks) e
block-stands blocks n e at =
    Contains-permutation (e ∷ blocks_in (slice_set blocks n None)) (blocks_in blocks) e
    (IsPermutation-sym (blocks_in blocks) (e ∷ blocks_in (slice_set blocks n None)) (taken-from_set blocks n e at)) (Contains-head e (blocks_in (slice_set blocks n None)))

pub value-in : (xs : List Block) (e : Block) → Contains xs e → Contains (values_of xs) e.value
value-in [] e (k, kl, is) = absurd (omega arith)
value-in (x ∷ xs) e c =
    elim (Contains-cases x xs e c) [
      | inl here ↦ subst (λ (y : Block). Contains (x.value ∷ values_of xs) y.value) here (Contains-head x.value (values_of xs))
      | inr later ↦ Contains-tail x.value (values_of xs) e.value (value-in xs e later)
    ]

pub in-value : (xs : List Block) (v : Edition) → Contains (values_of xs) v → (e : Block) × Contains xs e × (e.value ≡ v)
in-value [] v (k, kl, is) = absurd (omega arith)
in-value (x ∷ xs) v c =
    elim (Contains-cases x.value (values_of xs) v c) [
      | inl here ↦ (x, Contains-head x xs, here)
      | inr later ↦ (let (e, ce, is) = in-value xs v later in (e, Contains-tail x xs e ce, is))
    ]

pub dec-same : (m n : ℕ) → (m ≡ n) ⊎ (m ≢ n)
dec-same m n = elim (dec_lt m n) [ yes h ↦ inr (λ e. omega arith) | no h ↦ elim (dec_lt n m) [ yes k ↦ inr (λ e. omega arith) | no k ↦ inl (omega arith) ] ]

-- blocks that match have one number
pub number-from_match : (blocks : List (Option Block)) → AreApart match (values_of (blocks_in blocks)) → (m n : ℕ) (e f : Block) → block_at blocks m ≡ Some e → block_at blocks n ≡ Some f → IsTrue (match e.value f.value) → m ≡ n
number-from_match blocks apart m n e f at at' matches =
    elim (dec-same m n) [
      | inl is ↦ is
      | inr ne ↦ (let rest = blocks_in (slice_set blocks m None) in
          let kept : block_at (slice_set blocks m None) n ≡ Some f = block-kept (m ∷ []) blocks n (λ c. elim (Contains-cases m [] n c) [ inl is ↦ ne is | inr (k, kl, is) ↦ omega arith ]) ∙ at' in
          let moved' : AreApart match (values_of (e ∷ rest)) = apart-moved (blocks_in blocks) (e ∷ rest) (taken-from_set blocks m e at) apart in
          absurd ((AllPairs-first (DoNotMatch match) e.value (values_of rest) moved' f.value (value-in rest f (block-stands (slice_set blocks m None) n f kept))).0 matches))
    ]
  where
    apart-moved : (xs ys : List Block) → IsPermutation xs ys → AreApart match (values_of xs) → AreApart match (values_of ys)
    apart-moved xs ys p a = AllPairs-permutation (DoNotMatch match) (λ x y h. (h.1, h.0)) (values_of xs) (values_of ys) (IsPermutation-map (λ (b : Block). b.value) xs ys p) a

-- a block of a view is one that is kept, or an opened one
pub in-view : (blocks : List (Option Block)) (closed : List ℕ) (opened : List Block) (v : Edition) → Contains (view_of blocks closed opened) v
    → ((n : ℕ) × (e : Block) × (block_at blocks n ≡ Some e) × (Contains closed n → ⊥) × (e.value ≡ v)) ⊎ ((e : Block) × Contains opened e × (e.value ≡ v))
in-view blocks closed opened v c =
    let (e, ce, is) = in-value (blocks_in (without blocks closed) ++ opened) v c in
    elim (Contains-append_cases (blocks_in (without blocks closed)) opened e ce) [
      | inl kept ↦ (let (n, at) = number-from_block (without blocks closed) e kept in
          inl (
            n,
            e,
            block-from_open closed blocks n e at,
            λ gone. let none : ◌≡◌ {A = Option Block} (Some e) None = sym at ∙ block-closed closed blocks n gone in cc,
            is,
          ))
      | inr fresh ↦ inr (e, fresh, is)
    ]

pub kept-in_view : (blocks : List (Option Block)) (closed : List ℕ) (opened : List Block) (n : ℕ) (e : Block) → block_at blocks n ≡ Some e → (Contains closed n → ⊥) → Contains (view_of blocks closed opened) e.value
kept-in_view blocks closed opened n e at open' =
    value-in (blocks_in (without blocks closed) ++ opened) e
    (Contains-append_left (blocks_in (without blocks closed)) opened e (block-stands (without blocks closed) n e (block-kept closed blocks n open' ∙ at)))

pub fresh-in_view : (blocks : List (Option Block)) (closed : List ℕ) (opened : List Block) (e : Block) → Contains opened e → Contains (view_of blocks closed opened) e.value
fresh-in_view blocks closed opened e c = value-in (blocks_in (without blocks closed) ++ opened) e (Contains-append_right (blocks_in (without blocks closed)) opened e c)
