-- Where canonical ordering moves no character past another that leaves letters too, the letters of a text are those of
-- its characters in turn.
use Rattle.std.proofs.Common.{◌≡◌, ℕ, ◌<◌, ◌≤◌, ◌&&◌, ◌||◌, Bool, true, false, cond, not, nat_le, List, [], ◌∷◌, ◌++◌, flat_map, refl, sym, ap, ◌∙◌, append-nil, inl, inr, ◌⊎◌, arith, leb-true}
use Rattle.std.proofs.lemmas.Bool.{cases_Bool, and_parts, and_from}
use Rattle.std.proofs.lemmas.Grind.{flat_map-append}
use Rattle.std.specs.List.{list_all}
use Rattle.ucd_normal.specs.CanonicalCombiningClass.{canonical_combining_class as ccc}
use Rattle.ucd_case.specs.CaseFolding.{full_fold}
use Rattle.unicode_normalization.specs.Decompose.{decompose}
use Rattle.unicode_normalization.specs.Forms.{Nfkd, nfkd, decomposed, normalize}
use Rattle.unicode_normalization.specs.Order.{is_reorderable, sink, canonical_order}
use Rattle.unicode_normalization.proofs.OrderLemmas.{is_reorderable-true, sink-nil, sink-past, sink-stays, canonical_order-nil, canonical_order-cons, list_all-canonical_order}
use Rattle.caseless.specs.Caseless.{default_case_fold}
use Rattle.naco_normal.specs.Normal.{is_dropped, plain_letters, folded, without_deleted, with_plain_letters, letters}
use Rattle.naco_normal.specs.Words.{is_empty}

-- ---- lists

flat_map-flat_map : {X A B : Type 0} (g : A → List B) (f : X → List A) (xs : List X) → flat_map g (flat_map f xs) ≡ flat_map (λ x. flat_map g (f x)) xs
flat_map-flat_map g f [] = refl
flat_map-flat_map g f (x ∷ xs) = flat_map-append g (f x) (flat_map f xs) ∙ ap (λ l. flat_map g (f x) ++ l) (flat_map-flat_map g f xs)

all_append : {A : Type 0} (p : A → Bool) (xs ys : List A) → list_all p xs ≡ true → list_all p ys ≡ true → list_all p (xs ++ ys) ≡ true
all_append p [] ys h k = k
all_append p (x ∷ xs) ys h k = let parts = and_parts (p x) (list_all p xs) h in and_from _ _ parts.0 (all_append p xs ys parts.1 k)

all_flat_map : {X A : Type 0} (p : A → Bool) (f : X → List A) (xs : List X) → list_all (λ x. list_all p (f x)) xs ≡ true → list_all p (flat_map f xs) ≡ true
all_flat_map p f [] h = refl
all_flat_map p f (x ∷ xs) h =
    let parts = and_parts (list_all p (f x)) (list_all (λ x. list_all p (f x)) xs) h in
    all_append p (f x) (flat_map f xs) parts.0 (all_flat_map p f xs parts.1)

all_parts : (p q : ℕ → Bool) (xs : List ℕ) → list_all (λ x. p x && q x) xs ≡ true → (list_all p xs ≡ true) × (list_all q xs ≡ true)
all_parts p q [] h = (refl, refl)
all_parts p q (x ∷ xs) h =
    let both = and_parts (p x && q x) (list_all (λ x. p x && q x) xs) h in
    let here = and_parts (p x) (q x) both.0 in
    let rest = all_parts p q xs both.1 in
    (and_from _ _ here.0 rest.0, and_from _ _ here.1 rest.1)

nil_from_empty : (xs : List ℕ) → is_empty xs ≡ true → xs ≡ []
nil_from_empty [] h = refl
nil_from_empty (x ∷ xs) h = cc

-- ---- ordering

-- the character leaves nothing, or none that leaves something passes it
abbrev pub is_calm : (ℕ → ℕ) → (ℕ → List ℕ) → ℕ → Bool
is_calm class g c = nat_le (class c) 240 && (nat_le (class c) 0 || (nat_le 240 (class c) || is_empty (g c)))

or_cases : (a b : Bool) → (a || b) ≡ true → (a ≡ true) ⊎ (b ≡ true)
or_cases true b h = inl h
or_cases false b h = inr h

-- a calm character between the first class and the last leaves nothing
calm_between : (g : ℕ → List ℕ) (d : ℕ) → is_calm ccc g d ≡ true → 0 < ccc d → ccc d < 240 → g d ≡ []
calm_between g d h low high =
    elim (or_cases (nat_le (ccc d) 0) (nat_le 240 (ccc d) || is_empty (g d)) (and_parts _ _ h).1) [
      | inl first ↦ absurd (not_first (leb-true (ccc d) 0 first))
      | inr other ↦
          elim (or_cases (nat_le 240 (ccc d)) (is_empty (g d)) other) [
            | inl last ↦ absurd (not_last (leb-true 240 (ccc d) last))
            | inr none ↦ nil_from_empty (g d) none
          ]
    ]
  where
    not_first : ccc d ≤ 0 → ⊥
    not_first small = omega arith

    not_last : 240 ≤ ccc d → ⊥
    not_last large = omega arith

sink_leaves : (g : ℕ → List ℕ) (c : ℕ) (ds : List ℕ) → is_calm ccc g c ≡ true → list_all (is_calm ccc g) ds ≡ true → flat_map g (sink c ds) ≡ g c ++ flat_map g ds
sink_leaves g c [] h all = ap (flat_map g) (sink-nil c)
sink_leaves g c (d ∷ ds) h all =
    let parts = and_parts (is_calm ccc g d) (list_all (is_calm ccc g) ds) all in
    elim (cases_Bool (is_reorderable c d)) [
      | inl past ↦
          let apart = is_reorderable-true c d past in
          let most = leb-true (ccc c) 240 (and_parts _ _ h).0 in
          let none : g d ≡ [] = calm_between g d parts.0 apart.0 (omega arith) in
          ap (flat_map g) (sink-past c d ds past)
          ∙ ap (λ l. l ++ flat_map g (sink c ds)) none
          ∙ sink_leaves g c ds h parts.1
          ∙ ap (λ l. g c ++ (l ++ flat_map g ds)) (sym none)
      | inr stays ↦ ap (flat_map g) (sink-stays c d ds stays)
    ]

-- what the characters leave is the same in canonical order
order_leaves : (g : ℕ → List ℕ) (cs : List ℕ) → list_all (is_calm ccc g) cs ≡ true → flat_map g (canonical_order cs) ≡ flat_map g cs
order_leaves g [] all = ap (flat_map g) canonical_order-nil
order_leaves g (c ∷ cs) all =
    let parts = and_parts (is_calm ccc g c) (list_all (is_calm ccc g) cs) all in
    ap (flat_map g) (canonical_order-cons c cs)
    ∙ sink_leaves g c (canonical_order cs) parts.0 (list_all-canonical_order (is_calm ccc g) cs parts.1)
    ∙ ap (λ l. g c ++ l) (order_leaves g cs parts.1)

-- ---- one character

-- what a folded and decomposed character leaves
abbrev pub left_last : ℕ → List ℕ
left_last c = cond (is_dropped c) [] (plain_letters c)

abbrev pub decomposition : ℕ → List ℕ
decomposition = decompose Nfkd

-- what a decomposed character leaves
abbrev pub left_then : ℕ → List ℕ
left_then c = flat_map left_last (flat_map decomposition (full_fold c))

-- what a character leaves
abbrev pub left_by : ℕ → List ℕ
left_by c = flat_map left_then (decomposition c)

-- its decomposed characters are calm, before folding and after it
abbrev pub is_separate : ℕ → Bool
is_separate c =
    list_all (λ d. is_calm ccc left_then d && list_all (is_calm ccc left_last) (flat_map decomposition (full_fold d))) (decomposition c)

last_letters : (cs : List ℕ) → with_plain_letters (without_deleted cs) ≡ flat_map left_last cs
last_letters [] = refl
last_letters (c ∷ cs) = first (is_dropped c) ∙ ap (λ l. cond (is_dropped c) [] (plain_letters c) ++ l) (last_letters cs)
  where
    first : (dropped : Bool) → with_plain_letters (cond (not dropped) (c ∷ without_deleted cs) (without_deleted cs)) ≡ cond dropped [] (plain_letters c) ++ with_plain_letters (without_deleted cs)
    first true = refl
    first false = refl

nfkd_is : (cs : List ℕ) → nfkd cs ≡ canonical_order (flat_map decomposition cs)
unfolding normalize decomposed
nfkd_is cs = refl

fold_is : (cs : List ℕ) → default_case_fold cs ≡ flat_map full_fold cs
unfolding default_case_fold
fold_is cs = refl

-- the letters of a text are those of its characters in turn
pub letters_in_turn : (cs : List ℕ) → list_all is_separate cs ≡ true → letters cs ≡ flat_map left_by cs
letters_in_turn cs all =
    let parts = all_parts (is_calm ccc left_then) (λ d. list_all (is_calm ccc left_last) (flat_map decomposition (full_fold d))) (flat_map decomposition cs)
    (all_flat_map _ decomposition cs all) in
    let ordered = canonical_order (flat_map decomposition cs) in
    let settled = list_all-canonical_order (λ d. list_all (is_calm ccc left_last) (flat_map decomposition (full_fold d))) (flat_map decomposition cs) parts.1 in
    let calm : list_all (is_calm ccc left_last) (flat_map decomposition (flat_map full_fold ordered)) ≡ true =
    ap (list_all (is_calm ccc left_last)) (flat_map-flat_map decomposition full_fold ordered) ∙ all_flat_map (is_calm ccc left_last) (λ d. flat_map decomposition (full_fold d)) ordered settled in
    last_letters (folded cs)
    ∙ ap (λ l. flat_map left_last (nfkd (default_case_fold l))) (nfkd_is cs)
    ∙ ap (λ l. flat_map left_last (nfkd l)) (fold_is ordered)
    ∙ ap (flat_map left_last) (nfkd_is (flat_map full_fold ordered))
    ∙ order_leaves left_last (flat_map decomposition (flat_map full_fold ordered)) calm
    ∙ ap (flat_map left_last) (flat_map-flat_map decomposition full_fold ordered)
    ∙ flat_map-flat_map left_last (λ d. flat_map decomposition (full_fold d)) ordered
    ∙ order_leaves left_then (flat_map decomposition cs) parts.0
    ∙ flat_map-flat_map left_then decomposition cs

-- the letters of one character
pub letters_of_one : (c : ℕ) → is_separate c ≡ true → letters (c ∷ []) ≡ left_by c
letters_of_one c h = letters_in_turn (c ∷ []) (and_from _ _ h refl) ∙ append-nil (left_by c)
