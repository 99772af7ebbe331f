-- What a change of blocks closes and opens is the difference of the editions before and after.
use Rattle.std.proofs.Common.{◌≡◌, ◌≢◌, Bor, ℕ, ◌+◌, ◌<◌, Bool, true, false, ◌&&◌, IsTrue, List, [], ◌∷◌, ◌++◌, length, get_or, take, drop, map, Contains, AllPairs, refl, sym, ap, subst, ◌∙◌, inl, inr, arith, eqb}
use Rattle.std.specs.Prelude.{◌↔◌, ◌⊎◌, filter_map, Option, Some, None}
use Rattle.std.specs.Option.{option_map}
use Rattle.std.specs.List.{list_all, list_any, cons_option}
use Rattle.std.specs.List.Sorted.{IsPermutation, IsSorted}
use Rattle.std.specs.Ordering.{is_lt}
use Rattle.std.proofs.lemmas.List.{map-append, take_more, take-append-drop}
use Rattle.std.proofs.lemmas.List.Elements.{Contains-append_left, Contains-append_right, Contains-append_cases}
use Rattle.std.proofs.lemmas.List.Kept.{AllPairs-cons}
use Rattle.std.proofs.lemmas.List.Sorted.{Contains-permutation, IsPermutation-sym}
use Rattle.union_base.specs.Both.{both_true, true_both}
use Rattle.union_base.specs.SortedLists.{is_ascending}
use Rattle.merge_laws.specs.Resolution.{DoNotMatch, AreApart, member}
use Rattle.merge_laws.proofs.Places.{Contains-head, Contains-tail, Contains-cases, All-from_members, AllPairs-first, AllPairs-none, AllPairs-rest}
use Rattle.merge_laws.proofs.Resolutions.{IsDominated-refl, IsResolution-from_apart}
use Rattle.swoosh_resolver.specs.Changes.{Fits, view_of, without}
use Rattle.swoosh_resolver.specs.Tables.{block_at, blocks_in, values_of}
use Rattle.swoosh_resolver.proofs.Places.{block-from_value, number-from_block, block-kept, closed-from_found, open-from_missed}
use Rattle.catalogue_editions.specs.Ids.{edition_cmp}
use Rattle.catalogue_editions.specs.JoinLaws.{edition_join_laws}
use Rattle.catalogue_editions.specs.Matching.{match}
use Rattle.catalogue_editions.specs.MatchLaws.{edition_match_laws}
use Rattle.catalogue_editions.specs.declared.edition.Edition.{Edition}
use Rattle.catalogue_editions.proofs.Apart.{ordered-from_sorted}
use Rattle.edition_blocks.specs.Deltas.{AreOnlyIn, IsDelta}
use Rattle.edition_blocks.proofs.BlockLaws.{Block, block-stands, value-in, in-value, number-from_match, in-view, kept-in_view, fresh-in_view}
use Rattle.edition_blocks.proofs.LookingLaws.{value_at}
use Rattle.catalogue_editions.proofs.MappedLaws.{mapped-from_member, member-from_mapped}

-- ---- lists in order

-- editions of which no two match, in order of their least contributors, strictly ascend
pub ascending-from_apart : (xs sorted : List Edition) → AreApart match xs → IsPermutation xs sorted → IsSorted edition_cmp sorted → IsTrue (is_ascending edition_cmp sorted)
ascending-from_apart xs sorted apart p up =
    (ordered-from_sorted xs xs sorted
    (IsResolution-from_apart edition_join_laws edition_match_laws xs xs (λ e c. member c) (λ e c. (e, c, IsDominated-refl edition_join_laws edition_match_laws e)) apart)
    p up).ascending

all-first : {A : Type 0} (p : A → Bool) (xs ys : List A) → list_all p (xs ++ ys) ≡ true → list_all p xs ≡ true
all-first p [] ys h = refl
all-first p (x ∷ xs) ys h =
    let parts = both_true (p x) (list_all p (xs ++ ys)) h in true_both (p x) (list_all p xs) parts.0 (all-first p xs ys parts.1)

ascending-first : (xs ys : List Edition) → is_ascending edition_cmp (xs ++ ys) ≡ true → is_ascending edition_cmp xs ≡ true
ascending-first [] ys h = refl
ascending-first (x ∷ xs) ys h =
    let parts = both_true (list_all (λ y. is_lt (edition_cmp x y)) (xs ++ ys)) (is_ascending edition_cmp (xs ++ ys)) h in
    true_both (list_all (λ y. is_lt (edition_cmp x y)) xs) (is_ascending edition_cmp xs)
    (all-first (λ y. is_lt (edition_cmp x y)) xs ys parts.0) (ascending-first xs ys parts.1)

all-each : {A : Type 0} (p : A → Bool) (xs : List A) (x : A) → list_all p xs ≡ true → Contains xs x → p x ≡ true
all-each p [] x h (k, kl, e) = absurd (omega arith)
all-each p (y ∷ ys) x h c =
    let parts = both_true (p y) (list_all p ys) h in
    elim (Contains-cases y ys x c) [ inl same ↦ ap p (sym same) ∙ parts.0 | inr later ↦ all-each p ys x parts.1 later ]

all-from : {A : Type 0} (p : A → Bool) (xs : List A) → ((x : A) → Contains xs x → p x ≡ true) → list_all p xs ≡ true
all-from p [] h = refl
all-from p (x ∷ xs) h = true_both (p x) (list_all p xs) (h x (Contains-head x xs)) (all-from p xs (λ y c. h y (Contains-tail x xs y c)))

-- what ascends goes on ascending with one that is above all its members
below-last : (xs : List Edition) (x : Edition) → is_ascending edition_cmp (xs ++ x ∷ []) ≡ true → (y : Edition) → Contains xs y → is_lt (edition_cmp y x) ≡ true
below-last [] x up y (k, kl, e) = absurd (omega arith)
below-last (z ∷ xs) x up y c =
    let parts = both_true (list_all (λ y. is_lt (edition_cmp z y)) (xs ++ x ∷ [])) (is_ascending edition_cmp (xs ++ x ∷ [])) up in
    elim (Contains-cases z xs y c) [
      | inl same ↦ subst (λ w. is_lt (edition_cmp w x) ≡ true) same
          (all-each (λ y. is_lt (edition_cmp z y)) (xs ++ x ∷ []) x parts.0 (Contains-append_right xs (x ∷ []) x (Contains-head x [])))
      | inr later ↦ below-last xs x parts.1 y later
    ]

pub ascending-last : (xs : List Edition) (x : Edition) → is_ascending edition_cmp xs ≡ true → ((y : Edition) → Contains xs y → is_lt (edition_cmp y x) ≡ true)
    → is_ascending edition_cmp (xs ++ x ∷ []) ≡ true
ascending-last [] x up below = refl
ascending-last (z ∷ xs) x up below =
    let parts = both_true (list_all (λ y. is_lt (edition_cmp z y)) xs) (is_ascending edition_cmp xs) up in
    true_both (list_all (λ y. is_lt (edition_cmp z y)) (xs ++ x ∷ [])) (is_ascending edition_cmp (xs ++ x ∷ []))
    (all-from (λ y. is_lt (edition_cmp z y)) (xs ++ x ∷ []) (λ y c. elim (Contains-append_cases xs (x ∷ []) y c) [
      | inl cx ↦ all-each (λ y. is_lt (edition_cmp z y)) xs y parts.0 cx
      | inr last ↦ elim (Contains-cases x [] y last) [
        | inl same ↦ subst (λ w. is_lt (edition_cmp z w) ≡ true) same (below z (Contains-head z xs))
        | inr (k, kl, e) ↦ absurd (omega arith)
      ]
    ]))
    (ascending-last xs x parts.1 (λ y c. below y (Contains-tail z xs y c)))

-- ---- the editions that are not among others, one after the other

pub only-none : (others : List Edition) → AreOnlyIn [] others []
only-none others = record { members = λ e. (λ (k, kl, is). absurd (omega arith), λ (c, out). c); ascending = refl }

module _ (xs others found : List Edition) (x : Edition) (so_far : AreOnlyIn xs others found) where
  pub only-skipped : Contains others x → AreOnlyIn (xs ++ x ∷ []) others found
  only-skipped there = record {
    members = λ e. (
      λ c. (let (cx, out) = (so_far.members e).0 c in (Contains-append_left xs (x ∷ []) e cx, out)),
      λ (c, out). elim (Contains-append_cases xs (x ∷ []) e c) [
        | inl cx ↦ (so_far.members e).1 (cx, out)
        | inr last ↦ elim (Contains-cases x [] e last) [
          | inl same ↦ absurd (out (subst (Contains others) same there))
          | inr (k, kl, is) ↦ absurd (omega arith)
        ]
      ],
    );
    ascending = so_far.ascending;
  }

  pub only-pushed : IsTrue (is_ascending edition_cmp (xs ++ x ∷ [])) → (Contains others x → ⊥) → AreOnlyIn (xs ++ x ∷ []) others (found ++ x ∷ [])
  only-pushed up out = record {
    members = λ e. (
      λ c. elim (Contains-append_cases found (x ∷ []) e c) [
        | inl cf ↦ (let (cx, none) = (so_far.members e).0 cf in (Contains-append_left xs (x ∷ []) e cx, none))
        | inr last ↦ elim (Contains-cases x [] e last) [
          | inl same ↦ subst (λ w. Contains (xs ++ x ∷ []) w × (Contains others w → ⊥)) same (Contains-append_right xs (x ∷ []) x (Contains-head x []), out)
          | inr (k, kl, is) ↦ absurd (omega arith)
        ]
      ],
      λ (c, none). elim (Contains-append_cases xs (x ∷ []) e c) [
        | inl cx ↦ Contains-append_left found (x ∷ []) e ((so_far.members e).1 (cx, none))
        | inr last ↦ Contains-append_right found (x ∷ []) e last
      ],
    );
    ascending = ascending-last found x so_far.ascending (λ y c. below-last xs x up y ((so_far.members y).0 c).0);
  }

-- with one more looked at
pub seen-more : (xs : List (Bor Edition)) (i : ℕ) (d : Bor Edition) → i < length xs → map (λ e. e.now) (take (i + 1) xs) ≡ map (λ e. e.now) (take i xs) ++ (get_or xs i d).now ∷ []
seen-more xs i d il = ap (map (λ (e : Bor Edition). e.now)) (take_more xs i d il) ∙ map-append (λ (e : Bor Edition). e.now) (take i xs) (get_or xs i d ∷ [])

-- what was looked at ascends
pub ascending-seen : (xs : List (Bor Edition)) (i : ℕ) → IsTrue (is_ascending edition_cmp (map (λ e. e.now) xs)) → IsTrue (is_ascending edition_cmp (map (λ e. e.now) (take i xs)))
ascending-seen xs i up =
    ascending-first (map (λ (e : Bor Edition). e.now) (take i xs)) (map (λ (e : Bor Edition). e.now) (drop i xs))
    (ap (is_ascending edition_cmp) (sym (map-append (λ (e : Bor Edition). e.now) (take i xs) (drop i xs)) ∙ ap (map (λ (e : Bor Edition). e.now)) (take-append-drop i xs)) ∙ up)

-- ---- the editions before and after a change of blocks

pairs-across : {A : Type 0} (R : A → A → Type 0) (xs ys : List A) → AllPairs R (xs ++ ys) → (x y : A) → Contains xs x → Contains ys y → R x y
pairs-across R [] ys all x y (k, kl, e) cy = absurd (omega arith)
pairs-across R (z ∷ xs) ys all x y cx cy =
    elim (Contains-cases z xs x cx) [
      | inl same ↦ subst (λ w. R w y) same (AllPairs-first R z (xs ++ ys) all y (Contains-append_right xs ys y cy))
      | inr later ↦ pairs-across R xs ys (AllPairs-rest R z (xs ++ ys) all) x y later cy
    ]

pairs-last : {A : Type 0} (R : A → A → Type 0) (xs ys : List A) → AllPairs R (xs ++ ys) → AllPairs R ys
pairs-last R [] ys all = all
pairs-last R (x ∷ xs) ys all = pairs-last R xs ys (AllPairs-rest R x (xs ++ ys) all)

module _ (blocks : List (Option Block)) (closed : List ℕ) (opened : List Block) (apart : AreApart match (values_of (blocks_in blocks))) (fits : Fits match blocks closed opened) where
  abbrev before : List Edition
  before = values_of (blocks_in blocks)

  abbrev after : List Edition
  after = view_of blocks closed opened

  abbrev left : List Edition
  left = filter_map (value_at blocks) closed

  abbrev kept : List Edition
  kept = values_of (blocks_in (without blocks closed))

  abbrev come : List Edition
  come = values_of opened

  whole : after ≡ kept ++ come
  whole = map-append (λ (b : Block). b.value) (blocks_in (without blocks closed)) opened

  -- the editions that leave do not match
  left-apart_from : (numbers : List ℕ) → AllPairs (λ m n. m ≢ n) numbers → AreApart match (filter_map (value_at blocks) numbers)
  left-apart_from [] once = AllPairs-none (DoNotMatch match)
  left-apart_from (n ∷ numbers) once =
      let rest = left-apart_from numbers (AllPairs-rest (λ m n. m ≢ n) n numbers once) in
      let later = filter_map (value_at blocks) numbers in
      elim (value_at blocks n) as (λ o. value_at blocks n ≡ o → AllPairs (DoNotMatch match) (cons_option o later)) [
        | Some x ↦ λ is. AllPairs-cons (DoNotMatch match) x later
            (All-from_members (DoNotMatch match x) later (λ y c.
            let (m, cm, at) = member-from_mapped (value_at blocks) numbers y c in
            let (e, stands, value) = block-from_value (block_at blocks n) x (sym is) in
            let (f, there, other) = block-from_value (block_at blocks m) y (sym at) in
            let never : n ≢ m = AllPairs-first (λ m n. m ≢ n) n numbers once m cm in (
              λ matches. never (number-from_match blocks apart n m e f stands there (ap (λ v. match v f.value) (sym value) ∙ ap (match x) (sym other) ∙ matches)),
              λ matches. never (sym (number-from_match blocks apart m n f e there stands (ap (λ v. match v e.value) (sym other) ∙ ap (match y) (sym value) ∙ matches))),
            )))
            rest
        | None ↦ λ is. rest
      ] refl

  pub left-apart : AreApart match left
  left-apart = left-apart_from closed fits.distinct

  pub come-apart : AreApart match come
  come-apart = pairs-last (DoNotMatch match) kept come (subst (AreApart match) whole fits.apart)

  is-closed : (n : ℕ) → Contains closed n ⊎ (Contains closed n → ⊥)
  is-closed n =
      elim (list_any (λ y. eqb y n) closed) as (λ b. list_any (λ y. eqb y n) closed ≡ b → Contains closed n ⊎ (Contains closed n → ⊥)) [
        | true ↦ λ is. inl (closed-from_found closed n is)
        | false ↦ λ is. inr (open-from_missed closed n is)
      ] refl

  -- one that stood leaves or is kept
  stood : (e : Edition) → Contains before e → Contains left e ⊎ ((n : ℕ) × (b : Block) × (block_at blocks n ≡ Some b) × (Contains closed n → ⊥) × (b.value ≡ e))
  stood e c =
      let (b, cb, value) = in-value (blocks_in blocks) e c in
      let (n, at) = number-from_block blocks b cb in
      elim (is-closed n) [
        | inl there ↦ inl (mapped-from_member (value_at blocks) closed n e there (ap (option_map (λ (b : Block). b.value)) at ∙ ap Some value))
        | inr open' ↦ inr (n, b, at, open', value)
      ]

  left-stood : (e : Edition) → Contains left e → (n : ℕ) × (b : Block) × Contains closed n × (block_at blocks n ≡ Some b) × (e ≡ b.value)
  left-stood e c =
      let (n, cn, at) = member-from_mapped (value_at blocks) closed e c in
      let (b, stands, value) = block-from_value (block_at blocks n) e (sym at) in
      (n, b, cn, stands, value)

  stood-left : (e : Edition) → Contains left e → Contains before e
  stood-left e c =
      let (n, b, cn, stands, value) = left-stood e c in
      subst (Contains before) (sym value) (value-in (blocks_in blocks) b (block-stands blocks n b stands))

  -- a kept edition is none that leaves
  kept-stays : (e : Edition) (n : ℕ) (b : Block) → block_at blocks n ≡ Some b → (Contains closed n → ⊥) → b.value ≡ e → Contains left e → ⊥
  kept-stays e n b at open' value c =
      let (m, f, cm, at', value') = left-stood e c in
      open' (subst (Contains closed) (number-from_match blocks apart m n f b at' at (subst (λ v. IsTrue (match f.value v)) (sym value' ∙ sym value) (edition_match_laws.reflexive f.value))) cm)

  -- nor one that comes
  kept-is_old : (e : Edition) (n : ℕ) (b : Block) → block_at blocks n ≡ Some b → (Contains closed n → ⊥) → b.value ≡ e → Contains come e → ⊥
  kept-is_old e n b at open' value c =
      let parts : AreApart match (kept ++ come) = subst (AreApart match) whole fits.apart in
      let stays : Contains kept e = subst (Contains kept) value
      (value-in (blocks_in (without blocks closed)) b (block-stands (without blocks closed) n b (block-kept closed blocks n open' ∙ at))) in
      (pairs-across (DoNotMatch match) kept come parts e e stays c).0 (edition_match_laws.reflexive e)

  pub closed-only : (found one other : List Edition) → IsPermutation left one → IsPermutation come other → AreOnlyIn one other found → AreOnlyIn before after found
  closed-only found one other p q only = record {
    members = λ e. (
      λ c. (let (co, out) = (only.members e).0 c in
          let cl = Contains-permutation one left e (IsPermutation-sym left one p) co in
          let none : Contains come e → ⊥ = λ cc'. out (Contains-permutation come other e q cc') in (
            stood-left e cl,
            λ ca. elim (in-view blocks closed opened e ca) [
              | inl (n, b, at, open', value) ↦ kept-stays e n b at open' value cl
              | inr (b, cb, value) ↦ none (subst (Contains come) value (value-in opened b cb))
            ],
          )),
      λ (cb, out). (only.members e).1 (
        elim (stood e cb) [
          | inl cl ↦ Contains-permutation left one e p cl
          | inr (n, b, at, open', value) ↦ absurd (out (subst (Contains after) value (kept-in_view blocks closed opened n b at open')))
        ],
        λ co. (let (b, cb', value) = in-value opened e (Contains-permutation other come e (IsPermutation-sym come other q) co) in
            out (subst (Contains after) value (fresh-in_view blocks closed opened b cb'))),
      ),
    );
    ascending = only.ascending;
  }

  pub opened-only : (found one other : List Edition) → IsPermutation come one → IsPermutation left other → AreOnlyIn one other found → AreOnlyIn after before found
  opened-only found one other p q only = record {
    members = λ e. (
      λ c. (let (co, out) = (only.members e).0 c in
          let cf = Contains-permutation one come e (IsPermutation-sym come one p) co in
          let (b, cb, value) = in-value opened e cf in (
            subst (Contains after) value (fresh-in_view blocks closed opened b cb),
            λ cbefore. elim (stood e cbefore) [
              | inl cl ↦ out (Contains-permutation left other e q cl)
              | inr (n, b, at, open', value) ↦ kept-is_old e n b at open' value cf
            ],
          )),
      λ (ca, out). (only.members e).1 (
        elim (in-view blocks closed opened e ca) [
          | inl (n, b, at, open', value) ↦ absurd (out (subst (Contains before) value (value-in (blocks_in blocks) b (block-stands blocks n b at))))
          | inr (b, cb, value) ↦ Contains-permutation come one e p (subst (Contains come) value (value-in opened b cb))
        ],
        λ co. out (stood-left e (Contains-permutation other left e (IsPermutation-sym left other q) co)),
      ),
    );
    ascending = only.ascending;
  }

  -- the editions that leave, and those that come, in order
  pub left-rises : (found sorted : List Edition) → found ≡ left → IsPermutation found sorted → IsSorted edition_cmp sorted → IsTrue (is_ascending edition_cmp sorted)
  left-rises found sorted is p up = ascending-from_apart left sorted left-apart (subst (λ list. IsPermutation list sorted) is p) up

  pub come-rises : (found sorted : List Edition) → found ≡ come → IsPermutation found sorted → IsSorted edition_cmp sorted → IsTrue (is_ascending edition_cmp sorted)
  come-rises found sorted is p up = ascending-from_apart come sorted come-apart (subst (λ list. IsPermutation list sorted) is p) up

  pub delta-told : (found found' sorted sorted' gone fresh : List Edition) → found ≡ left → found' ≡ come → IsPermutation found sorted → IsPermutation found' sorted'
      → AreOnlyIn sorted sorted' gone → AreOnlyIn sorted' sorted fresh → IsDelta before after gone fresh
  delta-told found found' sorted sorted' gone fresh is is' p p' one two =
      let q = subst (λ list. IsPermutation list sorted) is p in
      let q' = subst (λ list. IsPermutation list sorted') is' p' in
      record { closed = closed-only gone sorted sorted' q q' one; opened = opened-only fresh sorted' sorted q' q two }

-- a delta does not ask for the order of the lists
pub delta-permutation : (before before' after after' closed opened : List Edition) → IsPermutation before before' → IsPermutation after after' → IsDelta before after closed opened → IsDelta before' after' closed opened
delta-permutation before before' after after' closed opened p q d = record {
  closed = moved before before' after after' closed p q d.closed;
  opened = moved after after' before before' opened q p d.opened;
}
  where
    moved : (one one' other other' found : List Edition) → IsPermutation one one' → IsPermutation other other' → AreOnlyIn one other found → AreOnlyIn one' other' found
    moved one one' other other' found p q only = record {
      members = λ e. (
        λ c. (let (co, out) = (only.members e).0 c in
            (Contains-permutation one one' e p co, λ there. out (Contains-permutation other' other e (IsPermutation-sym other other' q) there))),
        λ (c, out). (only.members e).1 (Contains-permutation one' one e (IsPermutation-sym one one' p) c, λ there. out (Contains-permutation other other' e q there)),
      );
      ascending = only.ascending;
    }
