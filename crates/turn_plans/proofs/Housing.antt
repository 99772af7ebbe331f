-- Which member of a view has a contributor.
use Rattle.std.proofs.Common.{◌≡◌, ℕ, Bool, true, false, ◌||◌, ◌+◌, ◌<◌, List, [], ◌∷◌, ◌++◌, length, get_or, take, refl, sym, ap, ◌∙◌}
use Rattle.std.specs.Prelude.{Option, Some, None, filter_map}
use Rattle.std.specs.List.{list_any, cons_option}
use Rattle.std.proofs.lemmas.List.{take_more}
use Rattle.std.proofs.lemmas.List.Elements.{filter_map-append}
use Rattle.union_base.specs.declared.record_id.RecordId.{RecordId}
use Rattle.swoosh_resolver.specs.Changes.{without, view_of}
use Rattle.swoosh_resolver.specs.Tables.{block_at, blocks_in, values_of}
use Rattle.swoosh_resolver.proofs.Places.{number-from_block, block-from_open}
use Rattle.turn_plans.specs.Histories.{MapOf, at_id}
use Rattle.turn_plans.specs.Homes.{Block, AreHoused}
use Rattle.catalogue_editions.specs.Ids.{has_contributor}
use Rattle.catalogue_editions.specs.declared.edition.Edition.{Edition}
use Rattle.record_homes.specs.declared.home.Home.{Home}
use Rattle.turn_plans.proofs.Contributors.{member-from_any}

pub false-from_never : (b : Bool) → (b ≡ true → ⊥) → b ≡ false
false-from_never true never = absurd (never refl)
false-from_never false never = refl

pub same-some : {A : Type 0} (o : Option A) (x y : A) → o ≡ Some x → o ≡ Some y → x ≡ y
same-some {A = A} o x y p q = let both : ◌≡◌ {A = Option A} (Some x) (Some y) = sym p ∙ q in cc

module _ {blocks : List (Option Block)} {homes : MapOf Home} (housed : AreHoused blocks homes) (closed : List ℕ) (id : RecordId) where
  pub kept-found : (home : Home) (e : Block) → at_id homes id ≡ Some home → block_at (without blocks closed) home.block ≡ Some e → has_contributor id e.value ≡ true
  kept-found home e at stands =
      let (f, there, has) = housed.each id home at in
      ap (λ (b : Block). has_contributor id b.value) (same-some (block_at blocks home.block) e f (block-from_open closed blocks home.block e stands) there) ∙ has

  pub kept-none : ((home : Home) → at_id homes id ≡ Some home → block_at (without blocks closed) home.block ≡ None)
      → list_any (λ e. has_contributor id e.value) (blocks_in (without blocks closed)) ≡ false
  kept-none none =
      false-from_never (list_any (λ e. has_contributor id e.value) (blocks_in (without blocks closed)))
      (λ some.
      let (e, c, has) = member-from_any (λ (e : Block). has_contributor id e.value) (blocks_in (without blocks closed)) some in
      let (n, stands) = number-from_block (without blocks closed) e c in
      let (home, at, is) = housed.only n e id (block-from_open closed blocks n e stands) has in
      let gone : block_at (without blocks closed) n ≡ None = sym (ap (block_at (without blocks closed)) is) ∙ none home at in
      let clash : ◌≡◌ {A = Option Block} (Some e) None = sym stands ∙ gone in
      cc)

any-values : (test : Edition → Bool) (xs ys : List Block) → list_any test (values_of (xs ++ ys)) ≡ (list_any (λ e. test e.value) xs || list_any (λ e. test e.value) ys)
any-values test [] ys = any-mapped ys
  where
    any-mapped : (ys : List Block) → list_any test (values_of ys) ≡ list_any (λ e. test e.value) ys
    any-mapped [] = refl
    any-mapped (y ∷ ys) = ap (λ b. test y.value || b) (any-mapped ys)
any-values test (x ∷ xs) ys =
    elim (test x.value) as (λ b. (b || list_any test (values_of (xs ++ ys))) ≡ ((b || list_any (λ e. test e.value) xs) || list_any (λ e. test e.value) ys)) [ true ↦ refl | false ↦ any-values test xs ys ]

-- none of the view, where none that is kept, and none that is opened
pub view-none : (blocks : List (Option Block)) (closed : List ℕ) (opened : List Block) (test : Edition → Bool) → list_any (λ e. test e.value) (blocks_in (without blocks closed)) ≡ false
    → list_any (λ e. test e.value) opened ≡ false → list_any test (view_of blocks closed opened) ≡ false
view-none blocks closed opened test p q = any-values test (blocks_in (without blocks closed)) opened ∙ ap (λ b. b || list_any (λ e. test e.value) opened) p ∙ q

-- what a function finds in the first of some values, one by one
pub mapped-next : {A B : Type 0} (f : A → Option B) (xs : List A) (i : ℕ) (x : A) → i < length xs → x ≡ get_or xs i x → (found next : List B) → found ≡ filter_map f (take i xs)
    → (o : Option B) → f x ≡ o → next ≡ found ++ cons_option o [] → next ≡ filter_map f (take (i + 1) xs)
mapped-next {A = A} f xs i x below is found next so_far o value pushed =
    pushed ∙ ap (λ es. es ++ cons_option o []) so_far
    ∙ ap (λ o. filter_map f (take i xs) ++ cons_option o []) (sym value)
    ∙ sym (filter_map-append f (take i xs) (x ∷ []))
    ∙ ap (λ (y : A). filter_map f (take i xs ++ y ∷ [])) is
    ∙ sym (ap (filter_map f) (take_more xs i x below))
