-- Editions that do not match have no contributor in common, so a resolution in order of the least contributors is one list.
use Rattle.std.proofs.Common.{◌≡◌, ◌≢◌, Bool, true, false, ◌&&◌, IsTrue, List, [], ◌∷◌, length, get_or, Contains, AllPairs, refl, sym, ap, subst, ◌∙◌, inl, inr, arith}
use Rattle.std.specs.Prelude.{nat_le}
use Rattle.std.specs.declared.cmp.Ordering.{Ordering}
use Rattle.std.specs.declared.cmp.Ordering.TheVariants.{Less, Equal, Greater}
use Rattle.std.specs.Ordering.{is_lt, ordering_reverse}
use Rattle.std.specs.List.{list_all, AllByRecursion}
use Rattle.std.specs.List.Sorted.{IsPermutation, IsSorted, IsStrictlySortedBy}
use Rattle.std.proofs.lemmas.List.MinMax.{ranks_by}
use Rattle.std.proofs.lemmas.List.Sorted.{sorted_far}
use Rattle.union_base.specs.Both.{both_true, true_both}
use Rattle.union_base.specs.SortedLists.{is_ascending, has}
use Rattle.union_base.specs.declared.record_id.RecordId.{RecordId}
use Rattle.union_base.specs.FieldOrder.{field_cmp}
use Rattle.union_base.specs.IdLaws.{ids_apart}
use Rattle.merge_laws.specs.Resolution.{IsResolution}
use Rattle.merge_laws.proofs.Places.{Contains-head, Contains-tail, Contains-cases, AllPairs-first, AllPairs-rest}
use Rattle.merge_laws.proofs.Resolutions.{apart-from_resolution, IsPermutation-from_resolutions, IsResolution-permutation}
use Rattle.merge_laws.proofs.Sorted.{same-from_permutation}
use Rattle.match_features.specs.Kept.{pairs_cmp}
use Rattle.match_features.specs.KeptLaws.{pairs_total, pairs_tie}
use Rattle.match_features.specs.Meeting.{meet_by_isbn, meet_by_issn, meet_by_title}
use Rattle.match_features.proofs.MemberLaws.{member-from_has, common-from_member, or_left}
use Rattle.union_base.specs.RecordIds.{id_cmp}
use Rattle.field_merge.specs.KeptLaws.{id_total}
use Rattle.catalogue_editions.specs.Linked.{own_pair}
use Rattle.catalogue_editions.specs.Ids.{first_id, least, edition_cmp}
use Rattle.catalogue_editions.specs.Joining.{join}
use Rattle.catalogue_editions.specs.JoinLaws.{edition_join_laws}
use Rattle.catalogue_editions.specs.Matching.{match}
use Rattle.catalogue_editions.specs.MatchLaws.{edition_match_laws}
use Rattle.catalogue_editions.specs.Resolutions.{IsOrderedResolution}
use Rattle.catalogue_editions.specs.declared.edition.Edition.{Edition}

-- ---- contributors

-- what holds of all values of a list holds of each
each-from_all : {K : Type 0} (p : K → Bool) (xs : List K) → list_all p xs ≡ true → (x : K) → Contains xs x → p x ≡ true
each-from_all p [] all x (k, kl, e) = absurd (omega arith)
each-from_all p (y ∷ ys) all x c =
    let parts = both_true (p y) (list_all p ys) all in
    elim (Contains-cases y ys x c) [
      | inl same ↦ ap p (sym same) ∙ parts.0
      | inr later ↦ each-from_all p ys parts.1 x later
    ]

all-from_each : {K : Type 0} (p : K → Bool) (xs : List K) → ((x : K) → Contains xs x → p x ≡ true) → list_all p xs ≡ true
all-from_each p [] each = refl
all-from_each p (x ∷ xs) each =
    true_both (p x) (list_all p xs) (each x (Contains-head x xs)) (all-from_each p xs (λ y c. each y (Contains-tail x xs y c)))

-- an edition has the own pair of each of its contributors
own-pair_of : (e : Edition) (id : RecordId) → Contains e.content.contributors id → Contains e.features.control (own_pair id)
own-pair_of e id c =
    member-from_has pairs_total pairs_tie e.features.control (own_pair id)
    (each-from_all (λ i. has pairs_cmp e.features.control (own_pair i)) e.content.contributors e.linked id c)

pub match-from_contributor : (x y : Edition) (id : RecordId) → Contains x.content.contributors id → Contains y.content.contributors id → IsTrue (match x y)
match-from_contributor x y id p q =
    or_left _ (meet_by_title x.features y.features) (or_left _ (meet_by_issn x.features y.features) (or_left _ (meet_by_isbn x.features y.features)
    (common-from_member pairs_total pairs_tie x.features.control y.features.control (own_pair id) (own-pair_of x id p) (own-pair_of y id q))))

first-stands : (ids : List RecordId) → nat_le 1 (length ids) ≡ true → Contains ids (first_id ids)
first-stands [] some = cc
first-stands (id ∷ ids) some = Contains-head id ids

-- the least contributor is one
pub least-stands : (e : Edition) → Contains e.content.contributors (least e)
least-stands e =
    first-stands e.content.contributors
    (both_true (nat_le 1 (length e.content.contributors)) (is_ascending id_cmp e.content.contributors && is_ascending field_cmp e.content.united) e.content.kept).0

pub match-from_least : (x y : Edition) → least x ≡ least y → IsTrue (match x y)
match-from_least x y same =
    match-from_contributor x y (least y) (subst (Contains x.content.contributors) same (least-stands x)) (least-stands y)

pub least-apart : (x y : Edition) → match x y ≡ false → least x ≢ least y
least-apart x y apart same = let clash : true ≡ false = sym (match-from_least x y same) ∙ apart in cc

-- ---- order

module _ {A : Type 0} (cmp : A → A → Ordering) where
  ascending-from_pairs : (xs : List A) → AllPairs (λ x y. cmp x y ≡ Less) xs → is_ascending cmp xs ≡ true
  ascending-from_pairs [] all = refl
  ascending-from_pairs (x ∷ xs) all =
      true_both (list_all (λ y. is_lt (cmp x y)) xs) (is_ascending cmp xs)
      (all-from_each (λ y. is_lt (cmp x y)) xs (λ y c. ap is_lt (AllPairs-first (λ x y. cmp x y ≡ Less) x xs all y c)))
      (ascending-from_pairs xs (AllPairs-rest (λ x y. cmp x y ≡ Less) x xs all))

  less-from_is_lt : (r : Ordering) → is_lt r ≡ true → r ≡ Less
  less-from_is_lt Less h = refl
  less-from_is_lt Equal h = cc
  less-from_is_lt Greater h = cc

  below-each : (x : A) (ys : List A) → list_all (λ y. is_lt (cmp x y)) ys ≡ true → AllByRecursion (λ y. cmp x y ≡ Less) ys
  below-each x [] h = tt
  below-each x (y ∷ ys) h =
      let parts = both_true (is_lt (cmp x y)) (list_all (λ y. is_lt (cmp x y)) ys) h in
      (less-from_is_lt (cmp x y) parts.0, below-each x ys parts.1)

  strictly-sorted : (xs : List A) → is_ascending cmp xs ≡ true → IsStrictlySortedBy cmp xs
  unfolding IsStrictlySortedBy
  strictly-sorted [] h = tt
  strictly-sorted (x ∷ xs) h =
      let parts = both_true (list_all (λ y. is_lt (cmp x y)) xs) (is_ascending cmp xs) h in
      (below-each x xs parts.0, strictly-sorted xs parts.1)

-- what is not below, and does not tie, is above
less-from_not : (r s : Ordering) → s ≡ ordering_reverse r → is_lt r ≡ false → (s ≡ Equal → ⊥) → s ≡ Less
less-from_not Less s e h never = cc
less-from_not Equal s e h never = absurd (never e)
less-from_not Greater s e h never = e

one-way : (x y : Edition) → edition_cmp x y ≡ Less → edition_cmp y x ≡ Less → ⊥
one-way x y p q =
    let clash : Less ≡ Greater = sym p ∙ id_total.antisymm (least x) (least y) ∙ ap ordering_reverse q in cc

pub ordered-from_sorted : (list resolution sorted : List Edition) → IsResolution match join list resolution → IsPermutation resolution sorted
    → IsSorted edition_cmp sorted → IsOrderedResolution list sorted
ordered-from_sorted list resolution sorted r p up =
    let resolved : IsResolution match join list sorted = IsResolution-permutation edition_join_laws edition_match_laws list resolution sorted p r in
    let apart = apart-from_resolution edition_join_laws edition_match_laws list sorted resolved in
    record {
      resolved = resolved;
      ascending = ascending-from_pairs edition_cmp sorted (λ i j d ij jl.
          let x = get_or sorted i d in
          let y = get_or sorted j d in
          less-from_not (edition_cmp y x) (edition_cmp x y) (id_total.antisymm (least x) (least y))
          (sorted_far (λ a b. is_lt (edition_cmp a b)) (ranks_by id_total least) sorted up i j d (omega arith) jl)
          (λ tie. (apart i j d ij jl).0 (match-from_least x y (ids_apart (least x) (least y) tie))));
    }

pub one-ordered : (list one other : List Edition) → IsOrderedResolution list one → IsOrderedResolution list other → one ≡ other
one-ordered list one other p q =
    same-from_permutation edition_cmp one-way one other
    (IsPermutation-from_resolutions edition_join_laws edition_match_laws list one other p.resolved q.resolved)
    (strictly-sorted edition_cmp one p.ascending) (strictly-sorted edition_cmp other q.ascending)
