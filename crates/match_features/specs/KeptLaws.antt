-- Sets of lists, and unions of lists that are kept, are kept.
use Rattle.std.proofs.Common.{◌≡◌, ℕ, true, ◌&&◌, IsTrue, List, [], ◌∷◌, refl}
use Rattle.std.specs.declared.cmp.Ordering.{Ordering}
use Rattle.std.specs.declared.cmp.Ordering.TheVariants.{Less, Equal, Greater}
use Rattle.std.specs.Ordering.{match_ordering}
use Rattle.std.specs.Cmp.{IsTotalOrder}
use Rattle.std.specs.Cmp.Lexicographic.{nat_list_cmp_total}
use Rattle.std.specs.FinMap.{IsAntisymmetric}
use Rattle.std.specs.Cmp.Rules.{comparing}
use Rattle.std.proofs.Common.{rules}
use Rattle.union_base.specs.Both.{both_true, true_both}
use Rattle.union_base.specs.SortedLists.{is_ascending, put, union, set_of}
use Rattle.union_base.specs.Ties.{texts_apart, pairs_apart}
use Rattle.union_base.proofs.SortedListLaws.{is_ascending-union}
use Rattle.match_features.specs.Kept.{texts_cmp, pairs_cmp, has_some, are_features}

-- pairs of texts are in a total order
pub pairs_total : IsTotalOrder pairs_cmp
pairs_total = search (comparing, rules)

-- pairs of texts that compare equal are one
pub pairs_tie : IsAntisymmetric pairs_cmp
pairs_tie = pairs_apart texts_apart texts_apart

-- the parts of what is kept
pub record AreKept (a : List (List ℕ × List ℕ)) (b c d e f g : List (List ℕ)) : Type 0 where
  pub some : has_some a ≡ true
  pub control : is_ascending pairs_cmp a ≡ true
  pub types : is_ascending texts_cmp b ≡ true
  pub isbns : is_ascending texts_cmp c ≡ true
  pub issns : is_ascending texts_cmp d ≡ true
  pub titles : is_ascending texts_cmp e ≡ true
  pub dates : is_ascending texts_cmp f ≡ true
  pub names : is_ascending texts_cmp g ≡ true

module _ (control : List (List ℕ × List ℕ)) (types isbns issns titles dates names : List (List ℕ)) where
  -- what seven lists that are features are, one by one
  pub kept_parts : IsTrue (are_features control types isbns issns titles dates names) → AreKept control types isbns issns titles dates names
  kept_parts kept =
      let first = both_true _ _ kept in
      let pairs = both_true (has_some control) (is_ascending pairs_cmp control) first.0 in
      let rest = both_true (is_ascending texts_cmp types && (is_ascending texts_cmp isbns && is_ascending texts_cmp issns)) _ first.1 in
      let two = both_true (is_ascending texts_cmp types) _ rest.0 in
      let numbers = both_true (is_ascending texts_cmp isbns) (is_ascending texts_cmp issns) two.1 in
      let three = both_true (is_ascending texts_cmp titles) _ rest.1 in
      let last = both_true (is_ascending texts_cmp dates) (is_ascending texts_cmp names) three.1 in
      record { some = pairs.0; control = pairs.1; types = two.0; isbns = numbers.0; issns = numbers.1; titles = three.0; dates = last.0; names = last.1 }

  -- seven such lists are features
  pub kept_whole : AreKept control types isbns issns titles dates names → IsTrue (are_features control types isbns issns titles dates names)
  kept_whole parts =
      true_both _ _ (true_both _ _ parts.some parts.control)
      (true_both _ _ (true_both _ _ parts.types (true_both _ _ parts.isbns parts.issns)) (true_both _ _ parts.titles (true_both _ _ parts.dates parts.names)))

module _ {K : Type 0} (R : K → K → Ordering) where
  has_some-put : (y : K) (xs : List K) → has_some (put R y xs) ≡ true
  has_some-put y [] = refl
  has_some-put y (x ∷ xs) = elim (R y x) as (λ r. has_some (match_ordering r (y ∷ x ∷ xs) (x ∷ xs) (x ∷ put R y xs)) ≡ true) [ Less ↦ refl | Equal ↦ refl | Greater ↦ refl ]

  has_some-union : (xs ys : List K) → has_some xs ≡ true → has_some (union R xs ys) ≡ true
  has_some-union xs [] h = h
  has_some-union xs (y ∷ ys) h = has_some-put y (union R xs ys)

  has_some-set : (xs : List K) → has_some xs ≡ true → has_some (set_of R xs) ≡ true
  has_some-set [] h = h
  has_some-set (x ∷ xs) h = has_some-put x (set_of R xs)

-- the sets of seven lists are features, where there is a control pair
pub kept_sets : (control : List (List ℕ × List ℕ)) (types isbns issns titles dates names : List (List ℕ)) → has_some control ≡ true
    → IsTrue (are_features (set_of pairs_cmp control) (set_of texts_cmp types) (set_of texts_cmp isbns) (set_of texts_cmp issns) (set_of texts_cmp titles) (set_of texts_cmp dates) (set_of texts_cmp names))
kept_sets control types isbns issns titles dates names some =
    kept_whole (set_of pairs_cmp control) (set_of texts_cmp types) (set_of texts_cmp isbns) (set_of texts_cmp issns) (set_of texts_cmp titles) (set_of texts_cmp dates) (set_of texts_cmp names) (record {
      some = has_some-set pairs_cmp control some;
      control = is_ascending-union pairs_total [] control refl;
      types = is_ascending-union nat_list_cmp_total [] types refl;
      isbns = is_ascending-union nat_list_cmp_total [] isbns refl;
      issns = is_ascending-union nat_list_cmp_total [] issns refl;
      titles = is_ascending-union nat_list_cmp_total [] titles refl;
      dates = is_ascending-union nat_list_cmp_total [] dates refl;
      names = is_ascending-union nat_list_cmp_total [] names refl;
    })

-- the unions of features, list by list, are features
pub kept_unions : (a b : List (List ℕ × List ℕ)) (c d e f g h i j k l m n : List (List ℕ)) → IsTrue (are_features a c e g i k m)
    → IsTrue (are_features (union pairs_cmp a b) (union texts_cmp c d) (union texts_cmp e f) (union texts_cmp g h) (union texts_cmp i j) (union texts_cmp k l) (union texts_cmp m n))
kept_unions a b c d e f g h i j k l m n kept =
    let parts = kept_parts a c e g i k m kept in
    kept_whole (union pairs_cmp a b) (union texts_cmp c d) (union texts_cmp e f) (union texts_cmp g h) (union texts_cmp i j) (union texts_cmp k l) (union texts_cmp m n) (record {
      some = has_some-union pairs_cmp a b parts.some;
      control = is_ascending-union pairs_total a b parts.control;
      types = is_ascending-union nat_list_cmp_total c d parts.types;
      isbns = is_ascending-union nat_list_cmp_total e f parts.isbns;
      issns = is_ascending-union nat_list_cmp_total g h parts.issns;
      titles = is_ascending-union nat_list_cmp_total i j parts.titles;
      dates = is_ascending-union nat_list_cmp_total k l parts.dates;
      names = is_ascending-union nat_list_cmp_total m n parts.names;
    })
