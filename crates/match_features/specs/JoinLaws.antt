-- The union of features is idempotent, commutative and associative.
use Rattle.std.proofs.Common.{◌≡◌, ℕ, true, IsTrue, List}
use mathlib.Core.HLevel.{Σ_prop_path}
use Rattle.std.proofs.Math.Bool.{Bool-set}
use Rattle.std.specs.Cmp.Lexicographic.{nat_list_cmp_total}
use Rattle.union_base.specs.Ties.{texts_apart}
use Rattle.union_base.specs.SortedLists.{union, is_ascending}
use Rattle.union_base.proofs.SortedListLaws.{union-idempotent, union-commutative, union-associative}
use Rattle.merge_laws.specs.Resolution.{JoinLaws}
use Rattle.match_features.specs.declared.features.Features.{Features}
use Rattle.match_features.specs.Kept.{texts_cmp, are_features}
use Rattle.match_features.specs.KeptLaws.{AreKept, kept_parts, pairs_total, pairs_tie}
use Rattle.match_features.specs.Joining.{join}

-- the lists of two features are the same
pub record Alike (x y : Features) : Type 0 where
  pub control : x.control ≡ y.control
  pub types : x.types ≡ y.types
  pub isbns : x.isbns ≡ y.isbns
  pub issns : x.issns ≡ y.issns
  pub titles : x.titles ≡ y.titles
  pub dates : x.dates ≡ y.dates
  pub names : x.names ≡ y.names

-- what features are is what their lists are
pub same_features : (x y : Features) → Alike x y → x ≡ y
same_features x y e =
    let pairs : ◌≡◌ {A = (d : (List (List ℕ × List ℕ) × List (List ℕ) × List (List ℕ) × List (List ℕ) × List (List ℕ) × List (List ℕ) × List (List ℕ))) × IsTrue (are_features d.0 d.1 d.2 d.3 d.4 d.5 d.6)}
    ((x.control, x.types, x.isbns, x.issns, x.titles, x.dates, x.names), x.kept) ((y.control, y.types, y.isbns, y.issns, y.titles, y.dates, y.names), y.kept) =
    Σ_prop_path (λ d. Bool-set (are_features d.0 d.1 d.2 d.3 d.4 d.5 d.6) true)
    (λ i. (e.control i, e.types i, e.isbns i, e.issns i, e.titles i, e.dates i, e.names i)) in
    λ i. record {
      control = (pairs i).0.0;
      types = (pairs i).0.1;
      isbns = (pairs i).0.2;
      issns = (pairs i).0.3;
      titles = (pairs i).0.4;
      dates = (pairs i).0.5;
      names = (pairs i).0.6;
      kept = (pairs i).1;
    }

-- what the lists of features are: each ascends, and there is a control pair
pub parts : (x : Features) → AreKept x.control x.types x.isbns x.issns x.titles x.dates x.names
parts x = kept_parts x.control x.types x.isbns x.issns x.titles x.dates x.names x.kept

texts_once : (xs : List (List ℕ)) → is_ascending texts_cmp xs ≡ true → union texts_cmp xs xs ≡ xs
texts_once = union-idempotent nat_list_cmp_total texts_apart

texts_swap : (xs ys : List (List ℕ)) → is_ascending texts_cmp xs ≡ true → is_ascending texts_cmp ys ≡ true → union texts_cmp xs ys ≡ union texts_cmp ys xs
texts_swap = union-commutative nat_list_cmp_total texts_apart

texts_regroup : (xs ys zs : List (List ℕ)) → is_ascending texts_cmp xs ≡ true → union texts_cmp (union texts_cmp xs ys) zs ≡ union texts_cmp xs (union texts_cmp ys zs)
texts_regroup = union-associative nat_list_cmp_total texts_apart

-- to merge features is idempotent, commutative and associative
pub features_join_laws : JoinLaws join
features_join_laws = record {
  idempotent = λ x.
      let a = parts x in
      same_features (join x x) x (record {
        control = union-idempotent pairs_total pairs_tie x.control a.control;
        types = texts_once x.types a.types;
        isbns = texts_once x.isbns a.isbns;
        issns = texts_once x.issns a.issns;
        titles = texts_once x.titles a.titles;
        dates = texts_once x.dates a.dates;
        names = texts_once x.names a.names;
      });
  commutative = λ x y.
      let a = parts x in
      let b = parts y in
      same_features (join x y) (join y x) (record {
        control = union-commutative pairs_total pairs_tie x.control y.control a.control b.control;
        types = texts_swap x.types y.types a.types b.types;
        isbns = texts_swap x.isbns y.isbns a.isbns b.isbns;
        issns = texts_swap x.issns y.issns a.issns b.issns;
        titles = texts_swap x.titles y.titles a.titles b.titles;
        dates = texts_swap x.dates y.dates a.dates b.dates;
        names = texts_swap x.names y.names a.names b.names;
      });
  associative = λ x y z.
      let a = parts x in
      same_features (join (join x y) z) (join x (join y z)) (record {
        control = union-associative pairs_total pairs_tie x.control y.control z.control a.control;
        types = texts_regroup x.types y.types z.types a.types;
        isbns = texts_regroup x.isbns y.isbns z.isbns a.isbns;
        issns = texts_regroup x.issns y.issns z.issns a.issns;
        titles = texts_regroup x.titles y.titles z.titles a.titles;
        dates = texts_regroup x.dates y.dates z.dates a.dates;
        names = texts_regroup x.names y.names z.names a.names;
      });
}
