-- What an index finds for features: the test tells it, and features find for their union what they find for themselves.
use Rattle.std.proofs.Common.{◌≡◌, ℕ, ◌*◌, ◌≤◌, Bool, true, false, not, ◌&&◌, ◌||◌, IsTrue, List, [], ◌∷◌, length, Contains, refl, sym, ◌∙◌, ap, inl, inr, arith}
use Rattle.std.specs.Prelude.{◌⊎◌, nat_le}
use Rattle.std.specs.declared.cmp.Ordering.{Ordering}
use Rattle.std.specs.declared.cmp.Ordering.TheVariants.{Less, Equal, Greater}
use Rattle.std.specs.Ordering.{match_ordering}
use Rattle.std.specs.Cmp.Lexicographic.{nat_list_cmp_total}
use Rattle.std.proofs.Math.Nat.{le_trans}
use Rattle.std.proofs.lemmas.Nat.{mul-le}
use Rattle.std.proofs.lemmas.Bool.Decides.{nat_tests}
use Rattle.union_base.specs.Both.{both_true, true_both}
use Rattle.union_base.specs.Ties.{texts_apart}
use Rattle.union_base.specs.SortedLists.{put, union, have_common}
use Rattle.merge_laws.specs.Candidates.{FindingLaws}
use Rattle.match_features.specs.declared.features.Features.{Features}
use Rattle.match_features.specs.declared.keys.FeatureKey.{FeatureKey}
use Rattle.match_features.specs.declared.keys.FeatureKey.TheVariants.{Control, Isbn, Issn, Title, Description, TitleOfMany}
use Rattle.match_features.specs.Kept.{texts_cmp, pairs_cmp}
use Rattle.match_features.specs.KeptLaws.{pairs_total, pairs_tie}
use Rattle.match_features.specs.Joining.{join}
use Rattle.match_features.specs.Posted.{has_few, IsPosted, Seeks}
use Rattle.match_features.specs.Finding.{are_told_together, is_found_for}
use Rattle.match_features.proofs.MemberLaws.{or_cases, or_left, or_right, member-from_common, common-from_member, common-kept}

-- a union has no fewer members than its first side
longer-put : {K : Type 0} (R : K → K → Ordering) (y : K) (xs : List K) → length xs ≤ length (put R y xs)
longer-put R y [] = omega arith
longer-put R y (x ∷ xs) =
    let more = longer-put R y xs in
    elim (R y x) as (λ r. length (x ∷ xs) ≤ length (match_ordering r (y ∷ x ∷ xs) (x ∷ xs) (x ∷ put R y xs))) [
      | Less ↦ omega arith
      | Equal ↦ omega arith
      | Greater ↦ omega arith
    ]

longer-union : {K : Type 0} (R : K → K → Ordering) (xs ys : List K) → length xs ≤ length (union R xs ys)
longer-union R xs [] = omega arith
longer-union R xs (y ∷ ys) = le_trans (longer-union R xs ys) (longer-put R y (union R xs ys))

-- what are few triples of more are few of less
few-less : (a b c d e f : ℕ) → a ≤ d → b ≤ e → c ≤ f → nat_le (d * e * f) 64 ≡ true → nat_le (a * b * c) 64 ≡ true
few-less a b c d e f ad be cf few =
    let less : a * b * c ≤ d * e * f = mul-le (a * b) c (d * e) f (mul-le a b d e ad be) cf in
    grind (arith, nat_tests)

few-part : (x y : Features) → has_few (join x y) ≡ true → has_few x ≡ true
few-part x y =
    few-less (length x.titles) (length x.dates) (length x.names)
    (length (union texts_cmp x.titles y.titles)) (length (union texts_cmp x.dates y.dates)) (length (union texts_cmp x.names y.names))
    (longer-union texts_cmp x.titles y.titles) (longer-union texts_cmp x.dates y.dates) (longer-union texts_cmp x.names y.names)

not-first : (a b : Bool) → not a ≡ true → not (a && b) ≡ true
not-first true b h = absurd cc
not-first false b h = refl

not-second : (a b : Bool) → not b ≡ true → not (a && b) ≡ true
not-second a true h = absurd cc
not-second true false h = refl
not-second false false h = refl

-- two are not few: then the one is many, or the other
one-many : (a b : Bool) → not (a && b) ≡ true → (not a ≡ true) ⊎ (not b ≡ true)
one-many true b h = inr h
one-many false b h = inl refl

few-both : (a b : Bool) → a ≡ true → b ≡ true → not (a && b) ≡ true → ⊥
few-both true true p q h = cc
few-both true false p q h = cc
few-both false b p q h = cc

-- ---- what the test finds has a key that is sought

titled-found : (w x : Features) (title : List ℕ) → Contains w.titles title → Contains x.titles title → IsTrue (are_told_together w x)
    → (k : FeatureKey) × Seeks x k × IsPosted w k
titled-found w x title tw tx told =
    elim (has_few x) as (λ b. has_few x ≡ b → (k : FeatureKey) × Seeks x k × IsPosted w k) [
      | false ↦ λ many. (Title title, (ap not many, tx), tw)
      | true ↦ λ few. elim (has_few w) as (λ b. has_few w ≡ b → (k : FeatureKey) × Seeks x k × IsPosted w k) [
        | false ↦ λ many. (TitleOfMany title, (few, tx), (ap not many, tw))
        | true ↦ λ both. elim (or_cases (not (has_few w && has_few x)) (have_common texts_cmp w.dates x.dates && have_common texts_cmp w.names x.names) told) [
          | inl many ↦ absurd (few-both (has_few w) (has_few x) both few many)
          | inr parts ↦ (let two = both_true (have_common texts_cmp w.dates x.dates) (have_common texts_cmp w.names x.names) parts in
              let (date, dw, dx) = member-from_common nat_list_cmp_total texts_apart w.dates x.dates two.0 in
              let (name, nw, nx) = member-from_common nat_list_cmp_total texts_apart w.names x.names two.1 in
              (Description (title, date, name), (few, tx, dx, nx), (both, tw, dw, nw)))
        ]
      ] refl
    ] refl

key-from_found : (w x : Features) → IsTrue (is_found_for w x) → (k : FeatureKey) × Seeks x k × IsPosted w k
key-from_found w x h =
    let controls = have_common pairs_cmp w.control x.control in
    let isbns = have_common texts_cmp w.isbns x.isbns in
    let issns = have_common texts_cmp w.issns x.issns in
    let titles = have_common texts_cmp w.titles x.titles in
    elim (or_cases (controls || isbns || issns) (titles && are_told_together w x) h) [
      | inr e ↦ (let two = both_true titles (are_told_together w x) e in
          let (title, tw, tx) = member-from_common nat_list_cmp_total texts_apart w.titles x.titles two.0 in
          titled-found w x title tw tx two.1)
      | inl e ↦ elim (or_cases (controls || isbns) issns e) [
        | inr f ↦ (let (issn, its, mine) = member-from_common nat_list_cmp_total texts_apart w.issns x.issns f in (Issn issn, mine, its))
        | inl f ↦ elim (or_cases controls isbns f) [
          | inr g ↦ (let (isbn, its, mine) = member-from_common nat_list_cmp_total texts_apart w.isbns x.isbns g in (Isbn isbn, mine, its))
          | inl g ↦ (let (pair, its, mine) = member-from_common pairs_total pairs_tie w.control x.control g in (Control pair, mine, its))
        ]
      ]
    ]

-- ---- what has a key that is sought the test finds

module _ (w x : Features) where
  abbrev controls : Bool
  controls = have_common pairs_cmp w.control x.control

  abbrev isbns : Bool
  isbns = have_common texts_cmp w.isbns x.isbns

  abbrev issns : Bool
  issns = have_common texts_cmp w.issns x.issns

  abbrev titles : Bool
  titles = have_common texts_cmp w.titles x.titles

  by-control : controls ≡ true → IsTrue (is_found_for w x)
  by-control h =
      or_left (controls || isbns || issns) (titles && are_told_together w x) (or_left (controls || isbns) issns (or_left controls isbns h))

  by-isbn : isbns ≡ true → IsTrue (is_found_for w x)
  by-isbn h =
      or_left (controls || isbns || issns) (titles && are_told_together w x) (or_left (controls || isbns) issns (or_right controls isbns h))

  by-issn : issns ≡ true → IsTrue (is_found_for w x)
  by-issn h = or_left (controls || isbns || issns) (titles && are_told_together w x) (or_right (controls || isbns) issns h)

  by-titles : titles ≡ true → IsTrue (are_told_together w x) → IsTrue (is_found_for w x)
  by-titles h told = or_right (controls || isbns || issns) (titles && are_told_together w x) (true_both titles (are_told_together w x) h told)

  by-title : (title : List ℕ) → Contains w.titles title → Contains x.titles title → IsTrue (are_told_together w x) → IsTrue (is_found_for w x)
  by-title title tw tx told = by-titles (common-from_member nat_list_cmp_total texts_apart w.titles x.titles title tw tx) told

  told-by_many : not (has_few w && has_few x) ≡ true → IsTrue (are_told_together w x)
  told-by_many h = or_left (not (has_few w && has_few x)) (have_common texts_cmp w.dates x.dates && have_common texts_cmp w.names x.names) h

  told-by_parts : have_common texts_cmp w.dates x.dates ≡ true → have_common texts_cmp w.names x.names ≡ true → IsTrue (are_told_together w x)
  told-by_parts d n =
      or_right (not (has_few w && has_few x)) (have_common texts_cmp w.dates x.dates && have_common texts_cmp w.names x.names)
      (true_both (have_common texts_cmp w.dates x.dates) (have_common texts_cmp w.names x.names) d n)

found-from_key : (w x : Features) (k : FeatureKey) → Seeks x k → IsPosted w k → IsTrue (is_found_for w x)
found-from_key w x (Control pair) s p = by-control w x (common-from_member pairs_total pairs_tie w.control x.control pair p s)
found-from_key w x (Isbn isbn) s p = by-isbn w x (common-from_member nat_list_cmp_total texts_apart w.isbns x.isbns isbn p s)
found-from_key w x (Issn issn) s p = by-issn w x (common-from_member nat_list_cmp_total texts_apart w.issns x.issns issn p s)
found-from_key w x (Title title) s p = by-title w x title p s.1 (told-by_many w x (not-second (has_few w) (has_few x) s.0))
found-from_key w x (Description key) s p =
    by-title w x key.0 p.1 s.1
    (told-by_parts w x (common-from_member nat_list_cmp_total texts_apart w.dates x.dates key.1 p.2 s.2)
    (common-from_member nat_list_cmp_total texts_apart w.names x.names key.2 p.3 s.3))
found-from_key w x (TitleOfMany title) s p = by-title w x title p.1 s.1 (told-by_many w x (not-first (has_few w) (has_few x) p.0))

-- ---- a union finds what its first side finds

still-many : (a b c : Bool) → (c ≡ true → b ≡ true) → not (a && b) ≡ true → not (a && c) ≡ true
still-many a b false part h = not-second a false refl
still-many a b true part h = let few = part refl in rw few at h

told-grows : (w x y : Features) → IsTrue (are_told_together w x) → IsTrue (are_told_together w (join x y))
told-grows w x y told =
    elim (or_cases (not (has_few w && has_few x)) (have_common texts_cmp w.dates x.dates && have_common texts_cmp w.names x.names) told) [
      | inl many ↦ told-by_many w (join x y) (still-many (has_few w) (has_few x) (has_few (join x y)) (few-part x y) many)
      | inr parts ↦ (let two = both_true (have_common texts_cmp w.dates x.dates) (have_common texts_cmp w.names x.names) parts in
          told-by_parts w (join x y) (common-kept nat_list_cmp_total texts_apart w.dates x.dates y.dates two.0)
          (common-kept nat_list_cmp_total texts_apart w.names x.names y.names two.1))
    ]

found-grows : (w x y : Features) → IsTrue (is_found_for w x) → IsTrue (is_found_for w (join x y))
found-grows w x y h =
    let controls = have_common pairs_cmp w.control x.control in
    let isbns = have_common texts_cmp w.isbns x.isbns in
    let issns = have_common texts_cmp w.issns x.issns in
    let titles = have_common texts_cmp w.titles x.titles in
    elim (or_cases (controls || isbns || issns) (titles && are_told_together w x) h) [
      | inr e ↦ (let two = both_true titles (are_told_together w x) e in
          by-titles w (join x y) (common-kept nat_list_cmp_total texts_apart w.titles x.titles y.titles two.0) (told-grows w x y two.1))
      | inl e ↦ elim (or_cases (controls || isbns) issns e) [
        | inr f ↦ by-issn w (join x y) (common-kept nat_list_cmp_total texts_apart w.issns x.issns y.issns f)
        | inl f ↦ elim (or_cases controls isbns f) [
          | inr g ↦ by-isbn w (join x y) (common-kept nat_list_cmp_total texts_apart w.isbns x.isbns y.isbns g)
          | inl g ↦ by-control w (join x y) (common-kept pairs_total pairs_tie w.control x.control y.control g)
        ]
      ]
    ]

pub features_finding_laws : FindingLaws join IsPosted Seeks is_found_for
features_finding_laws = record {
  found = λ w x. (key-from_found w x, λ (k, s, p). found-from_key w x k s p);
  grows = found-grows;
}
