-- Features that meet have a key in common, and a union has the keys of its two sides.
use Rattle.std.proofs.Common.{nat_eq, ◌≡◌, ◌≢◌, ◌↔◌, ◌⊎◌, inl, inr, ℕ, true, ◌&&◌, ◌||◌, IsTrue, List, ◌++◌, map, All, AllPairs, Contains, sym, ap, subst}
use Rattle.std.specs.Cmp.Lexicographic.{nat_list_cmp_total, pointwise, same_text}
use Rattle.std.proofs.lemmas.List.Elements.{Contains-append_left, Contains-append_right, Contains-append_cases, All-append}
use Rattle.union_base.specs.Both.{both_true}
use Rattle.union_base.specs.Ties.{texts_apart}
use Rattle.union_base.specs.SortedLists.{have_common}
use Rattle.merge_laws.specs.Resolution.{KeyLaws}
use Rattle.match_features.specs.declared.features.Features.{Features}
use Rattle.match_features.specs.declared.keys.FeatureKey.{FeatureKey}
use Rattle.match_features.specs.declared.keys.FeatureKey.TheVariants.{Control, Isbn, Issn, Title, Description, TitleOfMany}
use Rattle.match_features.specs.Kept.{texts_cmp, pairs_cmp}
use Rattle.match_features.specs.KeptLaws.{pairs_total, pairs_tie}
use Rattle.match_features.specs.Joining.{join}
use Rattle.match_features.specs.JoinLaws.{parts}
use Rattle.match_features.specs.Meeting.{meet_by_control, meet_by_isbn, meet_by_issn, have_common_but_serials, meet_by_title, meet}
use Rattle.match_features.proofs.MeetLaws.{or_more}
use Rattle.match_features.proofs.MemberLaws.{or_cases, or_left, or_right, member-from_common, common-from_member, member-from_union, union-from_member, member-map, member-from_map, once-from_ascending, once-append, apart_maps}
use Rattle.match_features.specs.Keys.{HasKey, share_key, key_eq}

-- each control pair, each ISBN, each ISSN, each title
abbrev pub keys : Features → List FeatureKey
keys x = map Control x.control ++ map Isbn x.isbns ++ map Issn x.issns ++ map Title x.titles

-- those that meet share a key: a control pair, an ISBN, an ISSN or a title
share-from_meet : (x y : Features) → IsTrue (meet x y) → IsTrue (share_key x y)
share-from_meet x y h =
    let control = have_common pairs_cmp x.control y.control in
    let types = have_common texts_cmp x.types y.types in
    let others = have_common_but_serials x.types y.types in
    let isbns = have_common texts_cmp x.isbns y.isbns in
    let issns = have_common texts_cmp x.issns y.issns in
    let titles = have_common texts_cmp x.titles y.titles in
    let dates = have_common texts_cmp x.dates y.dates in
    let names = have_common texts_cmp x.names y.names in
    or_more (meet_by_control x y || meet_by_isbn x y || meet_by_issn x y) (meet_by_title x y) (control || isbns || issns) titles
    (or_more (meet_by_control x y || meet_by_isbn x y) (meet_by_issn x y) (control || isbns) issns
    (or_more (meet_by_control x y) (meet_by_isbn x y) control isbns (λ e. e) (λ e. (both_true types isbns e).1))
    (λ e. (both_true types issns e).1))
    (λ e. (both_true others titles (both_true (others && titles) dates (both_true ((others && titles) && dates) names e).0).0).1)
    h

key-from_share : (x y : Features) → IsTrue (share_key x y) → (k : FeatureKey) × HasKey x k × HasKey y k
key-from_share x y h =
    let control = have_common pairs_cmp x.control y.control in
    let isbns = have_common texts_cmp x.isbns y.isbns in
    let issns = have_common texts_cmp x.issns y.issns in
    elim (or_cases (control || isbns || issns) (have_common texts_cmp x.titles y.titles) h) [
      | inr e ↦ (let some = member-from_common nat_list_cmp_total texts_apart x.titles y.titles e in (Title some.0, some.1, some.2))
      | inl e ↦ elim (or_cases (control || isbns) issns e) [
        | inr f ↦ (let some = member-from_common nat_list_cmp_total texts_apart x.issns y.issns f in (Issn some.0, some.1, some.2))
        | inl f ↦ elim (or_cases control isbns f) [
          | inr g ↦ (let some = member-from_common nat_list_cmp_total texts_apart x.isbns y.isbns g in (Isbn some.0, some.1, some.2))
          | inl g ↦ (let some = member-from_common pairs_total pairs_tie x.control y.control g in (Control some.0, some.1, some.2))
        ]
      ]
    ]

pub share-from_key : (x y : Features) (k : FeatureKey) → HasKey x k → HasKey y k → IsTrue (share_key x y)
share-from_key x y (Control pair) p q =
    or_left _ (have_common texts_cmp x.titles y.titles) (or_left _ (have_common texts_cmp x.issns y.issns) (or_left _ (have_common texts_cmp x.isbns y.isbns)
    (common-from_member pairs_total pairs_tie x.control y.control pair p q)))
share-from_key x y (Isbn isbn) p q =
    or_left _ (have_common texts_cmp x.titles y.titles) (or_left _ (have_common texts_cmp x.issns y.issns) (or_right (have_common pairs_cmp x.control y.control) _
    (common-from_member nat_list_cmp_total texts_apart x.isbns y.isbns isbn p q)))
share-from_key x y (Issn issn) p q =
    or_left _ (have_common texts_cmp x.titles y.titles) (or_right (have_common pairs_cmp x.control y.control || have_common texts_cmp x.isbns y.isbns) _
    (common-from_member nat_list_cmp_total texts_apart x.issns y.issns issn p q))
share-from_key x y (Title title) p q =
    or_right (have_common pairs_cmp x.control y.control || have_common texts_cmp x.isbns y.isbns || have_common texts_cmp x.issns y.issns) _
    (common-from_member nat_list_cmp_total texts_apart x.titles y.titles title p q)
share-from_key x y (Description key) p q = absurd p
share-from_key x y (TitleOfMany title) p q = absurd p

key-join : (x y : Features) (k : FeatureKey) → HasKey (join x y) k ↔ (HasKey x k ⊎ HasKey y k)
key-join x y (Control pair) = (
  member-from_union pairs_total pairs_tie x.control y.control pair,
  union-from_member pairs_total pairs_tie x.control y.control pair,
)
key-join x y (Isbn isbn) = (
  member-from_union nat_list_cmp_total texts_apart x.isbns y.isbns isbn,
  union-from_member nat_list_cmp_total texts_apart x.isbns y.isbns isbn,
)
key-join x y (Issn issn) = (
  member-from_union nat_list_cmp_total texts_apart x.issns y.issns issn,
  union-from_member nat_list_cmp_total texts_apart x.issns y.issns issn,
)
key-join x y (Title title) = (
  member-from_union nat_list_cmp_total texts_apart x.titles y.titles title,
  union-from_member nat_list_cmp_total texts_apart x.titles y.titles title,
)
key-join x y (Description key) = (λ h. absurd h, λ h. elim h [ inl e ↦ absurd e | inr e ↦ absurd e ])
key-join x y (TitleOfMany title) = (λ h. absurd h, λ h. elim h [ inl e ↦ absurd e | inr e ↦ absurd e ])

pub features_key_laws : KeyLaws meet join HasKey share_key
features_key_laws = record {
  matching = λ x y h. key-from_share x y (share-from_meet x y h);
  merged = key-join;
  shared = λ x y. (key-from_share x y, λ (k, p, q). share-from_key x y k p q);
}

-- the list of the keys has each key that features have
key-from_member : (x : Features) (k : FeatureKey) → Contains (keys x) k → HasKey x k
key-from_member x k h =
    let control = map Control x.control in
    let isbns = map Isbn x.isbns in
    let issns = map Issn x.issns in
    elim (Contains-append_cases (control ++ isbns ++ issns) (map Title x.titles) k h) [
      | inr e ↦ (let (title, there, is) = member-from_map Title x.titles k e in subst (HasKey x) is there)
      | inl e ↦ elim (Contains-append_cases (control ++ isbns) issns k e) [
        | inr f ↦ (let (issn, there, is) = member-from_map Issn x.issns k f in subst (HasKey x) is there)
        | inl f ↦ elim (Contains-append_cases control isbns k f) [
          | inr g ↦ (let (isbn, there, is) = member-from_map Isbn x.isbns k g in subst (HasKey x) is there)
          | inl g ↦ (let (pair, there, is) = member-from_map Control x.control k g in subst (HasKey x) is there)
        ]
      ]
    ]

member-from_key : (x : Features) (k : FeatureKey) → HasKey x k → Contains (keys x) k
member-from_key x (Control pair) h =
    Contains-append_left (map Control x.control ++ map Isbn x.isbns ++ map Issn x.issns) (map Title x.titles) (Control pair)
    (Contains-append_left (map Control x.control ++ map Isbn x.isbns) (map Issn x.issns) (Control pair)
    (Contains-append_left (map Control x.control) (map Isbn x.isbns) (Control pair) (member-map Control x.control pair h)))
member-from_key x (Isbn isbn) h =
    Contains-append_left (map Control x.control ++ map Isbn x.isbns ++ map Issn x.issns) (map Title x.titles) (Isbn isbn)
    (Contains-append_left (map Control x.control ++ map Isbn x.isbns) (map Issn x.issns) (Isbn isbn)
    (Contains-append_right (map Control x.control) (map Isbn x.isbns) (Isbn isbn) (member-map Isbn x.isbns isbn h)))
member-from_key x (Issn issn) h =
    Contains-append_left (map Control x.control ++ map Isbn x.isbns ++ map Issn x.issns) (map Title x.titles) (Issn issn)
    (Contains-append_right (map Control x.control ++ map Isbn x.isbns) (map Issn x.issns) (Issn issn) (member-map Issn x.issns issn h))
member-from_key x (Title title) h =
    Contains-append_right (map Control x.control ++ map Isbn x.isbns ++ map Issn x.issns) (map Title x.titles) (Title title) (member-map Title x.titles title h)
member-from_key x (Description key) h = absurd h
member-from_key x (TitleOfMany title) h = absurd h

pub features_keys : (x : Features) (k : FeatureKey) → Contains (keys x) k ↔ HasKey x k
features_keys x k = (key-from_member x k, member-from_key x k)

-- the list has each key once
pub features_keys_once : (x : Features) → AllPairs (λ j k. j ≢ k) (keys x)
features_keys_once x =
    let kept = parts x in
    let control = map Control x.control in
    let isbns = map Isbn x.isbns in
    let issns = map Issn x.issns in
    let titles = map Title x.titles in
    once-append (control ++ isbns ++ issns) titles
    (once-append (control ++ isbns) issns
    (once-append control isbns
    (once-from_ascending pairs_total pairs_tie Control (λ p q e. cc) x.control kept.control)
    (once-from_ascending nat_list_cmp_total texts_apart Isbn (λ p q e. cc) x.isbns kept.isbns)
    (apart_maps Control Isbn (λ p q e. cc) x.control x.isbns))
    (once-from_ascending nat_list_cmp_total texts_apart Issn (λ p q e. cc) x.issns kept.issns)
    (All-append (λ j. All (λ k. j ≢ k) issns) control isbns
    (apart_maps Control Issn (λ p q e. cc) x.control x.issns) (apart_maps Isbn Issn (λ p q e. cc) x.isbns x.issns)))
    (once-from_ascending nat_list_cmp_total texts_apart Title (λ p q e. cc) x.titles kept.titles)
    (All-append (λ j. All (λ k. j ≢ k) titles) (control ++ isbns) issns
    (All-append (λ j. All (λ k. j ≢ k) titles) control isbns
    (apart_maps Control Title (λ p q e. cc) x.control x.titles) (apart_maps Isbn Title (λ p q e. cc) x.isbns x.titles))
    (apart_maps Issn Title (λ p q e. cc) x.issns x.titles))

same_texts : (a b : List ℕ) → pointwise nat_eq a b ≡ true → a ≡ b
same_texts a b h = same_text a b (sym h)

-- keys that compare as equal are one
pub features_keys_exact : (j k : FeatureKey) → key_eq j k ≡ true → j ≡ k
features_keys_exact (Control p) (Control q) h =
    let both = both_true (pointwise nat_eq p.0 q.0) (pointwise nat_eq p.1 q.1) h in
    λ i. Control (same_texts p.0 q.0 both.0 i, same_texts p.1 q.1 both.1 i)
features_keys_exact (Isbn a) (Isbn b) h = ap Isbn (same_texts a b h)
features_keys_exact (Issn a) (Issn b) h = ap Issn (same_texts a b h)
features_keys_exact (Title a) (Title b) h = ap Title (same_texts a b h)
features_keys_exact (Description p) (Description q) h =
    let all = both_true (pointwise nat_eq p.0 q.0 && pointwise nat_eq p.1 q.1) (pointwise nat_eq p.2 q.2) h in
    let two = both_true (pointwise nat_eq p.0 q.0) (pointwise nat_eq p.1 q.1) all.0 in
    λ i. Description (same_texts p.0 q.0 two.0 i, same_texts p.1 q.1 two.1 i, same_texts p.2 q.2 all.1 i)
features_keys_exact (TitleOfMany a) (TitleOfMany b) h = ap TitleOfMany (same_texts a b h)
features_keys_exact j k h = cc
