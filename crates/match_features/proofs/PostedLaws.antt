-- Features that meet find one another: the ones seek a key under which the others are posted.
use Rattle.std.proofs.Common.{◌≡◌, ◌≢◌, ◌↔◌, inl, inr, Bool, true, false, cond, not, ◌&&◌, ◌||◌, IsTrue, ℕ, List, ◌++◌, map, All, AllPairs, Contains, refl, sym, ◌∙◌, ap, subst}
use Rattle.std.specs.Cmp.Lexicographic.{nat_list_cmp_total}
use Rattle.std.proofs.lemmas.List.Elements.{Contains-append_left, Contains-append_right, Contains-append_cases}
use Rattle.union_base.specs.Both.{both_true, true_both}
use Rattle.union_base.specs.Ties.{texts_apart}
use Rattle.union_base.specs.SortedLists.{is_ascending, has, have_common}
use Rattle.merge_laws.specs.Candidates.{SeekingLaws}
use Rattle.merge_laws.proofs.Places.{All-from_members}
use Rattle.match_features.specs.declared.features.Features.{Features}
use Rattle.match_features.specs.declared.keys.FeatureKey.{FeatureKey}
use Rattle.match_features.specs.declared.keys.FeatureKey.TheVariants.{Control, Isbn, Issn, Title, Description, TitleOfMany}
use Rattle.match_features.specs.Kept.{texts_cmp}
use Rattle.match_features.specs.KeptLaws.{pairs_total, pairs_tie}
use Rattle.match_features.specs.JoinLaws.{parts}
use Rattle.match_features.specs.Meeting.{meet_by_control, meet_by_isbn, meet_by_issn, have_common_but_serials, meet_by_title, meet}
use Rattle.match_features.specs.Keys.{HasKey, share_key}
use Rattle.match_features.specs.Posted.{has_few, IsPosted, is_posted, Seeks}
use Rattle.match_features.specs.KeyLists.{dated_keys, description_keys, number_keys, posted, sought, sought_by_title}
use Rattle.match_features.proofs.MemberLaws.{or_cases, has-from_member, member-from_has, member-from_common, member-map, member-from_map, member-flat_map, member-from_flat_map, once-flat_map, once-from_ascending, once-append}
use Rattle.match_features.proofs.KeyLaws.{keys, share-from_key, features_keys, features_keys_once}

-- ---- those that meet find one another

-- by a title, a date and a name that are common: through the three, or through the title where one of the two has many
description-found : (x y : Features) (title date name : List ℕ) → Contains x.titles title → Contains y.titles title → Contains x.dates date → Contains y.dates date
    → Contains x.names name → Contains y.names name → (k : FeatureKey) × Seeks x k × IsPosted y k
description-found x y title date name tx ty dx dy nx ny =
    elim (has_few x) as (λ b. has_few x ≡ b → (k : FeatureKey) × Seeks x k × IsPosted y k) [
      | false ↦ λ many. (Title title, (ap not many, tx), ty)
      | true ↦ λ few. elim (has_few y) as (λ b. has_few y ≡ b → (k : FeatureKey) × Seeks x k × IsPosted y k) [
        | false ↦ λ many. (TitleOfMany title, (few, tx), (ap not many, ty))
        | true ↦ λ both. (Description (title, date, name), (few, tx, dx, nx), (both, ty, dy, ny))
      ] refl
    ] refl

meet-found : (x y : Features) → IsTrue (meet x y) → (k : FeatureKey) × Seeks x k × IsPosted y k
meet-found x y h =
    let types = have_common texts_cmp x.types y.types in
    let others = have_common_but_serials x.types y.types in
    let isbns = have_common texts_cmp x.isbns y.isbns in
    let issns = have_common texts_cmp x.issns y.issns in
    let titles = have_common texts_cmp x.titles y.titles in
    let dates = have_common texts_cmp x.dates y.dates in
    let names = have_common texts_cmp x.names y.names in
    elim (or_cases (meet_by_control x y || meet_by_isbn x y || meet_by_issn x y) (meet_by_title x y) h) [
      | inr e ↦ (let all = both_true ((others && titles) && dates) names e in
          let three = both_true (others && titles) dates all.0 in
          let (title, tx, ty) = member-from_common nat_list_cmp_total texts_apart x.titles y.titles (both_true others titles three.0).1 in
          let (date, dx, dy) = member-from_common nat_list_cmp_total texts_apart x.dates y.dates three.1 in
          let (name, nx, ny) = member-from_common nat_list_cmp_total texts_apart x.names y.names all.1 in
          description-found x y title date name tx ty dx dy nx ny)
      | inl e ↦ elim (or_cases (meet_by_control x y || meet_by_isbn x y) (meet_by_issn x y) e) [
        | inr f ↦ (let (issn, mine, its) = member-from_common nat_list_cmp_total texts_apart x.issns y.issns (both_true types issns f).1 in (Issn issn, mine, its))
        | inl f ↦ elim (or_cases (meet_by_control x y) (meet_by_isbn x y) f) [
          | inr g ↦ (let (isbn, mine, its) = member-from_common nat_list_cmp_total texts_apart x.isbns y.isbns (both_true types isbns g).1 in (Isbn isbn, mine, its))
          | inl g ↦ (let (pair, mine, its) = member-from_common pairs_total pairs_tie x.control y.control g in (Control pair, mine, its))
        ]
      ]
    ]

found-near : (x y : Features) (k : FeatureKey) → Seeks x k → IsPosted y k → IsTrue (share_key y x)
found-near x y (Control pair) s p = share-from_key y x (Control pair) p s
found-near x y (Isbn isbn) s p = share-from_key y x (Isbn isbn) p s
found-near x y (Issn issn) s p = share-from_key y x (Issn issn) p s
found-near x y (Title title) s p = share-from_key y x (Title title) p s.1
found-near x y (Description key) s p = share-from_key y x (Title key.0) p.1 s.1
found-near x y (TitleOfMany title) s p = share-from_key y x (Title title) p.1 s.1

pub features_seeking_laws : SeekingLaws meet IsPosted Seeks share_key
features_seeking_laws = record { matching = meet-found; near = found-near }

-- ---- the test of whether an index has features under a key

pub told-from_posted : (x : Features) (k : FeatureKey) → IsPosted x k → is_posted k x ≡ true
told-from_posted x (Control pair) h = has-from_member pairs_total pairs_tie x.control pair h
told-from_posted x (Isbn isbn) h = has-from_member nat_list_cmp_total texts_apart x.isbns isbn h
told-from_posted x (Issn issn) h = has-from_member nat_list_cmp_total texts_apart x.issns issn h
told-from_posted x (Title title) h = has-from_member nat_list_cmp_total texts_apart x.titles title h
told-from_posted x (Description key) h =
    true_both (has_few x && has texts_cmp x.titles key.0 && has texts_cmp x.dates key.1) (has texts_cmp x.names key.2)
    (true_both (has_few x && has texts_cmp x.titles key.0) (has texts_cmp x.dates key.1)
    (true_both (has_few x) (has texts_cmp x.titles key.0) h.0 (has-from_member nat_list_cmp_total texts_apart x.titles key.0 h.1))
    (has-from_member nat_list_cmp_total texts_apart x.dates key.1 h.2))
    (has-from_member nat_list_cmp_total texts_apart x.names key.2 h.3)
told-from_posted x (TitleOfMany title) h =
    true_both (not (has_few x)) (has texts_cmp x.titles title) h.0 (has-from_member nat_list_cmp_total texts_apart x.titles title h.1)

pub posted-from_told : (x : Features) (k : FeatureKey) → is_posted k x ≡ true → IsPosted x k
posted-from_told x (Control pair) h = member-from_has pairs_total pairs_tie x.control pair h
posted-from_told x (Isbn isbn) h = member-from_has nat_list_cmp_total texts_apart x.isbns isbn h
posted-from_told x (Issn issn) h = member-from_has nat_list_cmp_total texts_apart x.issns issn h
posted-from_told x (Title title) h = member-from_has nat_list_cmp_total texts_apart x.titles title h
posted-from_told x (Description key) h =
    let all = both_true (has_few x && has texts_cmp x.titles key.0 && has texts_cmp x.dates key.1) (has texts_cmp x.names key.2) h in
    let three = both_true (has_few x && has texts_cmp x.titles key.0) (has texts_cmp x.dates key.1) all.0 in
    let two = both_true (has_few x) (has texts_cmp x.titles key.0) three.0 in (
      two.0,
      member-from_has nat_list_cmp_total texts_apart x.titles key.0 two.1,
      member-from_has nat_list_cmp_total texts_apart x.dates key.1 three.1,
      member-from_has nat_list_cmp_total texts_apart x.names key.2 all.1,
    )
posted-from_told x (TitleOfMany title) h =
    let two = both_true (not (has_few x)) (has texts_cmp x.titles title) h in
    (two.0, member-from_has nat_list_cmp_total texts_apart x.titles title two.1)

-- ---- the lists of the keys

pub description-from_member : (titles dates names : List (List ℕ)) (k : FeatureKey) → Contains (description_keys titles dates names) k
    → (title : List ℕ) × (date : List ℕ) × (name : List ℕ) × Contains titles title × Contains dates date × Contains names name × (Description (title, date, name) ≡ k)
description-from_member titles dates names k h =
    let (title, ct, later) = member-from_flat_map (λ (title : List ℕ). dated_keys title dates names) titles k h in
    let (date, cd, last) = member-from_flat_map (λ (date : List ℕ). map (λ name. Description (title, date, name)) names) dates k later in
    let (name, cn, is) = member-from_map (λ (name : List ℕ). Description (title, date, name)) names k last in
    (title, date, name, ct, cd, cn, is)

pub member-from_description : (titles dates names : List (List ℕ)) (title date name : List ℕ) → Contains titles title → Contains dates date → Contains names name
    → Contains (description_keys titles dates names) (Description (title, date, name))
member-from_description titles dates names title date name ct cd cn =
    member-flat_map (λ (title : List ℕ). dated_keys title dates names) titles title (Description (title, date, name)) ct
    (member-flat_map (λ (date : List ℕ). map (λ name. Description (title, date, name)) names) dates date (Description (title, date, name)) cd
    (member-map (λ (name : List ℕ). Description (title, date, name)) names name cn))

descriptions_apart : (p q : List ℕ × List ℕ × List ℕ) → Description p ≡ Description q → p ≡ q
descriptions_apart p q e = cc

-- titles, dates and names that stand once give keys that do
module _ (titles dates names : List (List ℕ)) where
  one_title : (t u : List ℕ) (k : FeatureKey) → Contains (dated_keys t dates names) k → Contains (dated_keys u dates names) k → t ≡ u
  one_title t u k p q =
      let (date, cd, last) = member-from_flat_map (λ (date : List ℕ). map (λ name. Description (t, date, name)) names) dates k p in
      let (name, cn, mine) = member-from_map (λ (name : List ℕ). Description (t, date, name)) names k last in
      let (other, co, more) = member-from_flat_map (λ (date : List ℕ). map (λ name. Description (u, date, name)) names) dates k q in
      let (named, cm, its) = member-from_map (λ (name : List ℕ). Description (u, other, name)) names k more in
      ap (λ (p : List ℕ × List ℕ × List ℕ). p.0) (descriptions_apart (t, date, name) (u, other, named) (mine ∙ sym its))

  one_date : (t d e : List ℕ) (k : FeatureKey) → Contains (map (λ name. Description (t, d, name)) names) k → Contains (map (λ name. Description (t, e, name)) names) k → d ≡ e
  one_date t d e k p q =
      let (name, cn, mine) = member-from_map (λ (name : List ℕ). Description (t, d, name)) names k p in
      let (named, cm, its) = member-from_map (λ (name : List ℕ). Description (t, e, name)) names k q in
      ap (λ (p : List ℕ × List ℕ × List ℕ). p.1) (descriptions_apart (t, d, name) (t, e, named) (mine ∙ sym its))

  pub descriptions_once : is_ascending texts_cmp titles ≡ true → is_ascending texts_cmp dates ≡ true → is_ascending texts_cmp names ≡ true
      → AllPairs (λ j k. j ≢ k) (description_keys titles dates names)
  descriptions_once at ad an =
      once-flat_map (λ (t : List ℕ). dated_keys t dates names) one_title
      (λ t. once-flat_map (λ (d : List ℕ). map (λ name. Description (t, d, name)) names) (one_date t)
      (λ d. once-from_ascending nat_list_cmp_total texts_apart (λ name. Description (t, d, name))
      (λ p q e. ap (λ (r : List ℕ × List ℕ × List ℕ). r.2) (descriptions_apart (t, d, p) (t, d, q) e)) names an)
      dates (once-from_ascending nat_list_cmp_total texts_apart (λ x. x) (λ p q e. e) dates ad))
      titles (once-from_ascending nat_list_cmp_total texts_apart (λ x. x) (λ p q e. e) titles at)

pub none-few : (b : Bool) → not b ≡ true → b ≡ false
none-few true h = cc
none-few false h = refl

pub posted-from_key : (x : Features) (k : FeatureKey) → HasKey x k → IsPosted x k
posted-from_key x (Control pair) h = h
posted-from_key x (Isbn isbn) h = h
posted-from_key x (Issn issn) h = h
posted-from_key x (Title title) h = h
posted-from_key x (Description key) h = absurd h
posted-from_key x (TitleOfMany title) h = absurd h

posted-from_description : (x : Features) (k : FeatureKey) → has_few x ≡ true → Contains (description_keys x.titles x.dates x.names) k → IsPosted x k
posted-from_description x k few h =
    let (title, date, name, ct, cd, cn, is) = description-from_member x.titles x.dates x.names k h in
    subst (IsPosted x) is (few, ct, cd, cn)

posted-from_many : (x : Features) (k : FeatureKey) → has_few x ≡ false → Contains (map TitleOfMany x.titles) k → IsPosted x k
posted-from_many x k many h =
    let (title, there, is) = member-from_map TitleOfMany x.titles k h in
    subst (IsPosted x) is (ap not many, there)

posted-from_member : (x : Features) (k : FeatureKey) → Contains (posted x) k → IsPosted x k
posted-from_member x k h =
    elim (has_few x) as (λ b. has_few x ≡ b → Contains (keys x ++ cond b (description_keys x.titles x.dates x.names) (map TitleOfMany x.titles)) k → IsPosted x k) [
      | true ↦ λ few c. elim (Contains-append_cases (keys x) (description_keys x.titles x.dates x.names) k c) [
        | inl own ↦ posted-from_key x k ((features_keys x k).0 own)
        | inr more ↦ posted-from_description x k few more
      ]
      | false ↦ λ many c. elim (Contains-append_cases (keys x) (map TitleOfMany x.titles) k c) [
        | inl own ↦ posted-from_key x k ((features_keys x k).0 own)
        | inr more ↦ posted-from_many x k many more
      ]
    ] refl h

own-from_posted : (x : Features) (k : FeatureKey) → HasKey x k → Contains (posted x) k
own-from_posted x k h = Contains-append_left (keys x) (cond (has_few x) (description_keys x.titles x.dates x.names) (map TitleOfMany x.titles)) k ((features_keys x k).1 h)

member-from_posted : (x : Features) (k : FeatureKey) → IsPosted x k → Contains (posted x) k
member-from_posted x (Control pair) h = own-from_posted x (Control pair) h
member-from_posted x (Isbn isbn) h = own-from_posted x (Isbn isbn) h
member-from_posted x (Issn issn) h = own-from_posted x (Issn issn) h
member-from_posted x (Title title) h = own-from_posted x (Title title) h
member-from_posted x (Description key) (few, ct, cd, cn) =
    subst (λ b. Contains (keys x ++ cond b (description_keys x.titles x.dates x.names) (map TitleOfMany x.titles)) (Description key)) (sym few)
    (Contains-append_right (keys x) (description_keys x.titles x.dates x.names) (Description key) (member-from_description x.titles x.dates x.names key.0 key.1 key.2 ct cd cn))
member-from_posted x (TitleOfMany title) (many, ct) =
    subst (λ b. Contains (keys x ++ cond b (description_keys x.titles x.dates x.names) (map TitleOfMany x.titles)) (TitleOfMany title)) (sym (none-few (has_few x) many))
    (Contains-append_right (keys x) (map TitleOfMany x.titles) (TitleOfMany title) (member-map TitleOfMany x.titles title ct))

pub features_posted : (x : Features) (k : FeatureKey) → Contains (posted x) k ↔ IsPosted x k
features_posted x k = (posted-from_member x k, member-from_posted x k)

-- no key of the features' own is one for an index alone
apart-from_own : (x : Features) (more : List FeatureKey) → ((k : FeatureKey) → Contains more k → HasKey x k → ⊥) → All (λ j. All (λ k. j ≢ k) more) (keys x)
apart-from_own x more others =
    All-from_members (λ j. All (λ k. j ≢ k) more) (keys x) (λ j cj. All-from_members (λ k. j ≢ k) more (λ k ck same.
    others k ck (subst (HasKey x) same ((features_keys x j).0 cj))))

pub features_posted_once : (x : Features) → AllPairs (λ j k. j ≢ k) (posted x)
features_posted_once x =
    let kept = parts x in
    let descriptions = description_keys x.titles x.dates x.names in
    let many = map TitleOfMany x.titles in
    elim (has_few x) as (λ b. AllPairs (λ j k. j ≢ k) (keys x ++ cond b descriptions many)) [
      | true ↦ once-append (keys x) descriptions (features_keys_once x)
          (descriptions_once x.titles x.dates x.names kept.titles kept.dates kept.names)
          (apart-from_own x descriptions (λ k c own. let (title, date, name, ct, cd, cn, is) = description-from_member x.titles x.dates x.names k c in subst (HasKey x) (sym is) own))
      | false ↦ once-append (keys x) many (features_keys_once x)
          (once-from_ascending nat_list_cmp_total texts_apart TitleOfMany (λ p q e. cc) x.titles kept.titles)
          (apart-from_own x many (λ k c own. let (title, there, is) = member-from_map TitleOfMany x.titles k c in subst (HasKey x) (sym is) own))
    ]

number-from_member : (x : Features) (k : FeatureKey) → Contains (number_keys x) k → Seeks x k
number-from_member x k h =
    elim (Contains-append_cases (map Control x.control ++ map Isbn x.isbns) (map Issn x.issns) k h) [
      | inr f ↦ (let (issn, there, is) = member-from_map Issn x.issns k f in subst (Seeks x) is there)
      | inl f ↦ elim (Contains-append_cases (map Control x.control) (map Isbn x.isbns) k f) [
        | inr g ↦ (let (isbn, there, is) = member-from_map Isbn x.isbns k g in subst (Seeks x) is there)
        | inl g ↦ (let (pair, there, is) = member-from_map Control x.control k g in subst (Seeks x) is there)
      ]
    ]

sought-from_description : (x : Features) (k : FeatureKey) → has_few x ≡ true → Contains (description_keys x.titles x.dates x.names) k → Seeks x k
sought-from_description x k few h =
    let (title, date, name, ct, cd, cn, is) = description-from_member x.titles x.dates x.names k h in
    subst (Seeks x) is (few, ct, cd, cn)

sought-from_many : (x : Features) (k : FeatureKey) → has_few x ≡ true → Contains (map TitleOfMany x.titles) k → Seeks x k
sought-from_many x k few h =
    let (title, there, is) = member-from_map TitleOfMany x.titles k h in
    subst (Seeks x) is (few, there)

sought-from_title : (x : Features) (k : FeatureKey) → has_few x ≡ false → Contains (map Title x.titles) k → Seeks x k
sought-from_title x k many h =
    let (title, there, is) = member-from_map Title x.titles k h in
    subst (Seeks x) is (ap not many, there)

sought-from_member : (x : Features) (k : FeatureKey) → Contains (sought x) k → Seeks x k
sought-from_member x k h =
    let numbers = number_keys x in
    let descriptions = description_keys x.titles x.dates x.names in
    let many = map TitleOfMany x.titles in
    let titles = map Title x.titles in
    elim (has_few x) as (λ b. has_few x ≡ b → Contains (numbers ++ cond b (many ++ descriptions) titles) k → Seeks x k) [
      | true ↦ λ few c. elim (Contains-append_cases numbers (many ++ descriptions) k c) [
        | inl number ↦ number-from_member x k number
        | inr more ↦ elim (Contains-append_cases many descriptions k more) [ inl e ↦ sought-from_many x k few e | inr e ↦ sought-from_description x k few e ]
      ]
      | false ↦ λ not-few c. elim (Contains-append_cases numbers titles k c) [
        | inl number ↦ number-from_member x k number
        | inr more ↦ sought-from_title x k not-few more
      ]
    ] refl h

from_number : (x : Features) (k : FeatureKey) → Contains (number_keys x) k → Contains (sought x) k
from_number x k h = Contains-append_left (number_keys x) (cond (has_few x) (map TitleOfMany x.titles ++ description_keys x.titles x.dates x.names) (map Title x.titles)) k h

-- the keys of titles that features seek
abbrev titled_by : Features → Bool → List FeatureKey
titled_by x few = cond few (map TitleOfMany x.titles ++ description_keys x.titles x.dates x.names) (map Title x.titles)

pub title-sought : (x : Features) (title : List ℕ) → Seeks x (Title title) → Contains (sought_by_title x) (Title title)
title-sought x title (many, ct) =
    subst (λ b. Contains (titled_by x b) (Title title)) (sym (none-few (has_few x) many)) (member-map Title x.titles title ct)

pub description-sought : (x : Features) (key : List ℕ × List ℕ × List ℕ) → Seeks x (Description key) → Contains (sought_by_title x) (Description key)
description-sought x key (few, ct, cd, cn) =
    subst (λ b. Contains (titled_by x b) (Description key)) (sym few)
    (Contains-append_right (map TitleOfMany x.titles) (description_keys x.titles x.dates x.names) (Description key) (member-from_description x.titles x.dates x.names key.0 key.1 key.2 ct cd cn))

pub many-sought : (x : Features) (title : List ℕ) → Seeks x (TitleOfMany title) → Contains (sought_by_title x) (TitleOfMany title)
many-sought x title (few, ct) =
    subst (λ b. Contains (titled_by x b) (TitleOfMany title)) (sym few)
    (Contains-append_left (map TitleOfMany x.titles) (description_keys x.titles x.dates x.names) (TitleOfMany title) (member-map TitleOfMany x.titles title ct))

member-from_sought : (x : Features) (k : FeatureKey) → Seeks x k → Contains (sought x) k
member-from_sought x (Control pair) h =
    from_number x (Control pair)
    (Contains-append_left (map Control x.control ++ map Isbn x.isbns) (map Issn x.issns) (Control pair)
    (Contains-append_left (map Control x.control) (map Isbn x.isbns) (Control pair) (member-map Control x.control pair h)))
member-from_sought x (Isbn isbn) h =
    from_number x (Isbn isbn)
    (Contains-append_left (map Control x.control ++ map Isbn x.isbns) (map Issn x.issns) (Isbn isbn)
    (Contains-append_right (map Control x.control) (map Isbn x.isbns) (Isbn isbn) (member-map Isbn x.isbns isbn h)))
member-from_sought x (Issn issn) h =
    from_number x (Issn issn)
    (Contains-append_right (map Control x.control ++ map Isbn x.isbns) (map Issn x.issns) (Issn issn) (member-map Issn x.issns issn h))
member-from_sought x (Title title) h = Contains-append_right (number_keys x) (sought_by_title x) (Title title) (title-sought x title h)
member-from_sought x (Description key) h = Contains-append_right (number_keys x) (sought_by_title x) (Description key) (description-sought x key h)
member-from_sought x (TitleOfMany title) h = Contains-append_right (number_keys x) (sought_by_title x) (TitleOfMany title) (many-sought x title h)

pub features_sought : (x : Features) (k : FeatureKey) → Contains (sought x) k ↔ Seeks x k
features_sought x k = (sought-from_member x k, member-from_sought x k)
