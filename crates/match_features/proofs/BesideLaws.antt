-- The keys under which features are posted beside those of others, and those that they seek where the others do not meet what
-- is looked for.
use Rattle.std.proofs.Common.{◌≡◌, ◌≢◌, ◌↔◌, inl, inr, Bool, true, false, cond, not, ◌&&◌, arith, ℕ, List, [], ◌∷◌, ◌++◌, map, filter, All, AllPairs, Contains, refl, sym, ◌∙◌, ap, subst}
use Rattle.std.specs.declared.cmp.Ordering.{Ordering}
use Rattle.std.specs.Ordering.{is_lt}
use Rattle.std.specs.Cmp.{IsTotalOrder}
use Rattle.std.specs.Cmp.Lexicographic.{nat_list_cmp_total}
use Rattle.std.specs.FinMap.{IsAntisymmetric}
use Rattle.std.specs.List.{list_all}
use Rattle.std.proofs.lemmas.List.Elements.{filter-append, All-append, Contains-append_left, Contains-append_right, Contains-append_cases}
use Rattle.std.proofs.lemmas.List.Kept.{AllPairs-filter}
use Rattle.union_base.specs.Both.{both_true, true_both}
use Rattle.union_base.specs.Ties.{texts_apart}
use Rattle.union_base.specs.SortedLists.{is_ascending, has}
use Rattle.merge_laws.proofs.Places.{Contains-cases, All-from_members}
use Rattle.match_features.specs.declared.features.Features.{Features}
use Rattle.match_features.specs.declared.keys.FeatureKey.{FeatureKey}
use Rattle.match_features.specs.declared.keys.FeatureKey.TheVariants.{Control, Isbn, Issn, Title, Description, TitleOfMany}
use Rattle.match_features.specs.Kept.{texts_cmp, pairs_cmp}
use Rattle.match_features.specs.KeptLaws.{pairs_total, pairs_tie}
use Rattle.match_features.specs.JoinLaws.{parts}
use Rattle.match_features.specs.Meeting.{meet_by_isbn, meet_by_issn, meet_by_title, meet}
use Rattle.match_features.specs.Keys.{HasKey}
use Rattle.match_features.specs.Posted.{has_few, IsPosted, is_posted, Seeks, IsPairOf, SeeksBeside, has_each, are_alike, has_keys_of}
use Rattle.match_features.specs.KeyLists.{description_keys, number_keys, sought_by_title, beside, numbers_beside, descriptions_beside, beside_by_title}
use Rattle.match_features.proofs.MemberLaws.{or_left, has-from_member, member-from_has, common-from_member, member-filter, member-from_filter, member-map, member-from_map, once-from_ascending, once-append}
use Rattle.match_features.proofs.KeyLaws.{keys, features_keys, features_keys_once}
use Rattle.match_features.proofs.PostedLaws.{features_seeking_laws, told-from_posted, posted-from_told, description-from_member, member-from_description, descriptions_once, posted-from_key, none-few, title-sought, description-sought, many-sought, features_sought}

-- the keys under which x is posted beside those of y, where x has the keys of y
abbrev pub posted_beside : Features → Features → List FeatureKey
posted_beside x y =
    numbers_beside x y ++ map Title (beside texts_cmp x.titles y.titles) ++ beside_by_title x y (beside texts_cmp x.titles y.titles)

-- the keys that x seeks, but for the control pairs that y has
abbrev pub sought_beside : Features → Features → List FeatureKey
sought_beside x y =
    map Control (beside pairs_cmp x.control y.control) ++ map Isbn x.isbns ++ map Issn x.issns ++ sought_by_title x

-- ---- the members of one list that another has not

module _ {K : Type 0} {R : K → K → Ordering} (o : IsTotalOrder R) (ties : IsAntisymmetric R) where
  member-from_beside : (xs ys : List K) (q : K) → Contains (beside R xs ys) q → Contains xs q × (Contains ys q → ⊥)
  member-from_beside xs ys q h =
      let kept = member-from_filter (λ x. not (has R ys x)) xs q h in
      (kept.0, λ c. let clash : false ≡ true = ap not (sym (has-from_member o ties ys q c)) ∙ kept.1 in cc)

  -- where one list has each member of the other
  each_member : (xs ys : List K) → has_each R xs ys ≡ true → (q : K) → Contains ys q → Contains xs q
  each_member xs [] h q (k, lt, e) = absurd (omega arith)
  each_member xs (y ∷ ys) h q c =
      let both = both_true (has R xs y) (has_each R xs ys) h in
      elim (Contains-cases y ys q c) [
        | inl same ↦ subst (Contains xs) same (member-from_has o ties xs y both.0)
        | inr later ↦ each_member xs ys both.1 q later
      ]

module _ {K : Type 0} (R : K → K → Ordering) where
  beside-from_member : (xs ys : List K) (q : K) → Contains xs q → has R ys q ≡ false → Contains (beside R xs ys) q
  beside-from_member xs ys q c e = member-filter (λ x. not (has R ys x)) xs q c (ap not e)

  -- what a filter leaves of an ascending list ascends
  above-filter : (p : K → Bool) (x : K) (ys : List K) → list_all (λ y. is_lt (R x y)) ys ≡ true → list_all (λ y. is_lt (R x y)) (filter p ys) ≡ true
  above-filter p x [] h = refl
  above-filter p x (y ∷ ys) h =
      let both = both_true (is_lt (R x y)) (list_all (λ y. is_lt (R x y)) ys) h in
      let rest = above-filter p x ys both.1 in
      elim (p y) as (λ b. list_all (λ y. is_lt (R x y)) (cond b (y ∷ filter p ys) (filter p ys)) ≡ true) [
        | true ↦ true_both (is_lt (R x y)) (list_all (λ y. is_lt (R x y)) (filter p ys)) both.0 rest
        | false ↦ rest
      ]

  ascending-filter : (p : K → Bool) (xs : List K) → is_ascending R xs ≡ true → is_ascending R (filter p xs) ≡ true
  ascending-filter p [] h = refl
  ascending-filter p (x ∷ xs) h =
      let both = both_true (list_all (λ y. is_lt (R x y)) xs) (is_ascending R xs) h in
      let rest = ascending-filter p xs both.1 in
      elim (p x) as (λ b. is_ascending R (cond b (x ∷ filter p xs) (filter p xs)) ≡ true) [
        | true ↦ true_both (list_all (λ y. is_lt (R x y)) (filter p xs)) (is_ascending R (filter p xs)) (above-filter p x xs both.0) rest
        | false ↦ rest
      ]

  ascending-beside : (xs ys : List K) → is_ascending R xs ≡ true → is_ascending R (beside R xs ys) ≡ true
  ascending-beside xs ys h = ascending-filter (λ x. not (has R ys x)) xs h

texts_from : (xs ys : List (List ℕ)) (q : List ℕ) → Contains (beside texts_cmp xs ys) q → Contains xs q × (Contains ys q → ⊥)
texts_from = member-from_beside nat_list_cmp_total texts_apart

-- values that are changed after a filter, or before it
map_filter : {A B : Type 0} (f : A → B) (p : B → Bool) (xs : List A) → filter p (map f xs) ≡ map f (filter (λ a. p (f a)) xs)
map_filter f p [] = refl
map_filter f p (x ∷ xs) =
    elim (p (f x)) as (λ b. cond b (f x ∷ filter p (map f xs)) (filter p (map f xs)) ≡ map f (cond b (x ∷ filter (λ a. p (f a)) xs) (filter (λ a. p (f a)) xs))) [
      | true ↦ ap (λ ys. f x ∷ ys) (map_filter f p xs)
      | false ↦ map_filter f p xs
    ]

-- ---- features that have all that others have

record HasAll (x y : Features) : Type 0 where
  alike : has_few x ≡ has_few y
  control : (q : List ℕ × List ℕ) → Contains y.control q → Contains x.control q
  isbns : (q : List ℕ) → Contains y.isbns q → Contains x.isbns q
  issns : (q : List ℕ) → Contains y.issns q → Contains x.issns q
  titles : (q : List ℕ) → Contains y.titles q → Contains x.titles q
  dates : (q : List ℕ) → Contains y.dates q → Contains x.dates q
  names : (q : List ℕ) → Contains y.names q → Contains x.names q

same_few : (a b : Bool) → cond a b (not b) ≡ true → a ≡ b
same_few true b h = sym h
same_few false true h = cc
same_few false false h = refl

has_all : (x y : Features) → has_keys_of x y ≡ true → HasAll x y
has_all x y h =
    let control = has_each pairs_cmp x.control y.control in
    let isbns = has_each texts_cmp x.isbns y.isbns in
    let issns = has_each texts_cmp x.issns y.issns in
    let titles = has_each texts_cmp x.titles y.titles in
    let dates = has_each texts_cmp x.dates y.dates in
    let names = has_each texts_cmp x.names y.names in
    let all = both_true (are_alike x y && control && isbns && issns && titles && dates) names h in
    let six = both_true (are_alike x y && control && isbns && issns && titles) dates all.0 in
    let five = both_true (are_alike x y && control && isbns && issns) titles six.0 in
    let four = both_true (are_alike x y && control && isbns) issns five.0 in
    let three = both_true (are_alike x y && control) isbns four.0 in
    let two = both_true (are_alike x y) control three.0 in
    let each = each_member nat_list_cmp_total texts_apart in
    record {
      alike = same_few (has_few x) (has_few y) two.0;
      control = each_member pairs_total pairs_tie x.control y.control two.1;
      isbns = each x.isbns y.isbns three.1;
      issns = each x.issns y.issns four.1;
      titles = each x.titles y.titles five.1;
      dates = each x.dates y.dates six.1;
      names = each x.names y.names all.1;
    }

-- the key has a title, or a date, of these features
abbrev HasTitleOf : Features → FeatureKey → Type 0
HasTitleOf x (Description key) = Contains x.titles key.0
HasTitleOf x key = ⊥

abbrev HasDateOf : Features → FeatureKey → Type 0
HasDateOf x (Description key) = Contains x.dates key.1
HasDateOf x key = ⊥

-- lists of which one alone has keys of a kind have none in common
apart-by : (P : FeatureKey → Type 0) (one other : List FeatureKey) → ((k : FeatureKey) → Contains one k → P k → ⊥) → ((k : FeatureKey) → Contains other k → P k)
    → All (λ j. All (λ k. j ≢ k) other) one
apart-by P one other none each =
    All-from_members (λ j. All (λ k. j ≢ k) other) one (λ j cj. All-from_members (λ k. j ≢ k) other (λ k ck same.
    none j cj (subst P (sym same) (each k ck))))

module _ (x y : Features) where
  -- the titles that y has not
  abbrev new_titles : List (List ℕ)
  new_titles = beside texts_cmp x.titles y.titles

  abbrev new_dates : List (List ℕ)
  new_dates = beside texts_cmp x.dates y.dates

  abbrev new_names : List (List ℕ)
  new_names = beside texts_cmp x.names y.names

  -- ---- the keys of x's own

  abbrev is_new : FeatureKey → Bool
  is_new k = not (is_posted k y)

  abbrev own_beside : List FeatureKey
  own_beside = numbers_beside x y ++ map Title new_titles

  own-filtered : filter is_new (keys x) ≡ own_beside
  own-filtered =
      let control = map Control x.control in
      let isbns = map Isbn x.isbns in
      let issns = map Issn x.issns in
      filter-append is_new (control ++ isbns ++ issns) (map Title x.titles) ∙
      (λ i. (filter-append is_new (control ++ isbns) issns ∙
      (λ j. (filter-append is_new control isbns ∙ (λ k. map_filter Control is_new x.control k ++ map_filter Isbn is_new x.isbns k)) j ++
      map_filter Issn is_new x.issns j)) i ++ map_filter Title is_new x.titles i)

  new-from_none : (k : FeatureKey) → (IsPosted y k → ⊥) → is_new k ≡ true
  new-from_none k none =
      elim (is_posted k y) as (λ b. is_posted k y ≡ b → not b ≡ true) [
        | true ↦ λ e. absurd (none (posted-from_told y k e))
        | false ↦ λ e. refl
      ] refl

  none-from_new : (k : FeatureKey) → is_new k ≡ true → IsPosted y k → ⊥
  none-from_new k new p = let clash : false ≡ true = ap not (sym (told-from_posted y k p)) ∙ new in cc

  own-from_member : (k : FeatureKey) → Contains own_beside k → HasKey x k × (IsPosted y k → ⊥)
  own-from_member k h =
      let kept = member-from_filter is_new (keys x) k (subst (λ (found : List FeatureKey). Contains found k) (sym own-filtered) h) in
      ((features_keys x k).0 kept.0, none-from_new k kept.1)

  member-from_own : (k : FeatureKey) → HasKey x k → (IsPosted y k → ⊥) → Contains own_beside k
  member-from_own k has none =
      subst (λ (found : List FeatureKey). Contains found k) own-filtered (member-filter is_new (keys x) k ((features_keys x k).1 has) (new-from_none k none))

  own_once : AllPairs (λ j k. j ≢ k) own_beside
  own_once = subst (AllPairs (λ (j k : FeatureKey). j ≢ k)) own-filtered (AllPairs-filter (λ (j k : FeatureKey). j ≢ k) is_new (keys x) (features_keys_once x))

  -- ---- each title with each date and each name

  abbrev by_title : List FeatureKey
  by_title = description_keys new_titles x.dates x.names

  abbrev by_date : List FeatureKey
  by_date = description_keys y.titles new_dates x.names

  abbrev by_name : List FeatureKey
  by_name = description_keys y.titles y.dates new_names

  -- what is x's and not y's
  abbrev IsBeside : FeatureKey → Type 0
  IsBeside k = IsPosted x k × (IsPosted y k → ⊥)

  by_title-from : has_few x ≡ true → (k : FeatureKey) → Contains by_title k → IsBeside k
  by_title-from few k h =
      let (t, d, n, ct, cd, cn, is) = description-from_member new_titles x.dates x.names k h in
      let new = texts_from x.titles y.titles t ct in
      subst IsBeside is ((few, new.0, cd, cn), λ p. new.1 p.1)

  by_title-new : (k : FeatureKey) → Contains by_title k → HasTitleOf y k → ⊥
  by_title-new k h p =
      let (t, d, n, ct, cd, cn, is) = description-from_member new_titles x.dates x.names k h in
      (texts_from x.titles y.titles t ct).1 (subst (HasTitleOf y) (sym is) p)

  by_date-old : (k : FeatureKey) → Contains by_date k → HasTitleOf y k
  by_date-old k h = let (t, d, n, ct, cd, cn, is) = description-from_member y.titles new_dates x.names k h in subst (HasTitleOf y) is ct

  by_date-new : (k : FeatureKey) → Contains by_date k → HasDateOf y k → ⊥
  by_date-new k h p =
      let (t, d, n, ct, cd, cn, is) = description-from_member y.titles new_dates x.names k h in
      (texts_from x.dates y.dates d cd).1 (subst (HasDateOf y) (sym is) p)

  by_name-old_title : (k : FeatureKey) → Contains by_name k → HasTitleOf y k
  by_name-old_title k h = let (t, d, n, ct, cd, cn, is) = description-from_member y.titles y.dates new_names k h in subst (HasTitleOf y) is ct

  by_name-old_date : (k : FeatureKey) → Contains by_name k → HasDateOf y k
  by_name-old_date k h = let (t, d, n, ct, cd, cn, is) = description-from_member y.titles y.dates new_names k h in subst (HasDateOf y) is cd

  module _ (all : HasAll x y) where
    by_date-from : has_few x ≡ true → (k : FeatureKey) → Contains by_date k → IsBeside k
    by_date-from few k h =
        let (t, d, n, ct, cd, cn, is) = description-from_member y.titles new_dates x.names k h in
        let new = texts_from x.dates y.dates d cd in
        subst IsBeside is ((few, all.titles t ct, new.0, cn), λ p. new.1 p.2)

    by_name-from : has_few x ≡ true → (k : FeatureKey) → Contains by_name k → IsBeside k
    by_name-from few k h =
        let (t, d, n, ct, cd, cn, is) = description-from_member y.titles y.dates new_names k h in
        let new = texts_from x.names y.names n cn in
        subst IsBeside is ((few, all.titles t ct, all.dates d cd, new.0), λ p. new.1 p.3)

    descriptions-from_member : has_few x ≡ true → (k : FeatureKey) → Contains (descriptions_beside x y new_titles) k → IsBeside k
    descriptions-from_member few k h =
        elim (Contains-append_cases (by_title ++ by_date) by_name k h) [
          | inr last ↦ by_name-from few k last
          | inl first ↦ elim (Contains-append_cases by_title by_date k first) [
            | inl e ↦ by_title-from few k e
            | inr e ↦ by_date-from few k e
          ]
        ]

    -- one of the three parts of what y is not posted under is not y's
    member-from_descriptions : (key : List ℕ × List ℕ × List ℕ) → IsBeside (Description key) → Contains (descriptions_beside x y new_titles) (Description key)
    member-from_descriptions key ((few, ct, cd, cn), none) =
        let k : FeatureKey = Description key in
        elim (has texts_cmp y.titles key.0) as (λ b. has texts_cmp y.titles key.0 ≡ b → Contains (descriptions_beside x y new_titles) k) [
          | false ↦ λ e. Contains-append_left (by_title ++ by_date) by_name k (Contains-append_left by_title by_date k
              (member-from_description new_titles x.dates x.names key.0 key.1 key.2 (beside-from_member texts_cmp x.titles y.titles key.0 ct e) cd cn))
          | true ↦ λ e. elim (has texts_cmp y.dates key.1) as (λ b. has texts_cmp y.dates key.1 ≡ b → Contains (descriptions_beside x y new_titles) k) [
            | false ↦ λ f. Contains-append_left (by_title ++ by_date) by_name k (Contains-append_right by_title by_date k
                (member-from_description y.titles new_dates x.names key.0 key.1 key.2 (member-from_has nat_list_cmp_total texts_apart y.titles key.0 e)
                (beside-from_member texts_cmp x.dates y.dates key.1 cd f) cn))
            | true ↦ λ f. elim (has texts_cmp y.names key.2) as (λ b. has texts_cmp y.names key.2 ≡ b → Contains (descriptions_beside x y new_titles) k) [
              | false ↦ λ g. Contains-append_right (by_title ++ by_date) by_name k
                  (member-from_description y.titles y.dates new_names key.0 key.1 key.2 (member-from_has nat_list_cmp_total texts_apart y.titles key.0 e)
                  (member-from_has nat_list_cmp_total texts_apart y.dates key.1 f) (beside-from_member texts_cmp x.names y.names key.2 cn g))
              | true ↦ λ g. absurd (none (
                sym all.alike ∙ few,
                member-from_has nat_list_cmp_total texts_apart y.titles key.0 e,
                member-from_has nat_list_cmp_total texts_apart y.dates key.1 f,
                member-from_has nat_list_cmp_total texts_apart y.names key.2 g,
              ))
            ] refl
          ] refl
        ] refl

    many-from_member : has_few x ≡ false → (k : FeatureKey) → Contains (map TitleOfMany new_titles) k → IsBeside k
    many-from_member many k h =
        let (t, there, is) = member-from_map TitleOfMany new_titles k h in
        let new = texts_from x.titles y.titles t there in
        subst IsBeside is ((ap not many, new.0), λ p. new.1 p.1)

    member-from_many : (title : List ℕ) → IsBeside (TitleOfMany title) → Contains (map TitleOfMany new_titles) (TitleOfMany title)
    member-from_many title ((many, ct), none) =
        elim (has texts_cmp y.titles title) as (λ b. has texts_cmp y.titles title ≡ b → Contains (map TitleOfMany new_titles) (TitleOfMany title)) [
          | false ↦ λ e. member-map TitleOfMany new_titles title (beside-from_member texts_cmp x.titles y.titles title ct e)
          | true ↦ λ e. absurd (none (ap not (sym all.alike) ∙ many, member-from_has nat_list_cmp_total texts_apart y.titles title e))
        ] refl

    -- ---- all of them

    abbrev with_more : Bool → List FeatureKey
    with_more few = own_beside ++ cond few (descriptions_beside x y new_titles) (map TitleOfMany new_titles)

    own-is_beside : (k : FeatureKey) → Contains own_beside k → IsBeside k
    own-is_beside k h = let own = own-from_member k h in (posted-from_key x k own.0, own.1)

    beside-from_posted : (k : FeatureKey) → Contains (posted_beside x y) k → IsBeside k
    beside-from_posted k h =
        elim (has_few x) as (λ b. has_few x ≡ b → Contains (with_more b) k → IsBeside k) [
          | true ↦ λ few c. elim (Contains-append_cases own_beside (descriptions_beside x y new_titles) k c) [
            | inl own ↦ own-is_beside k own
            | inr more ↦ descriptions-from_member few k more
          ]
          | false ↦ λ many c. elim (Contains-append_cases own_beside (map TitleOfMany new_titles) k c) [
            | inl own ↦ own-is_beside k own
            | inr more ↦ many-from_member many k more
          ]
        ] refl h

    own-posted : (k : FeatureKey) → HasKey x k → (IsPosted y k → ⊥) → Contains (posted_beside x y) k
    own-posted k has none =
        Contains-append_left own_beside (cond (has_few x) (descriptions_beside x y new_titles) (map TitleOfMany new_titles)) k (member-from_own k has none)

    posted-from_beside : (k : FeatureKey) → IsBeside k → Contains (posted_beside x y) k
    posted-from_beside (Control pair) (mine, none) = own-posted (Control pair) mine none
    posted-from_beside (Isbn isbn) (mine, none) = own-posted (Isbn isbn) mine none
    posted-from_beside (Issn issn) (mine, none) = own-posted (Issn issn) mine none
    posted-from_beside (Title title) (mine, none) = own-posted (Title title) mine none
    posted-from_beside (Description key) is =
        subst (λ b. Contains (with_more b) (Description key)) (sym is.0.0)
        (Contains-append_right own_beside (descriptions_beside x y new_titles) (Description key) (member-from_descriptions key is))
    posted-from_beside (TitleOfMany title) is =
        subst (λ b. Contains (with_more b) (TitleOfMany title)) (sym (none-few (has_few x) is.0.0))
        (Contains-append_right own_beside (map TitleOfMany new_titles) (TitleOfMany title) (member-from_many title is))

  descriptions-once : AllPairs (λ j k. j ≢ k) (descriptions_beside x y new_titles)
  descriptions-once =
      let mine = parts x in
      let its = parts y in
      let titles = ascending-beside texts_cmp x.titles y.titles mine.titles in
      let dates = ascending-beside texts_cmp x.dates y.dates mine.dates in
      let names = ascending-beside texts_cmp x.names y.names mine.names in
      once-append (by_title ++ by_date) by_name
      (once-append by_title by_date
      (descriptions_once new_titles x.dates x.names titles mine.dates mine.names)
      (descriptions_once y.titles new_dates x.names its.titles dates mine.names)
      (apart-by (HasTitleOf y) by_title by_date by_title-new by_date-old))
      (descriptions_once y.titles y.dates new_names its.titles its.dates names)
      (All-append (λ j. All (λ k. j ≢ k) by_name) by_title by_date
      (apart-by (HasTitleOf y) by_title by_name by_title-new by_name-old_title)
      (apart-by (HasDateOf y) by_date by_name by_date-new by_name-old_date))

  -- keys for an index alone are none of x's own
  described-not_own : (k : FeatureKey) → Contains (descriptions_beside x y new_titles) k → HasKey x k → ⊥
  described-not_own k h own =
      let not_own : (titles dates names : List (List ℕ)) → Contains (description_keys titles dates names) k → ⊥ = λ titles dates names c.
      let (t, d, n, ct, cd, cn, is) = description-from_member titles dates names k c in subst (HasKey x) (sym is) own in
      elim (Contains-append_cases (by_title ++ by_date) by_name k h) [
        | inr last ↦ not_own y.titles y.dates new_names last
        | inl first ↦ elim (Contains-append_cases by_title by_date k first) [
          | inl e ↦ not_own new_titles x.dates x.names e
          | inr e ↦ not_own y.titles new_dates x.names e
        ]
      ]

  apart-from_own : (more : List FeatureKey) → ((k : FeatureKey) → Contains more k → HasKey x k → ⊥) → All (λ j. All (λ k. j ≢ k) more) own_beside
  apart-from_own more others = apart-by (λ k. HasKey x k → ⊥) own_beside more (λ k c none. none (own-from_member k c).0) others

  posted_beside-once : AllPairs (λ j k. j ≢ k) (posted_beside x y)
  posted_beside-once =
      elim (has_few x) as (λ b. AllPairs (λ j k. j ≢ k) (own_beside ++ cond b (descriptions_beside x y new_titles) (map TitleOfMany new_titles))) [
        | true ↦ once-append own_beside (descriptions_beside x y new_titles) own_once descriptions-once
            (apart-from_own (descriptions_beside x y new_titles) described-not_own)
        | false ↦ once-append own_beside (map TitleOfMany new_titles) own_once
            (once-from_ascending nat_list_cmp_total texts_apart TitleOfMany (λ p q e. cc) new_titles (ascending-beside texts_cmp x.titles y.titles (parts x).titles))
            (apart-from_own (map TitleOfMany new_titles) (λ k c own. let (title, there, is) = member-from_map TitleOfMany new_titles k c in subst (HasKey x) (sym is) own))
      ]

posted-kept : (x y : Features) → HasAll x y → (k : FeatureKey) → IsPosted y k → IsPosted x k
posted-kept x y all (Control pair) h = all.control pair h
posted-kept x y all (Isbn isbn) h = all.isbns isbn h
posted-kept x y all (Issn issn) h = all.issns issn h
posted-kept x y all (Title title) h = all.titles title h
posted-kept x y all (Description key) (few, ct, cd, cn) = (all.alike ∙ few, all.titles key.0 ct, all.dates key.1 cd, all.names key.2 cn)
posted-kept x y all (TitleOfMany title) (many, ct) = (ap not all.alike ∙ many, all.titles title ct)

-- what has all that others have is posted under all keys of theirs
pub features_kept : (x y : Features) → has_keys_of x y ≡ true → (k : FeatureKey) → IsPosted y k → IsPosted x k
features_kept x y h = posted-kept x y (has_all x y h)

pub features_beside : (x y : Features) → has_keys_of x y ≡ true → (k : FeatureKey) → Contains (posted_beside x y) k ↔ (IsPosted x k × (IsPosted y k → ⊥))
features_beside x y h k = (beside-from_posted x y (has_all x y h) k, posted-from_beside x y (has_all x y h) k)

pub features_beside_once : (x y : Features) → AllPairs (λ j k. j ≢ k) (posted_beside x y)
features_beside_once x y = posted_beside-once x y

-- ---- what is sought beside

module _ (x y : Features) where
  abbrev new_control : List FeatureKey
  new_control = map Control (beside pairs_cmp x.control y.control)

  abbrev isbns : List FeatureKey
  isbns = map Isbn x.isbns

  abbrev issns : List FeatureKey
  issns = map Issn x.issns

  number-from_new : (k : FeatureKey) → Contains (new_control ++ isbns ++ issns) k → Contains (number_keys x) k
  number-from_new k h =
      let control = map Control x.control in
      elim (Contains-append_cases (new_control ++ isbns) issns k h) [
        | inr e ↦ Contains-append_right (control ++ isbns) issns k e
        | inl e ↦ Contains-append_left (control ++ isbns) issns k (elim (Contains-append_cases new_control isbns k e) [
          | inr f ↦ Contains-append_right control isbns k f
          | inl f ↦
              (let (pair, there, is) = member-from_map Control (beside pairs_cmp x.control y.control) k f in
              Contains-append_left control isbns k (subst (Contains control) is
              (member-map Control x.control pair (member-from_beside pairs_total pairs_tie x.control y.control pair there).0)))
        ])
      ]

  sought-from_beside : (k : FeatureKey) → Contains (sought_beside x y) k → Seeks x k
  sought-from_beside k h =
      (features_sought x k).0 (elim (Contains-append_cases (new_control ++ isbns ++ issns) (sought_by_title x) k h) [
        | inl number ↦ Contains-append_left (number_keys x) (sought_by_title x) k (number-from_new k number)
        | inr titled ↦ Contains-append_right (number_keys x) (sought_by_title x) k titled
      ])

  -- no control pair of y's is sought beside

  no_pair-titles : (f : List ℕ → FeatureKey) → ((t : List ℕ) → IsPairOf y (f t) → ⊥) → (ts : List (List ℕ)) (k : FeatureKey) → Contains (map f ts) k → IsPairOf y k → ⊥
  no_pair-titles f none ts k h p = let (t, there, is) = member-from_map f ts k h in none t (subst (IsPairOf y) (sym is) p)

  no_pair-descriptions : (k : FeatureKey) → Contains (description_keys x.titles x.dates x.names) k → IsPairOf y k → ⊥
  no_pair-descriptions k h p =
      let (t, d, n, ct, cd, cn, is) = description-from_member x.titles x.dates x.names k h in
      subst (IsPairOf y) (sym is) p

  no_pair-titled : (k : FeatureKey) → Contains (sought_by_title x) k → IsPairOf y k → ⊥
  no_pair-titled k h =
      let many = map TitleOfMany x.titles in
      let descriptions = description_keys x.titles x.dates x.names in
      elim (has_few x) as (λ b. Contains (cond b (many ++ descriptions) (map Title x.titles)) k → IsPairOf y k → ⊥) [
        | true ↦ λ c p. elim (Contains-append_cases many descriptions k c) [
          | inl e ↦ no_pair-titles TitleOfMany (λ t q. q) x.titles k e p
          | inr e ↦ no_pair-descriptions k e p
        ]
        | false ↦ λ c p. no_pair-titles Title (λ t q. q) x.titles k c p
      ] h

  no_pair-new : (k : FeatureKey) → Contains new_control k → IsPairOf y k → ⊥
  no_pair-new k h p =
      let (pair, there, is) = member-from_map Control (beside pairs_cmp x.control y.control) k h in
      (member-from_beside pairs_total pairs_tie x.control y.control pair there).1 (subst (IsPairOf y) (sym is) p)

  no_pair-beside : (k : FeatureKey) → Contains (sought_beside x y) k → IsPairOf y k → ⊥
  no_pair-beside k h p =
      elim (Contains-append_cases (new_control ++ isbns ++ issns) (sought_by_title x) k h) [
        | inr titled ↦ no_pair-titled k titled p
        | inl number ↦ elim (Contains-append_cases (new_control ++ isbns) issns k number) [
          | inr e ↦ (let (issn, there, is) = member-from_map Issn x.issns k e in subst (IsPairOf y) (sym is) p)
          | inl e ↦ elim (Contains-append_cases new_control isbns k e) [
            | inr f ↦ (let (isbn, there, is) = member-from_map Isbn x.isbns k f in subst (IsPairOf y) (sym is) p)
            | inl f ↦ no_pair-new k f p
          ]
        ]
      ]

  -- all else that x seeks is

  number-beside : (k : FeatureKey) → Contains (new_control ++ isbns ++ issns) k → Contains (sought_beside x y) k
  number-beside k h = Contains-append_left (new_control ++ isbns ++ issns) (sought_by_title x) k h

  titled-beside : (k : FeatureKey) → Contains (sought_by_title x) k → Contains (sought_beside x y) k
  titled-beside k h = Contains-append_right (new_control ++ isbns ++ issns) (sought_by_title x) k h

  beside-from_sought : (k : FeatureKey) → SeeksBeside x y k → Contains (sought_beside x y) k
  beside-from_sought (Control pair) (s, none) =
      elim (has pairs_cmp y.control pair) as (λ b. has pairs_cmp y.control pair ≡ b → Contains (sought_beside x y) (Control pair)) [
        | true ↦ λ e. absurd (none (member-from_has pairs_total pairs_tie y.control pair e))
        | false ↦ λ e. number-beside (Control pair) (Contains-append_left (new_control ++ isbns) issns (Control pair) (Contains-append_left new_control isbns (Control pair)
            (member-map Control (beside pairs_cmp x.control y.control) pair (beside-from_member pairs_cmp x.control y.control pair s e))))
      ] refl
  beside-from_sought (Isbn isbn) (s, none) =
      number-beside (Isbn isbn) (Contains-append_left (new_control ++ isbns) issns (Isbn isbn) (Contains-append_right new_control isbns (Isbn isbn) (member-map Isbn x.isbns isbn s)))
  beside-from_sought (Issn issn) (s, none) = number-beside (Issn issn) (Contains-append_right (new_control ++ isbns) issns (Issn issn) (member-map Issn x.issns issn s))
  beside-from_sought (Title title) (s, none) = titled-beside (Title title) (title-sought x title s)
  beside-from_sought (Description key) (s, none) = titled-beside (Description key) (description-sought x key s)
  beside-from_sought (TitleOfMany title) (s, none) = titled-beside (TitleOfMany title) (many-sought x title s)

  pub features_sought_beside : (k : FeatureKey) → Contains (sought_beside x y) k ↔ SeeksBeside x y k
  features_sought_beside k = (λ h. (sought-from_beside k h, no_pair-beside k h), beside-from_sought k)

  -- what has a control pair of y's meets y
  met-from_control : (z : Features) (pair : List ℕ × List ℕ) → Contains y.control pair → Contains z.control pair → meet y z ≡ true
  met-from_control z pair mine its =
      or_left _ (meet_by_title y z) (or_left _ (meet_by_issn y z) (or_left _ (meet_by_isbn y z) (common-from_member pairs_total pairs_tie y.control z.control pair mine its)))

  met-from_pair : (z : Features) (k : FeatureKey) → IsPairOf y k → IsPosted z k → meet y z ≡ true
  met-from_pair z (Control pair) mine its = met-from_control z pair mine its
  met-from_pair z (Isbn isbn) mine its = absurd mine
  met-from_pair z (Issn issn) mine its = absurd mine
  met-from_pair z (Title title) mine its = absurd mine
  met-from_pair z (Description key) mine its = absurd mine
  met-from_pair z (TitleOfMany title) mine its = absurd mine

  pub features_found_beside : (z : Features) → meet x z ≡ true → meet y z ≡ false → (k : FeatureKey) × Contains (sought_beside x y) k × IsPosted z k
  features_found_beside z met apart =
      let (k, s, p) = features_seeking_laws.matching x z met in
      (k, beside-from_sought k (s, λ mine. let clash : true ≡ false = sym (met-from_pair z k mine p) ∙ apart in cc), p)
