-- The keys under which features are posted, made of those that they seek.
use Rattle.std.proofs.Common.{◌≡◌, true, false, cond, ℕ, zero, suc, ◌+◌, ◌<◌, List, [], ◌∷◌, ◌++◌, length, map, take, drop, slice_set, slice_index_or, append_assoc, refl, sym, ◌∙◌, ap, arith}
use Rattle.std.specs.List.{flat_map}
use Rattle.std.proofs.lemmas.List.{map-append}
use Rattle.std.proofs.lemmas.List.Concat.{flat_map-cons}
use Rattle.match_features.specs.declared.features.Features.{Features}
use Rattle.match_features.specs.declared.keys.FeatureKey.{FeatureKey}
use Rattle.match_features.specs.declared.keys.FeatureKey.TheVariants.{Control, Isbn, Issn, Title, Description, TitleOfMany}
use Rattle.match_features.specs.Posted.{has_few}
use Rattle.match_features.specs.KeyLists.{dated_keys, description_keys, number_keys, posted, sought, title_alone}

-- keys of one kind, as keys of the kind that each becomes
each-title_alone : {A : Type 0} (f g : A → FeatureKey) → ((a : A) → title_alone (f a) ≡ g a) → (xs : List A) → map title_alone (map f xs) ≡ map g xs
each-title_alone f g same [] = refl
each-title_alone f g same (x ∷ xs) = λ i. same x i ∷ each-title_alone f g same xs i

-- lists of keys that stay stay one after the other
all-stay : {A : Type 0} (f : A → List FeatureKey) → ((a : A) → map title_alone (f a) ≡ f a) → (xs : List A) → map title_alone (flat_map f xs) ≡ flat_map f xs
all-stay f same [] = refl
all-stay f same (x ∷ xs) =
    ap (map title_alone) (flat_map-cons f x xs) ∙ map-append title_alone (f x) (flat_map f xs) ∙
    (λ i. same x i ++ all-stay f same xs i) ∙ sym (flat_map-cons f x xs)

descriptions-stay : (titles dates names : List (List ℕ)) → map title_alone (description_keys titles dates names) ≡ description_keys titles dates names
descriptions-stay titles dates names =
    all-stay (λ title. dated_keys title dates names)
    (λ title. all-stay (λ date. map (λ name. Description (title, date, name)) names)
    (λ date. each-title_alone (λ name. Description (title, date, name)) (λ name. Description (title, date, name)) (λ name. refl) names) dates) titles

numbers-stay : (x : Features) → map title_alone (number_keys x) ≡ number_keys x
numbers-stay x =
    map-append title_alone (map Control x.control ++ map Isbn x.isbns) (map Issn x.issns) ∙
    (λ i. (map-append title_alone (map Control x.control) (map Isbn x.isbns) ∙
    (λ j. each-title_alone Control Control (λ p. refl) x.control j ++ each-title_alone Isbn Isbn (λ p. refl) x.isbns j)) i ++
    each-title_alone Issn Issn (λ p. refl) x.issns i)

-- where there are few triples
pub posted-from_few : (x : Features) → has_few x ≡ true → map title_alone (sought x) ≡ posted x
posted-from_few x few =
    let numbers = number_keys x in
    let descriptions = description_keys x.titles x.dates x.names in
    let many = map TitleOfMany x.titles in
    let own = map Title x.titles in
    (λ i. map title_alone (numbers ++ cond (few i) (many ++ descriptions) own)) ∙
    map-append title_alone numbers (many ++ descriptions) ∙
    (λ i. numbers-stay x i ++ (map-append title_alone many descriptions ∙
    (λ j. each-title_alone TitleOfMany Title (λ p. refl) x.titles j ++ descriptions-stay x.titles x.dates x.names j)) i) ∙
    sym (append_assoc numbers own descriptions) ∙
    (λ i. (numbers ++ own) ++ cond (sym few i) descriptions many)

-- where there are more
pub posted-from_many : (x : Features) → has_few x ≡ false → sought x ++ map TitleOfMany x.titles ≡ posted x
posted-from_many x not-few =
    let descriptions = description_keys x.titles x.dates x.names in
    let many = map TitleOfMany x.titles in
    let own = map Title x.titles in
    (λ i. (number_keys x ++ cond (not-few i) (many ++ descriptions) own) ++ many) ∙
    (λ i. (number_keys x ++ own) ++ cond (sym not-few i) descriptions many)

-- the first keys are those that they become; after the next one is changed too, one more is
pub one-more : (keys : List FeatureKey) (i : ℕ) (k : FeatureKey) → i < length keys
    → slice_set (map title_alone (take i keys) ++ drop i keys) i (title_alone (slice_index_or (map title_alone (take i keys) ++ drop i keys) i k))
    ≡ map title_alone (take (i + 1) keys) ++ drop (i + 1) keys
one-more [] i k within = absurd (omega arith)
one-more (key ∷ keys) zero k within = refl
one-more (key ∷ keys) (suc i) k within =
    let next : suc i + 1 ≡ suc (i + 1) = omega arith in
    rw next (ap (λ rest. title_alone key ∷ rest) (one-more keys i k (omega arith)))
