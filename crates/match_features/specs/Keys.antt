-- The keys of features: control pairs, ISBNs, ISSNs and titles. Features that meet have one in common.
use Rattle.std.specs.Prelude.{Bool, false, nat_eq, ◌&&◌, ◌||◌, [], ◌∷◌, ◌++◌, Contains}
use Rattle.std.specs.Hash.{HashWrites, u8, str}
use Rattle.std.specs.Cmp.Lexicographic.{pointwise}
use Rattle.union_base.specs.SortedLists.{have_common}
use Rattle.match_features.specs.declared.features.Features.{Features}
use Rattle.match_features.specs.declared.keys.FeatureKey.{FeatureKey}
use Rattle.match_features.specs.declared.keys.FeatureKey.TheVariants.{Control, Isbn, Issn, Title, Description, TitleOfMany}
use Rattle.match_features.specs.Kept.{texts_cmp, pairs_cmp}

-- the features have the key; the last two kinds are for an index alone: see Posted.antt
abbrev pub HasKey : Features → FeatureKey → Type 0
HasKey x (Control pair) = Contains x.control pair
HasKey x (Isbn isbn) = Contains x.isbns isbn
HasKey x (Issn issn) = Contains x.issns issn
HasKey x (Title title) = Contains x.titles title
HasKey x (Description description) = ⊥
HasKey x (TitleOfMany title) = ⊥

-- whether two have a key in common
abbrev pub share_key : Features → Features → Bool
share_key x y =
    have_common pairs_cmp x.control y.control
    || have_common texts_cmp x.isbns y.isbns
    || have_common texts_cmp x.issns y.issns
    || have_common texts_cmp x.titles y.titles

-- keys of one kind compare as equal where their texts do, and keys of two kinds never
abbrev pub key_eq : FeatureKey → FeatureKey → Bool
key_eq (Control p) (Control q) = pointwise nat_eq p.0 q.0 && pointwise nat_eq p.1 q.1
key_eq (Isbn a) (Isbn b) = pointwise nat_eq a b
key_eq (Issn a) (Issn b) = pointwise nat_eq a b
key_eq (Title a) (Title b) = pointwise nat_eq a b
key_eq (Description p) (Description q) = pointwise nat_eq p.0 q.0 && pointwise nat_eq p.1 q.1 && pointwise nat_eq p.2 q.2
key_eq (TitleOfMany a) (TitleOfMany b) = pointwise nat_eq a b
key_eq j k = false

-- what a key gives to a hasher: its kind and its texts, those of a description in one piece
abbrev pub key_writes : FeatureKey → HashWrites
key_writes (Control p) = u8 0 ++ str p.0 ++ str p.1
key_writes (Isbn a) = u8 1 ++ a ∷ []
key_writes (Issn a) = u8 2 ++ a ∷ []
key_writes (Title a) = u8 3 ++ a ∷ []
key_writes (Description p) = u8 4 ++ (p.0 ++ p.1 ++ p.2) ∷ []
key_writes (TitleOfMany a) = u8 5 ++ a ∷ []
