-- The united fields of records, dealt to those that stay as they are and those that get a subfield 5.
use Rattle.std.proofs.Common.{◌≡◌, ℕ, ◌+◌, ◌<◌, Bool, Bor, true, false, ◌||◌, List, [], ◌∷◌, ◌++◌, length, append-nil, take, get_or, refl, sym, ap, ap₂, ◌∙◌}
use Rattle.std.specs.Prelude.{if◌then◌else◌}
use Rattle.std.specs.Ordering.{is_lt}
use Rattle.std.specs.List.{list_all, flat_map}
use Rattle.std.specs.Ordering.{eq_by_cmp}
use Rattle.std.proofs.lemmas.Grind.{flat_map-append}
use Rattle.std.proofs.lemmas.List.{map-append}
use Rattle.std.proofs.lemmas.List.Concat.{flat_map-cons}
use Rattle.std.proofs.lemmas.List.Folds.{list_any-append}
use Rattle.union_base.specs.Both.{both_true, true_both}
use Rattle.union_base.specs.FieldLaws.{field_cmp-IsAntisymmetric}
use Rattle.union_base.specs.FieldOrder.{field_cmp}
use Rattle.union_base.specs.SortedLists.{is_ascending, union, set_of, has}
use Rattle.union_base.specs.declared.field.Field.{Field}
use Rattle.union_base.proofs.SortedListLaws.{has-union, is_ascending-union, same_ascending, union-commutative}
use Rattle.marc_fields.proofs.AppendingLaws.{take_one_more}
use Rattle.field_merge.specs.KeptLaws.{field_total}
use Rattle.field_merge.specs.MergingLaws.{ascending_united}
use Rattle.catalogue_export.specs.Exported.{field_of}
use Rattle.catalogue_export.specs.Holdings.{holdings_in, holding_fields, kept_field, marked_field, kept_fields, marked_fields}
use Rattle.catalogue_export.specs.Owners.{is_marked, owned_body, owned_field}
use Rattle.catalogue_export.specs.declared.holding.Holding.{Holding}

-- ---- sets of fields

or_pair : (a b c d : Bool) → ((a || b) || (c || d)) ≡ ((a || c) || (b || d))
or_pair true b true d = refl
or_pair true b false d = refl
or_pair false true true d = refl
or_pair false true false d = refl
or_pair false false c d = refl

or_false : (a : Bool) → (a || false) ≡ a
or_false true = refl
or_false false = refl

has-append : (xs ys : List Field) (q : Field) → has field_cmp (xs ++ ys) q ≡ (has field_cmp xs q || has field_cmp ys q)
has-append xs ys q = list_any-append (eq_by_cmp field_cmp q) xs ys

-- a set has what its list has
has-set : (xs : List Field) (q : Field) → has field_cmp (set_of field_cmp xs) q ≡ has field_cmp xs q
has-set xs q = has-union field_total [] xs q

pub ascending-set_of : (xs : List Field) → is_ascending field_cmp (set_of field_cmp xs) ≡ true
ascending-set_of xs = is_ascending-union field_total [] xs refl

-- a list whose members are those of two others has the union of their sets
set-both : (xs ys all : List Field) → ((q : Field) → has field_cmp all q ≡ (has field_cmp xs q || has field_cmp ys q))
    → union field_cmp (set_of field_cmp xs) (set_of field_cmp ys) ≡ set_of field_cmp all
set-both xs ys all each =
    same_ascending field_total field_cmp-IsAntisymmetric (union field_cmp (set_of field_cmp xs) (set_of field_cmp ys)) (set_of field_cmp all)
    (is_ascending-union field_total (set_of field_cmp xs) (set_of field_cmp ys) (ascending-set_of xs)) (ascending-set_of all)
    (λ q. has-union field_total (set_of field_cmp xs) (set_of field_cmp ys) q ∙ ap₂ ◌||◌ (has-set xs q) (has-set ys q) ∙ sym (each q) ∙ sym (has-set all q))

-- an ascending list is its own set
pub ascending-set : (xs : List Field) → is_ascending field_cmp xs ≡ true → set_of field_cmp xs ≡ xs
ascending-set xs ascends = union-commutative field_total field_cmp-IsAntisymmetric [] xs refl ascends

-- ---- all fields, and those of either kind

-- what holds of what one value is dealt to holds of what a list is
dealt : {A : Type 0} (all some others : A → List Field) → ((x : A) (q : Field) → has field_cmp (all x) q ≡ (has field_cmp (some x) q || has field_cmp (others x) q))
    → (xs : List A) (q : Field) → has field_cmp (flat_map all xs) q ≡ (has field_cmp (flat_map some xs) q || has field_cmp (flat_map others xs) q)
dealt all some others each [] q = refl
dealt all some others each (x ∷ xs) q =
    ap (λ fs. has field_cmp fs q) (flat_map-cons all x xs)
    ∙ has-append (all x) (flat_map all xs) q
    ∙ ap₂ ◌||◌ (each x q) (dealt all some others each xs q)
    ∙ or_pair (has field_cmp (some x) q) (has field_cmp (others x) q) (has field_cmp (flat_map some xs) q) (has field_cmp (flat_map others xs) q)
    ∙ sym (ap₂ ◌||◌
    (ap (λ fs. has field_cmp fs q) (flat_map-cons some x xs) ∙ has-append (some x) (flat_map some xs) q)
    (ap (λ fs. has field_cmp fs q) (flat_map-cons others x xs) ∙ has-append (others x) (flat_map others xs) q))

-- a field is shown as what it is dealt to
dealt-field : (library : List ℕ) (f q : Field)
    → has field_cmp (owned_field library f) q ≡ (has field_cmp (kept_field library f) q || has field_cmp (marked_field library f) q)
dealt-field library f q =
    elim (is_marked library f) as (λ b. has field_cmp (if b then field_of f.tag (owned_body library f.body) else f ∷ []) q
    ≡ (has field_cmp (if b then [] else f ∷ []) q || has field_cmp (if b then field_of f.tag (owned_body library f.body) else []) q)) [
      | true ↦ refl
      | false ↦ sym (or_false (has field_cmp (f ∷ []) q))
    ]

-- the set of all fields of the records is the union of those of both kinds
pub set-dealt : (hs : List Holding)
    → union field_cmp (set_of field_cmp (flat_map kept_fields hs)) (set_of field_cmp (flat_map marked_fields hs)) ≡ set_of field_cmp (flat_map holding_fields hs)
set-dealt hs =
    set-both (flat_map kept_fields hs) (flat_map marked_fields hs) (flat_map holding_fields hs)
    (dealt holding_fields kept_fields marked_fields
    (λ h. dealt (owned_field h.library) (kept_field h.library) (marked_field h.library) (dealt-field h.library) h.content.united) hs)

-- ---- the records by halves

-- where borrowed records are split
pub split-in : (behind left right : List (Bor Holding)) → behind ≡ left ++ right → holdings_in behind ≡ holdings_in left ++ holdings_in right
split-in behind left right is = ap holdings_in is ∙ map-append (λ (h : Bor Holding). h.now) left right

-- records of which some stand in front, then one and then the others
flat-halves : (fields : Holding → List Field) (first : Holding) (behind left : List Holding) (middle : Holding) (rest : List Holding) {right : List Holding}
    → behind ≡ left ++ right → right ≡ middle ∷ rest → flat_map fields (first ∷ behind) ≡ flat_map fields (first ∷ left) ++ flat_map fields (middle ∷ rest)
flat-halves fields first behind left middle rest is split =
    ap (λ hs. flat_map fields (first ∷ hs)) (is ∙ ap (λ hs. left ++ hs) split) ∙ flat_map-append fields (first ∷ left) (middle ∷ rest)

pub kept-halves : (first : Holding) (behind left : List Holding) (middle : Holding) (rest : List Holding) {right : List Holding}
    → behind ≡ left ++ right → right ≡ middle ∷ rest
    → union field_cmp (set_of field_cmp (flat_map kept_fields (first ∷ left))) (set_of field_cmp (flat_map kept_fields (middle ∷ rest)))
    ≡ set_of field_cmp (flat_map kept_fields (first ∷ behind))
kept-halves first behind left middle rest is split =
    set-both (flat_map kept_fields (first ∷ left)) (flat_map kept_fields (middle ∷ rest)) (flat_map kept_fields (first ∷ behind))
    (λ q. ap (λ fs. has field_cmp fs q) (flat-halves kept_fields first behind left middle rest is split)
    ∙ has-append (flat_map kept_fields (first ∷ left)) (flat_map kept_fields (middle ∷ rest)) q)

pub marked-halves : (first : Holding) (behind left : List Holding) (middle : Holding) (rest : List Holding) {right : List Holding}
    → behind ≡ left ++ right → right ≡ middle ∷ rest
    → flat_map marked_fields (first ∷ behind) ≡ flat_map marked_fields (first ∷ left) ++ flat_map marked_fields (middle ∷ rest)
marked-halves first behind left middle rest is split = flat-halves marked_fields first behind left middle rest is split

-- ---- one record

kept-all : (library : List ℕ) (p : Field → Bool) (fs : List Field) → list_all p fs ≡ true → list_all p (flat_map (kept_field library) fs) ≡ true
kept-all library p [] all = refl
kept-all library p (f ∷ fs) all =
    let parts = both_true (p f) (list_all p fs) all in
    let more = kept-all library p fs parts.1 in
    ap (list_all p) (flat_map-cons (kept_field library) f fs)
    ∙ elim (is_marked library f) as (λ b. list_all p ((if b then [] else f ∷ []) ++ flat_map (kept_field library) fs) ≡ true) [
      | true ↦ more
      | false ↦ true_both (p f) (list_all p (flat_map (kept_field library) fs)) parts.0 more
    ]

kept-order : (library : List ℕ) (fs : List Field) → is_ascending field_cmp fs ≡ true → is_ascending field_cmp (flat_map (kept_field library) fs) ≡ true
kept-order library [] ascends = refl
kept-order library (f ∷ fs) ascends =
    let below = λ (g : Field). is_lt (field_cmp f g) in
    let parts = both_true (list_all below fs) (is_ascending field_cmp fs) ascends in
    let more = kept-order library fs parts.1 in
    ap (is_ascending field_cmp) (flat_map-cons (kept_field library) f fs)
    ∙ elim (is_marked library f) as (λ b. is_ascending field_cmp ((if b then [] else f ∷ []) ++ flat_map (kept_field library) fs) ≡ true) [
      | true ↦ more
      | false ↦ true_both (list_all below (flat_map (kept_field library) fs)) (is_ascending field_cmp (flat_map (kept_field library) fs)) (kept-all library below fs parts.0) more
    ]

-- a record's fields that stay as they are ascend, as all of them do
kept-ascending : (h : Holding) → is_ascending field_cmp (kept_fields h) ≡ true
kept-ascending h = kept-order h.library h.content.united (ascending_united h.content)

flat-alone : (fields : Holding → List Field) (h : Holding) → flat_map fields (h ∷ []) ≡ fields h
flat-alone fields h = flat_map-cons fields h [] ∙ append-nil (fields h)

pub kept-alone : (first : Holding) (behind : List Holding) → behind ≡ [] → kept_fields first ≡ set_of field_cmp (flat_map kept_fields (first ∷ behind))
kept-alone first behind none =
    sym (ap (λ hs. set_of field_cmp (flat_map kept_fields (first ∷ hs))) none ∙ ap (set_of field_cmp) (flat-alone kept_fields first)
    ∙ ascending-set (kept_fields first) (kept-ascending first))

-- ---- one field more

module _ (library : List ℕ) (fs : List Field) (i : ℕ) (f : Field) (within : i < length fs) (at : f ≡ get_or fs i f) where
  flat-more : (dealt_to : Field → List Field) → flat_map dealt_to (take (i + 1) fs) ≡ flat_map dealt_to (take i fs) ++ dealt_to f
  flat-more dealt_to =
      ap (flat_map dealt_to) (take_one_more fs i f within at) ∙ flat_map-append dealt_to (take i fs) (f ∷ [])
      ∙ ap (λ ys. flat_map dealt_to (take i fs) ++ ys) (flat_map-cons dealt_to f [] ∙ append-nil (dealt_to f))

  pub kept-more : is_marked library f ≡ false → flat_map (kept_field library) (take (i + 1) fs) ≡ flat_map (kept_field library) (take i fs) ++ f ∷ []
  kept-more not_marked =
      flat-more (kept_field library) ∙ ap (λ b. flat_map (kept_field library) (take i fs) ++ (if b then [] else f ∷ [])) not_marked

  pub kept-same : is_marked library f ≡ true → flat_map (kept_field library) (take (i + 1) fs) ≡ flat_map (kept_field library) (take i fs)
  kept-same marked =
      flat-more (kept_field library) ∙ ap (λ b. flat_map (kept_field library) (take i fs) ++ (if b then [] else f ∷ [])) marked
      ∙ append-nil (flat_map (kept_field library) (take i fs))

  pub marked-more : is_marked library f ≡ true → (made : Field) → field_of f.tag (owned_body library f.body) ≡ made ∷ []
      → flat_map (marked_field library) (take (i + 1) fs) ≡ flat_map (marked_field library) (take i fs) ++ made ∷ []
  marked-more marked made is =
      flat-more (marked_field library)
      ∙ ap (λ b. flat_map (marked_field library) (take i fs) ++ (if b then field_of f.tag (owned_body library f.body) else [])) marked
      ∙ ap (λ ys. flat_map (marked_field library) (take i fs) ++ ys) is

  pub marked-same : is_marked library f ≡ false → flat_map (marked_field library) (take (i + 1) fs) ≡ flat_map (marked_field library) (take i fs)
  marked-same not_marked =
      flat-more (marked_field library)
      ∙ ap (λ b. flat_map (marked_field library) (take i fs) ++ (if b then field_of f.tag (owned_body library f.body) else [])) not_marked
      ∙ append-nil (flat_map (marked_field library) (take i fs))
