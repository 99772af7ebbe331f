-- Maps from ids: what is found in them where a pair comes or goes, or a value is changed, and that their ids stay in order.
use Rattle.std.proofs.Common.{◌≡◌, Bool, true, false, cond, List, [], ◌∷◌, Contains, refl, sym, ap, subst, ◌∙◌, inl, inr, arith}
use Rattle.std.specs.Prelude.{Option, Some, None, filter}
use Rattle.std.specs.Option.{option_map, option_and_then}
use Rattle.std.specs.declared.cmp.Ordering.{Ordering}
use Rattle.std.specs.declared.cmp.Ordering.TheVariants.{Less, Equal, Greater}
use Rattle.std.specs.Ordering.{match_ordering, is_eq, ordering_reverse}
use Rattle.std.specs.Cmp.{eq_by_cmp_equiv}
use Rattle.std.specs.List.{AllByRecursion}
use Rattle.std.specs.List.Sorted.{IsStrictlySortedBy}
use Rattle.std.specs.BTreeMap.{is_at, insert_entry}
use Rattle.std.specs.Map.{remove_entry, keys_of, values_of}
use Rattle.std.proofs.lemmas.Map.{lookup-remove_entry, lookup-none}
use Rattle.std.proofs.lemmas.Map.Entries.{none_past_head, none_below_head}
use Rattle.std.proofs.lemmas.Map.Keys.{IsDistinct-from_sorted}
use Rattle.union_base.specs.declared.record_id.RecordId.{RecordId}
use Rattle.union_base.specs.IdLaws.{ids_apart}
use Rattle.merge_laws.proofs.Places.{Contains-head, Contains-tail, Contains-cases}
use Rattle.union_base.specs.RecordIds.{id_cmp}
use Rattle.field_merge.specs.KeptLaws.{id_total}
use Rattle.record_homes.specs.Maps.{MapOf, at_id, change_at}

-- whether they are one id
abbrev pub same : RecordId → RecordId → Bool
same a b = is_at (id_cmp a) b

same-tied : (r s : Ordering) → s ≡ ordering_reverse r → is_eq r ≡ is_eq s
same-tied Less s e = ap is_eq (sym e)
same-tied Equal s e = ap is_eq (sym e)
same-tied Greater s e = ap is_eq (sym e)

pub same-sym : (a b : RecordId) → same a b ≡ same b a
same-sym a b = same-tied (id_cmp a b) (id_cmp b a) (id_total.antisymm b a)

equal-from_is : (r : Ordering) → is_eq r ≡ true → r ≡ Equal
equal-from_is Less h = cc
equal-from_is Equal h = refl
equal-from_is Greater h = cc

pub one-id : (a b : RecordId) → same a b ≡ true → a ≡ b
one-id a b h = ids_apart a b (equal-from_is (id_cmp a b) h)

pub same-itself : (a : RecordId) → same a a ≡ true
same-itself a = (eq_by_cmp_equiv id_total).refl a

two-ways : {A : Type 0} (b c : Bool) (x y z : A) → c ≡ b → cond c x y ≡ cond b x (cond c z y)
two-ways true c x y z e = ap (λ d. cond d x y) e
two-ways false c x y z e = ap (λ d. cond d x y) e ∙ sym (ap (λ d. cond d z y) e)

apart-ways : {A : Type 0} (a b : Bool) (x y z : A) → (a ≡ true → b ≡ true → ⊥) → cond a x (cond b y z) ≡ cond b y (cond a x z)
apart-ways true true x y z never = absurd (never refl refl)
apart-ways true false x y z never = refl
apart-ways false b x y z never = refl

-- with a pair that came
pub at-inserted : {X : Type 0} (all : MapOf X) (id : RecordId) (x : X) (q : RecordId) → at_id (insert_entry id_cmp all id x) q ≡ cond (same id q) (Some x) (at_id all q)
at-inserted [] id x q = ap (λ b. cond b (Some x) None) (same-sym q id)
at-inserted (p ∷ all) id x q =
    elim (id_cmp id p.0) as (λ r. id_cmp id p.0 ≡ r → at_id (match_ordering r ((id, x) ∷ p ∷ all) ((p.0, x) ∷ all) (p ∷ insert_entry id_cmp all id x)) q
    ≡ cond (same id q) (Some x) (cond (same q p.0) (Some p.1) (at_id all q))) [
      | Less ↦ λ e. ap (λ b. cond b (Some x) (cond (same q p.0) (Some p.1) (at_id all q))) (same-sym q id)
      | Equal ↦ λ e. two-ways (same id q) (same q p.0) (Some x) (at_id all q) (Some p.1) (ap (same q) (sym (ids_apart id p.0 e)) ∙ same-sym q id)
      | Greater ↦ λ e.
          ap (λ o. cond (same q p.0) (Some p.1) o) (at-inserted all id x q)
          ∙ apart-ways (same q p.0) (same id q) (Some p.1) (Some x) (at_id all q)
          (λ here there. let clash : true ≡ false = sym there ∙ ap (same id) (one-id q p.0 here) ∙ ap is_eq e in cc)
    ] refl

-- without the pair of an id
pub at-removed : {X : Type 0} (all : MapOf X) (id q : RecordId) → IsStrictlySortedBy id_cmp (keys_of all) → at_id (remove_entry (same id) all) q ≡ cond (same id q) None (at_id all q)
at-removed all id q up =
    lookup-remove_entry (eq_by_cmp_equiv id_total) (same id) (λ x y h. ap (λ k. same k y) (one-id id x h)) q all (IsDistinct-from_sorted id_cmp (keys_of all) up)

-- with a changed value
pub at-changed : {X : Type 0} (all : MapOf X) (id : RecordId) (f : X → X) (q : RecordId) → at_id (change_at id f all) q ≡ cond (same id q) (option_map f (at_id all q)) (at_id all q)
at-changed {X} [] id f q = elim (same id q) as (λ b. ◌≡◌ {A = Option X} None (cond b None None)) [ true ↦ refl | false ↦ refl ]
at-changed {X} (p ∷ all) id f q =
    elim (same id p.0) as (λ b. same id p.0 ≡ b → at_id (cond {A = MapOf X} b ((p.0, f p.1) ∷ all) (p ∷ change_at id f all)) q
    ≡ cond (same id q) (option_map f (cond (same q p.0) (Some p.1) (at_id all q))) (cond (same q p.0) (Some p.1) (at_id all q))) [
      | true ↦ λ e. hit (same id q) (same q p.0) (ap (same q) (sym (one-id id p.0 e)) ∙ same-sym q id)
      | false ↦ λ e.
          ap (λ o. cond (same q p.0) (Some p.1) o) (at-changed all id f q)
          ∙ missed (same id q) (same q p.0) (λ here there. let clash : true ≡ false = sym here ∙ ap (same id) (one-id q p.0 there) ∙ e in cc)
    ] refl
  where
    hit : (b c : Bool) → c ≡ b → cond c (Some (f p.1)) (at_id all q) ≡ cond b (option_map f (cond c (Some p.1) (at_id all q))) (cond c (Some p.1) (at_id all q))
    hit true true e = refl
    hit true false e = cc
    hit false true e = cc
    hit false false e = refl

    missed : (b c : Bool) → (b ≡ true → c ≡ true → ⊥) → cond c (Some p.1) (cond b (option_map f (at_id all q)) (at_id all q))
        ≡ cond b (option_map f (cond c (Some p.1) (at_id all q))) (cond c (Some p.1) (at_id all q))
    missed true true never = absurd (never refl refl)
    missed true false never = refl
    missed false c never = refl

-- ---- ids in order

below-inserted : {X : Type 0} (k : RecordId) (all : MapOf X) (id : RecordId) (x : X) → AllByRecursion (λ y. id_cmp k y ≡ Less) (keys_of all) → id_cmp k id ≡ Less
    → AllByRecursion (λ y. id_cmp k y ≡ Less) (keys_of (insert_entry id_cmp all id x))
below-inserted k [] id x h less = (less, tt)
below-inserted k (p ∷ all) id x h less =
    elim (id_cmp id p.0) as (λ r. AllByRecursion (λ y. id_cmp k y ≡ Less) (keys_of (match_ordering r ((id, x) ∷ p ∷ all) ((p.0, x) ∷ all) (p ∷ insert_entry id_cmp all id x)))) [
      | Less ↦ (less, h)
      | Equal ↦ h
      | Greater ↦ (h.0, below-inserted k all id x h.1 less)
    ]

below-more : (a b : RecordId) (ks : List RecordId) → id_cmp a b ≡ Less → AllByRecursion (λ y. id_cmp b y ≡ Less) ks → AllByRecursion (λ y. id_cmp a y ≡ Less) ks
below-more a b [] less h = tt
below-more a b (k ∷ ks) less h = (id_total.trans a b k less h.0, below-more a b ks less h.1)

pub ordered-inserted : {X : Type 0} (all : MapOf X) (id : RecordId) (x : X) → IsStrictlySortedBy id_cmp (keys_of all) → IsStrictlySortedBy id_cmp (keys_of (insert_entry id_cmp all id x))
unfolding IsStrictlySortedBy
ordered-inserted [] id x up = (tt, tt)
ordered-inserted (p ∷ all) id x up =
    elim (id_cmp id p.0) as (λ r. id_cmp id p.0 ≡ r → IsStrictlySortedBy id_cmp (keys_of (match_ordering r ((id, x) ∷ p ∷ all) ((p.0, x) ∷ all) (p ∷ insert_entry id_cmp all id x)))) [
      | Less ↦ λ e. ((e, below-more id p.0 (keys_of all) e up.0), up)
      | Equal ↦ λ e. up
      | Greater ↦ λ e. (below-inserted p.0 all id x up.0 (id_total.antisymm p.0 id ∙ ap ordering_reverse e), ordered-inserted all id x up.1)
    ] refl

below-removed : {X : Type 0} (k : RecordId) (all : MapOf X) (test : RecordId → Bool) → AllByRecursion (λ y. id_cmp k y ≡ Less) (keys_of all) → AllByRecursion (λ y. id_cmp k y ≡ Less) (keys_of (remove_entry test all))
below-removed k [] test h = tt
below-removed k (p ∷ all) test h =
    elim (test p.0) as (λ b. AllByRecursion (λ y. id_cmp k y ≡ Less) (keys_of (cond b all (p ∷ remove_entry test all)))) [ true ↦ h.1 | false ↦ (h.0, below-removed k all test h.1) ]

pub ordered-removed : {X : Type 0} (all : MapOf X) (test : RecordId → Bool) → IsStrictlySortedBy id_cmp (keys_of all) → IsStrictlySortedBy id_cmp (keys_of (remove_entry test all))
unfolding IsStrictlySortedBy
ordered-removed [] test up = tt
ordered-removed (p ∷ all) test up =
    elim (test p.0) as (λ b. IsStrictlySortedBy id_cmp (keys_of (cond b all (p ∷ remove_entry test all)))) [ true ↦ up.1 | false ↦ (below-removed p.0 all test up.0, ordered-removed all test up.1) ]

below-filtered : {X : Type 0} (k : RecordId) (all : MapOf X) (test : RecordId × X → Bool) → AllByRecursion (λ y. id_cmp k y ≡ Less) (keys_of all) → AllByRecursion (λ y. id_cmp k y ≡ Less) (keys_of (filter test all))
below-filtered k [] test h = tt
below-filtered k (p ∷ all) test h =
    elim (test p) as (λ b. AllByRecursion (λ y. id_cmp k y ≡ Less) (keys_of (cond b (p ∷ filter test all) (filter test all)))) [ true ↦ (h.0, below-filtered k all test h.1) | false ↦ below-filtered k all test h.1 ]

pub ordered-filtered : {X : Type 0} (test : RecordId × X → Bool) (all : MapOf X) → IsStrictlySortedBy id_cmp (keys_of all) → IsStrictlySortedBy id_cmp (keys_of (filter test all))
unfolding IsStrictlySortedBy
ordered-filtered test [] up = tt
ordered-filtered test (p ∷ all) up =
    elim (test p) as (λ b. IsStrictlySortedBy id_cmp (keys_of (cond b (p ∷ filter test all) (filter test all)))) [ true ↦ (below-filtered p.0 all test up.0, ordered-filtered test all up.1) | false ↦ ordered-filtered test all up.1 ]

pub keys-changed : {X : Type 0} (id : RecordId) (f : X → X) (all : MapOf X) → keys_of (change_at id f all) ≡ keys_of all
keys-changed id f [] = refl
keys-changed {X} id f (p ∷ all) =
    elim (same id p.0) as (λ b. keys_of (cond {A = MapOf X} b ((p.0, f p.1) ∷ all) (p ∷ change_at id f all)) ≡ p.0 ∷ keys_of all) [
      | true ↦ refl
      | false ↦ ap (λ (ks : List RecordId). p.0 ∷ ks) (keys-changed id f all)
    ]

-- ---- values

-- the id of a value
pub id-of_value : {X : Type 0} (all : MapOf X) (x : X) → IsStrictlySortedBy id_cmp (keys_of all) → Contains (values_of all) x → (id : RecordId) × (at_id all id ≡ Some x)
unfolding IsStrictlySortedBy
id-of_value [] x up (k, kl, e) = absurd (omega arith)
id-of_value (p ∷ all) x up c =
    elim (Contains-cases p.1 (values_of all) x c) [
      | inl here ↦ (p.0, ap (λ b. cond b (Some p.1) (at_id all p.0)) (same-itself p.0) ∙ ap Some here)
      | inr later ↦ (let (id, at) = id-of_value all x up.1 later in (
        id,
        elim (same id p.0) as (λ b. same id p.0 ≡ b → cond b (Some p.1) (at_id all id) ≡ Some x) [
          | true ↦ λ e. (let none : at_id all id ≡ None =
              lookup-none (same id) all (none_past_head (eq_by_cmp_equiv id_total) id p all (IsDistinct-from_sorted id_cmp (keys_of (p ∷ all)) up) e) in
              cc)
          | false ↦ λ e. at
        ] refl,
      ))
    ]

-- the value of an id is among the values
pub value-of_id : {X : Type 0} (all : MapOf X) (id : RecordId) (x : X) → at_id all id ≡ Some x → Contains (values_of all) x
value-of_id [] id x at = cc
value-of_id (p ∷ all) id x at =
    elim (same id p.0) as (λ b. cond b (Some p.1) (at_id all id) ≡ Some x → Contains (p.1 ∷ values_of all) x) [
      | true ↦ λ h. (let is : p.1 ≡ x = cc in subst (Contains (p.1 ∷ values_of all)) is (Contains-head p.1 (values_of all)))
      | false ↦ λ h. Contains-tail p.1 (values_of all) x (value-of_id all id x h)
    ] at

-- maps in order in which the same is found under each id are one
at-head : {X : Type 0} (p : RecordId × X) (m : MapOf X) → at_id (p ∷ m) p.0 ≡ Some p.1
at-head p m = ap (λ b. cond b (Some p.1) (at_id m p.0)) (same-itself p.0)

at-below : {X : Type 0} (k : RecordId) (p : RecordId × X) (m : MapOf X) → IsStrictlySortedBy id_cmp (keys_of (p ∷ m)) → id_cmp k p.0 ≡ Less → at_id (p ∷ m) k ≡ None
at-below k p m up less = lookup-none (same k) (p ∷ m) (none_below_head id_total k p m up less)

pub at-past : {X : Type 0} (p : RecordId × X) (m : MapOf X) → IsStrictlySortedBy id_cmp (keys_of (p ∷ m)) → at_id m p.0 ≡ None
at-past p m up = lookup-none (same p.0) m (none_past_head (eq_by_cmp_equiv id_total) p.0 p m (IsDistinct-from_sorted id_cmp (keys_of (p ∷ m)) up) (same-itself p.0))

pub same-maps : {X : Type 0} (m n : MapOf X) → IsStrictlySortedBy id_cmp (keys_of m) → IsStrictlySortedBy id_cmp (keys_of n) → ((q : RecordId) → at_id m q ≡ at_id n q) → m ≡ n
unfolding IsStrictlySortedBy
same-maps [] [] up up' each = refl
same-maps {X} [] (q ∷ n) up up' each = let clash : ◌≡◌ {A = Option X} None (Some q.1) = each q.0 ∙ at-head q n in cc
same-maps {X} (p ∷ m) [] up up' each = let clash : ◌≡◌ {A = Option X} (Some p.1) None = sym (at-head p m) ∙ each p.0 in cc
same-maps {X} (p ∷ m) (q ∷ n) up up' each =
    elim (id_cmp p.0 q.0) as (λ r. id_cmp p.0 q.0 ≡ r → p ∷ m ≡ q ∷ n) [
      | Less ↦ λ e. absurd (let clash : ◌≡◌ {A = Option X} (Some p.1) None = sym (at-head p m) ∙ each p.0 ∙ at-below p.0 q n up' e in cc)
      | Equal ↦ λ e.
          let key : p.0 ≡ q.0 = ids_apart p.0 q.0 e in
          let both : ◌≡◌ {A = Option X} (Some p.1) (Some q.1) = sym (at-head p m) ∙ each p.0 ∙ ap (at_id (q ∷ n)) key ∙ at-head q n in
          let value : p.1 ≡ q.1 = cc in
          let rest : m ≡ n = same-maps m n up.1 up'.1 (λ k.
          elim (same k p.0) as (λ b. same k p.0 ≡ b → at_id m k ≡ at_id n k) [
            | true ↦ λ h. ap (at_id m) (one-id k p.0 h) ∙ at-past p m up ∙ sym (at-past q n up') ∙ sym (ap (at_id n) (one-id k p.0 h ∙ key))
            | false ↦ λ h.
                sym (ap (λ b. cond b (Some p.1) (at_id m k)) h) ∙ each k
                ∙ ap (λ b. cond b (Some q.1) (at_id n k)) (sym (ap (same k) key) ∙ h)
          ] refl) in
          λ i. (key i, value i) ∷ rest i
      | Greater ↦ λ e. absurd (let clash : ◌≡◌ {A = Option X} (Some q.1) None =
          sym (at-head q n) ∙ sym (each q.0) ∙ at-below q.0 p m up (id_total.antisymm q.0 p.0 ∙ ap ordering_reverse e) in
          cc)
    ] refl

-- with the pairs alone that pass a test
pub at-filtered : {X : Type 0} (test : RecordId × X → Bool) (all : MapOf X) (q : RecordId) → IsStrictlySortedBy id_cmp (keys_of all)
    → at_id (filter test all) q ≡ option_and_then (λ x. cond (test (q, x)) (Some x) None) (at_id all q)
unfolding IsStrictlySortedBy
at-filtered test [] q up = refl
at-filtered {X} test (p ∷ all) q up =
    elim (same q p.0) as (λ b. same q p.0 ≡ b → at_id (cond (test p) (p ∷ filter test all) (filter test all)) q ≡ option_and_then (λ x. cond (test (q, x)) (Some x) None) (cond b (Some p.1) (at_id all q))) [
      | true ↦ λ here. found here (at-filtered test all q up.1) (test p) refl
      | false ↦ λ other. elim (test p) as (λ t. at_id (cond t (p ∷ filter test all) (filter test all)) q ≡ option_and_then (λ x. cond (test (q, x)) (Some x) None) (at_id all q)) [
        | true ↦ ap (λ b. cond b (Some p.1) (at_id (filter test all) q)) other ∙ at-filtered test all q up.1
        | false ↦ at-filtered test all q up.1
      ]
    ] refl
  where
    found : same q p.0 ≡ true → at_id (filter test all) q ≡ option_and_then (λ x. cond (test (q, x)) (Some x) None) (at_id all q)
        → (t : Bool) → test p ≡ t → at_id (cond t (p ∷ filter test all) (filter test all)) q ≡ cond (test (q, p.1)) (Some p.1) None
    found here rest true is =
        ap (λ b. cond b (Some p.1) (at_id (filter test all) q)) here ∙ sym (ap (λ b. cond b (Some p.1) None) (ap (λ id. test (id, p.1)) (one-id q p.0 here) ∙ is))
    found here rest false is =
        rest
        ∙ ap (option_and_then (λ (x : X). cond (test (q, x)) (Some x) None)) (ap (at_id all) (one-id q p.0 here) ∙ at-past p all up)
        ∙ sym (ap (λ b. cond b (Some p.1) None) (ap (λ id. test (id, p.1)) (one-id q p.0 here) ∙ is))
