-- The least name is least.
use Rattle.std.proofs.Common.{◌≡◌, ℕ, Bool, true, false, List, [], ◌∷◌, ◌++◌, refl, sym, ◌∙◌, ap, subst, arith, append_assoc, Contains, inl, inr}
use Rattle.std.specs.Prelude.{fold, if◌then◌else◌}
use Rattle.std.specs.Ordering.{nat_cmp, is_lt}
use Rattle.std.specs.declared.cmp.Ordering.{Ordering}
use Rattle.std.specs.declared.cmp.Ordering.TheVariants.{Less, Equal, Greater}
use Rattle.std.specs.Cmp.Lexicographic.{slice_cmp}
use Rattle.std.proofs.lemmas.Cmp.{nat_list_cmp_total, tied_itself}
use Rattle.std.proofs.lemmas.List.{append-nil}
use Rattle.std.proofs.lemmas.List.Elements.{Contains-append_left, Contains-push, Contains-push_cases}
use Rattle.naco_normal.specs.Words.{is_empty}
use Rattle.workset_keys.specs.Laws.{IsLeastOf, IsLeastOrNone}
use Rattle.workset_keys.specs.WorkKeys.{lesser, least_of}

abbrev before : List ℕ → List ℕ → Bool
before x y = is_lt (slice_cmp nat_cmp x y)

-- no text comes before itself
not_itself : (x y : List ℕ) → x ≡ y → before y x ≡ false
not_itself x y same = ap (λ z. before z x) (sym same) ∙ ap is_lt (tied_itself nat_list_cmp_total x)

less : (o : Ordering) → is_lt o ≡ true → o ≡ Less
less Less h = refl
less Equal h = cc
less Greater h = cc

-- what comes before a text comes before each that this one comes before
before-along : (x y z : List ℕ) → before x y ≡ true → before y z ≡ true → before x z ≡ true
before-along x y z one two = ap is_lt (nat_list_cmp_total.trans x y z (less (slice_cmp nat_cmp x y) one) (less (slice_cmp nat_cmp y z) two))

not_before : (x y z : List ℕ) (b : Bool) → before x y ≡ b → before x z ≡ false → before y z ≡ true → before x y ≡ false
not_before x y z true is none two = absurd (impossible (before x z) (before-along x y z is two) none)
  where
    impossible : (b : Bool) → b ≡ true → b ≡ false → ⊥
    impossible b p q = cc
not_before x y z false is none two = is

empty_is : (x : List ℕ) → is_empty x ≡ true → x ≡ []
empty_is [] h = refl
empty_is (c ∷ cs) h = cc

clash : {P : Type 0} (x : List ℕ) → x ≡ [] → is_empty x ≡ false → P
clash x same some = absurd (two (is_empty x) (ap is_empty same) some)
  where
    two : (b : Bool) → b ≡ true → b ≡ false → ⊥
    two b p q = cc

-- the name comes after names that are all empty
first : (names : List (List ℕ)) (name : List ℕ) (e : Bool) → is_empty name ≡ e → ((other : List ℕ) → Contains names other → other ≡ [])
    → IsLeastOrNone (names ++ name ∷ []) name
first names name true is all = inl (record {
  all = λ other in'. elim (Contains-push_cases names name other in') [
    | inl among ↦ all other among
    | inr same ↦ sym same ∙ empty_is name is
  ];
  none = empty_is name is;
})
first names name false is all = inr (record {
  member = Contains-push names name;
  some = is;
  least = λ other in' some. elim (Contains-push_cases names name other in') [
    | inl among ↦ clash other (all other among) some
    | inr same ↦ not_itself name other same
  ];
})

-- the name comes after names of which this is a least one
later : (names : List (List ℕ)) (least name : List ℕ) (e l : Bool) → is_empty name ≡ e → before name least ≡ l → IsLeastOf names least
    → IsLeastOf (names ++ name ∷ []) (if e then least else (if l then name else least))
later names least name true l is less_is h = record {
  member = Contains-append_left names (name ∷ []) least h.member;
  some = h.some;
  least = λ other in' some. elim (Contains-push_cases names name other in') [
    | inl among ↦ h.least other among some
    | inr same ↦ clash other (sym same ∙ empty_is name is) some
  ];
}
later names least name false true is less_is h = record {
  member = Contains-push names name;
  some = is;
  least = λ other in' some. elim (Contains-push_cases names name other in') [
    | inl among ↦ not_before other name least (before other name) refl (h.least other among some) less_is
    | inr same ↦ not_itself name other same
  ];
}
later names least name false false is less_is h = record {
  member = Contains-append_left names (name ∷ []) least h.member;
  some = h.some;
  least = λ other in' some. elim (Contains-push_cases names name other in') [
    | inl among ↦ h.least other among some
    | inr same ↦ ap (λ x. before x least) (sym same) ∙ less_is
  ];
}

step : (names : List (List ℕ)) (least name : List ℕ) → IsLeastOrNone names least → IsLeastOrNone (names ++ name ∷ []) (lesser least name)
step names least name (inl h) =
    subst (λ x. IsLeastOrNone (names ++ name ∷ []) (lesser x name)) (sym h.none) (first names name (is_empty name) refl h.all)
step names least name (inr h) =
    rw h.some (inr (later names least name (is_empty name) (before name least) refl refl h))

along : (names : List (List ℕ)) (least : List ℕ) (more : List (List ℕ)) → IsLeastOrNone names least → IsLeastOrNone (names ++ more) (fold lesser least more)
along names least [] h = rw append-nil h
along names least (name ∷ more) h =
    subst (λ all. IsLeastOrNone all (fold lesser (lesser least name) more)) (append_assoc names (name ∷ []) more)
    (along (names ++ name ∷ []) (lesser least name) more (step names least name h))

-- the least of names is a least one
pub least-of : (names : List (List ℕ)) → IsLeastOrNone names (least_of names)
least-of names = along [] [] names (inl (record { all = λ name in'. absurd (omega (arith, in'.1)); none = refl }))
