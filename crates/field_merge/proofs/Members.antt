-- The members of a union and of a filter, and what is found in a list.
use Rattle.std.proofs.Common.{◌≡◌, Bool, true, false, cond, ◌||◌, List, [], ◌∷◌, refl, sym, subst, ap, ◌∙◌, inl, inr, arith}
use Rattle.std.specs.Prelude.{Contains, ◌⊎◌, ◌↔◌, find, filter}
use Rattle.std.specs.declared.option.Option.TheVariants.{Some}
use Rattle.std.proofs.lemmas.Option.{same_Some}
use Rattle.std.specs.declared.cmp.Ordering.{Ordering}
use Rattle.std.specs.declared.cmp.Ordering.TheVariants.{Less, Equal, Greater}
use Rattle.std.specs.Ordering.{is_eq, eq_by_cmp}
use Rattle.std.specs.Cmp.{IsTotalOrder, eq_by_cmp_equiv}
use Rattle.std.specs.FinMap.{IsAntisymmetric}
use Rattle.std.proofs.lemmas.List.Folds.{Any-from_list_any, list_any-from_Any}
use Rattle.union_base.specs.SortedLists.{union, set_of, has}
use Rattle.union_base.proofs.SortedListLaws.{has-union}
use Rattle.merge_laws.proofs.Places.{Contains-head, Contains-tail, Contains-cases}

either : (a b : Bool) → (a || b) ≡ true → (a ≡ true) ⊎ (b ≡ true)
either true b h = inl refl
either false b h = inr h

left : (a b : Bool) → a ≡ true → (a || b) ≡ true
left true b h = refl
left false b h = cc

right : (a b : Bool) → b ≡ true → (a || b) ≡ true
right true b h = refl
right false b h = h

equal-from_is_eq : (r : Ordering) → is_eq r ≡ true → r ≡ Equal
equal-from_is_eq Less h = cc
equal-from_is_eq Equal h = refl
equal-from_is_eq Greater h = cc

module _ {K : Type 0} {R : K → K → Ordering} (o : IsTotalOrder R) (ties : IsAntisymmetric R) where
  member-from_has : (xs : List K) (q : K) → has R xs q ≡ true → Contains xs q
  member-from_has xs q h =
      let some = Any-from_list_any (eq_by_cmp R q) xs h in
      subst (Contains xs) (sym (ties q some.1 (equal-from_is_eq (R q some.1) some.4))) (some.0, some.2, some.3)

  has-from_member : (xs : List K) (q : K) → Contains xs q → has R xs q ≡ true
  has-from_member xs q m = list_any-from_Any (eq_by_cmp R q) xs (m.0, q, m.1, m.2, (eq_by_cmp_equiv o).refl q)

  -- what stands in a union stands in one of the two lists, and the other way round
  pub members-union : (xs ys : List K) (q : K) → Contains (union R xs ys) q ↔ (Contains xs q ⊎ Contains ys q)
  members-union xs ys q = (
    λ m. elim (either (has R xs q) (has R ys q) (sym (has-union o xs ys q) ∙ has-from_member (union R xs ys) q m)) [
      | inl h ↦ inl (member-from_has xs q h)
      | inr h ↦ inr (member-from_has ys q h)
    ],
    λ h. elim h [
      | inl m ↦ member-from_has (union R xs ys) q (has-union o xs ys q ∙ left (has R xs q) (has R ys q) (has-from_member xs q m))
      | inr m ↦ member-from_has (union R xs ys) q (has-union o xs ys q ∙ right (has R xs q) (has R ys q) (has-from_member ys q m))
    ],
  )

  -- what stands in a set of values stands in their list, and the other way round
  pub members-set_of : (xs : List K) (q : K) → Contains (set_of R xs) q ↔ Contains xs q
  members-set_of xs q = (
    λ m. elim ((members-union [] xs q).0 m) [ inl none ↦ absurd (omega arith) | inr its ↦ its ],
    λ m. (members-union [] xs q).1 (inr m),
  )

-- what is found, and what passes a filter, stands in the list
pub member-find : {X : Type 0} (p : X → Bool) (xs : List X) (x : X) → find p xs ≡ Some x → Contains xs x
member-find p [] x e = cc
member-find {X} p (y ∷ ys) x e =
    elim (p y) as (λ b. cond b (Some y) (find p ys) ≡ Some x → Contains (y ∷ ys) x) [
      | true ↦ λ h. subst (Contains (y ∷ ys)) (same_Some y x h) (Contains-head y ys)
      | false ↦ λ h. Contains-tail y ys x (member-find p ys x h)
    ] e

pub member-filter : {X : Type 0} (p : X → Bool) (xs : List X) (x : X) → Contains (filter p xs) x ↔ (Contains xs x × (p x ≡ true))
member-filter {X} p xs x = (passed xs, λ h. passes xs h.0 h.1)
  where
    passed : (xs : List X) → Contains (filter p xs) x → Contains xs x × (p x ≡ true)
    passed [] m = absurd (omega arith)
    passed (y ∷ ys) m =
        elim (p y) as (λ b. p y ≡ b → Contains (cond b (y ∷ filter p ys) (filter p ys)) x → Contains (y ∷ ys) x × (p x ≡ true)) [
          | true ↦ λ e h. elim (Contains-cases y (filter p ys) x h) [
            | inl same ↦ (subst (Contains (y ∷ ys)) same (Contains-head y ys), ap p (sym same) ∙ e)
            | inr rest ↦ (let (k, q) = passed ys rest in (Contains-tail y ys x k, q))
          ]
          | false ↦ λ e h. (let (k, q) = passed ys h in (Contains-tail y ys x k, q))
        ] refl m

    passes : (xs : List X) → Contains xs x → p x ≡ true → Contains (filter p xs) x
    passes [] m q = absurd (omega arith)
    passes (y ∷ ys) m q =
        elim (p y) as (λ b. p y ≡ b → Contains (cond b (y ∷ filter p ys) (filter p ys)) x) [
          | true ↦ λ e. elim (Contains-cases y ys x m) [
            | inl same ↦ subst (Contains (y ∷ filter p ys)) same (Contains-head y (filter p ys))
            | inr rest ↦ Contains-tail y (filter p ys) x (passes ys rest q)
          ]
          | false ↦ λ e. elim (Contains-cases y ys x m) [
            | inl same ↦ (let clash : true ≡ false = sym q ∙ ap p (sym same) ∙ e in cc)
            | inr rest ↦ passes ys rest q
          ]
        ] refl
