-- What holds of the names that records give: of one record more, of another order, and of a name that is looked up twice.
use Rattle.std.proofs.Common.{◌≡◌, ℕ, Bool, true, false, not, ◌&&◌, ◌||◌, if◌then◌else◌, List, [], ◌∷◌, ◌++◌, map, filter, refl, sym, ap, subst, ◌∙◌, unwrap_or, IsPermutation}
use Rattle.std.specs.Prelude.{Option, None, Some}
use Rattle.std.specs.List.{list_any, list_all}
use Rattle.std.specs.Option.{option_and_then}
use Rattle.std.specs.Cmp.Lexicographic.{nat_list_eq_equiv, nat_list_cmp_total, same_text}
use Rattle.std.specs.FinMap.{same_map}
use Rattle.std.proofs.lemmas.List.Folds.{list_any-append, list_all-append}
use Rattle.std.proofs.lemmas.List.Sorted.{list_any-IsPermutation}
use Rattle.union_base.specs.Both.{both_true}
use Rattle.union_base.specs.Ties.{texts_apart}
use Rattle.authority_names.specs.Names.{Authority, is_same, is_established, has_variant, led_to, the_one, name_at, see}
use Rattle.authority_names.specs.Leads.{Table, lead_among, lead_of, joined_lead, IsTableOf, led_from}

pub itself : (x : List ℕ) → is_same x x ≡ true
itself x = nat_list_eq_equiv.refl x

pub same : (x y : List ℕ) → is_same x y ≡ true → x ≡ y
same x y h = same_text x y (sym h)

-- one record more
or_more : (a b : Bool) → (a || (b || false)) ≡ (a || b)
or_more true b = refl
or_more false true = refl
or_more false false = refl

established_more : (rs : List Authority) (r : Authority) (x : List ℕ) → is_established (rs ++ r ∷ []) x ≡ (is_established rs x || is_same r.established x)
established_more rs r x = list_any-append (λ s. is_same s.established x) rs (r ∷ []) ∙ or_more (is_established rs x) (is_same r.established x)

led_more : (rs : List Authority) (r : Authority) (x : List ℕ) → led_to (rs ++ r ∷ []) x ≡ (if has_variant x r then led_to rs x ++ r.established ∷ [] else led_to rs x)
led_more [] r x = elim (has_variant x r) as (λ b. map (λ s. s.established) (if b then r ∷ [] else []) ≡ (if b then r.established ∷ [] else [])) [ true ↦ refl | false ↦ refl ]
led_more (s ∷ rs) r x =
    elim (has_variant x s) as (λ b. map (λ t. t.established) (if b then s ∷ filter (has_variant x) (rs ++ r ∷ []) else filter (has_variant x) (rs ++ r ∷ []))
    ≡ (if has_variant x r then map (λ t. t.established) (if b then s ∷ filter (has_variant x) rs else filter (has_variant x) rs) ++ r.established ∷ []
    else map (λ t. t.established) (if b then s ∷ filter (has_variant x) rs else filter (has_variant x) rs))) [
      | true ↦ ap (λ ts. s.established ∷ ts) (led_more rs r x) ∙ in_front (has_variant x r) s.established (led_to rs x) r.established
      | false ↦ led_more rs r x
    ]
  where
    in_front : (b : Bool) (u : List ℕ) (ts : List (List ℕ)) (t : List ℕ) → u ∷ (if b then ts ++ t ∷ [] else ts) ≡ (if b then u ∷ (ts ++ t ∷ []) else u ∷ ts)
    in_front true u ts t = refl
    in_front false u ts t = refl

one_more : (a b : Bool) (u t : List ℕ) → b ≡ is_same u t → Some (if a && (b && true) then Some u else None) ≡ Some (joined_lead (Some (if a then Some u else None)) t)
one_more true true u t e = ap (λ c. Some (if c then Some u else None)) e
one_more true false u t e = ap (λ c. Some (if c then Some u else None)) e
one_more false b u t e = refl

among_more : (ts : List (List ℕ)) (t : List ℕ) → lead_among (ts ++ t ∷ []) ≡ Some (joined_lead (lead_among ts) t)
among_more [] t = refl
among_more (u ∷ us) t =
    ap (λ c. Some (if c then Some u else None)) (list_all-append (is_same u) us (t ∷ []))
    ∙ one_more (list_all (is_same u) us) (is_same u t) u t refl

-- what stands at x once a record is added: its heading is established, and then its variants lead to it
abbrev pub after_established : List ℕ → List ℕ → Option (Option (List ℕ)) → Option (Option (List ℕ))
after_established t x lead = if is_same t x then Some None else lead

abbrev pub after_variants : Bool → List ℕ → Option (Option (List ℕ)) → Option (Option (List ℕ))
after_variants led t lead = if led then Some (joined_lead lead t) else lead

more : (established new led : Bool) (ts : List (List ℕ)) (t : List ℕ)
    → (if established || new then Some None else lead_among (if led then ts ++ t ∷ [] else ts))
    ≡ after_variants led t (if new then Some None else (if established then Some None else lead_among ts))
more true true true ts t = refl
more true true false ts t = refl
more true false true ts t = refl
more true false false ts t = refl
more false true true ts t = refl
more false true false ts t = refl
more false false true ts t = among_more ts t
more false false false ts t = refl

pub lead_more : (rs : List Authority) (r : Authority) (x : List ℕ)
    → lead_of (rs ++ r ∷ []) x ≡ after_variants (has_variant x r) r.established (after_established r.established x (lead_of rs x))
lead_more rs r x =
    (λ i. if established_more rs r x i then Some None else lead_among (led_more rs r x i))
    ∙ more (is_established rs x) (is_same r.established x) (has_variant x r) (led_to rs x) r.established

-- a variant that leads to the same heading once more
pub joined_twice : (lead : Option (Option (List ℕ))) (t : List ℕ) → joined_lead (Some (joined_lead lead t)) t ≡ joined_lead lead t
joined_twice None t = ap (λ b. if b then Some t else None) (itself t)
joined_twice (Some None) t = refl
joined_twice (Some (Some u)) t = by (is_same u t) refl
  where
    by : (b : Bool) → is_same u t ≡ b → joined_lead (Some (if b then Some u else None)) t ≡ (if b then Some u else None)
    by true e = ap (λ c. if c then Some u else None) e
    by false e = refl

pub led_once_more : (before now : Bool) (lead : Option (Option (List ℕ))) (t : List ℕ)
    → (if now then Some (joined_lead (if before then Some (joined_lead lead t) else lead) t) else (if before then Some (joined_lead lead t) else lead))
    ≡ (if before || (now || false) then Some (joined_lead lead t) else lead)
led_once_more true true lead t = ap Some (joined_twice lead t)
led_once_more true false lead t = refl
led_once_more false true lead t = refl
led_once_more false false lead t = refl

-- what a table has is what its records give
from_among : (ts : List (List ℕ)) → option_and_then (λ lead. lead) (lead_among ts) ≡ the_one ts
from_among [] = refl
from_among (t ∷ ts) = refl

pub name-from_lead : (rs : List Authority) (x : List ℕ) → option_and_then (λ lead. lead) (lead_of rs x) ≡ name_at rs x
name-from_lead rs x =
    elim (is_established rs x) as (λ b. option_and_then (λ lead. lead) (if b then Some None else lead_among (led_to rs x)) ≡ (if b then None else the_one (led_to rs x))) [
      | true ↦ refl
      | false ↦ from_among (led_to rs x)
    ]

pub name-from_table : (table : Table) (rs : List Authority) → IsTableOf table rs → (x : List ℕ) → led_from table x ≡ name_at rs x
name-from_table table rs is x = ap (option_and_then (λ lead. lead)) (is x) ∙ name-from_lead rs x

-- a heading that is led to is established
or_later : (a b : Bool) → b ≡ true → (a || b) ≡ true
or_later true b h = refl
or_later false b h = h

led_step : (r : Authority) (rs : List Authority) (x t : List ℕ) (ts : List (List ℕ)) → (led_to rs x ≡ t ∷ ts → is_established rs t ≡ true)
    → led_to (r ∷ rs) x ≡ t ∷ ts → is_established (r ∷ rs) t ≡ true
led_step r rs x t ts rest e = by (has_variant x r) refl
  where
    first : r.established ≡ t → is_established (r ∷ rs) t ≡ true
    first p = ap (λ b. b || is_established rs t) (ap (λ u. is_same u t) p ∙ itself t)

    by : (b : Bool) → has_variant x r ≡ b → is_established (r ∷ rs) t ≡ true
    by true h =
        let both : r.established ∷ led_to rs x ≡ t ∷ ts = ap (λ b. map (λ s. s.established) (if b then r ∷ filter (has_variant x) rs else filter (has_variant x) rs)) (sym h) ∙ e in
        first cc
    by false h =
        let later : led_to rs x ≡ t ∷ ts = ap (λ b. map (λ s. s.established) (if b then r ∷ filter (has_variant x) rs else filter (has_variant x) rs)) (sym h) ∙ e in
        or_later (is_same r.established t) (is_established rs t) (rest later)

led_established : (rs : List Authority) (x t : List ℕ) (ts : List (List ℕ)) → led_to rs x ≡ t ∷ ts → is_established rs t ≡ true
led_established [] x t ts e = cc
led_established (r ∷ rs) x t ts e = led_step r rs x t ts (led_established rs x t ts) e

one_established : (rs : List Authority) (x t : List ℕ) (ts : List (List ℕ)) → led_to rs x ≡ ts → the_one ts ≡ Some t → is_established rs t ≡ true
one_established rs x t [] e h = cc
one_established rs x t (u ∷ us) e h = by (list_all (is_same u) us) refl
  where
    by : (b : Bool) → list_all (is_same u) us ≡ b → is_established rs t ≡ true
    by true g =
        let some : Some u ≡ Some t = ap (λ b. if b then Some u else None) (sym g) ∙ h in
        let is : u ≡ t = cc in
        subst (λ v. is_established rs v ≡ true) is (led_established rs x u us e)
    by false g =
        let none : None ≡ Some t = ap (λ b. if b then Some u else None) (sym g) ∙ h in
        cc

name_established : (rs : List Authority) (x t : List ℕ) → name_at rs x ≡ Some t → is_established rs t ≡ true
name_established rs x t h = by (is_established rs x) refl
  where
    by : (b : Bool) → is_established rs x ≡ b → is_established rs t ≡ true
    by true e =
        let none : None ≡ Some t = ap (λ b. if b then None else the_one (led_to rs x)) (sym e) ∙ h in
        cc
    by false e = one_established rs x t (led_to rs x) refl (ap (λ b. if b then None else the_one (led_to rs x)) (sym e) ∙ h)

pub seen_twice : (rs : List Authority) (x : List ℕ) → see rs (see rs x) ≡ see rs x
seen_twice rs x = by (name_at rs x) refl
  where
    by : (o : Option (List ℕ)) → name_at rs x ≡ o → see rs (see rs x) ≡ see rs x
    by None e =
        let here : see rs x ≡ x = ap (λ p. unwrap_or p x) e in
        ap (see rs) here
    by (Some t) e =
        let here : see rs x ≡ t = ap (λ p. unwrap_or p x) e in
        let stays : see rs t ≡ t = ap (λ b. unwrap_or (if b then None else the_one (led_to rs t)) t) (name_established rs x t e) in
        ap (see rs) here ∙ stays ∙ sym here

-- another order
not_all : {X : Type 0} (p : X → Bool) (xs : List X) → list_any (λ x. not (p x)) xs ≡ not (list_all p xs)
not_all p [] = refl
not_all p (x ∷ xs) = elim (p x) as (λ b. (not b || list_any (λ y. not (p y)) xs) ≡ not (b && list_all p xs)) [ true ↦ not_all p xs | false ↦ refl ]

any_led : (p : List ℕ → Bool) (x : List ℕ) (rs : List Authority) → list_any p (led_to rs x) ≡ list_any (λ r. has_variant x r && p r.established) rs
any_led p x [] = refl
any_led p x (r ∷ rs) =
    elim (has_variant x r) as (λ b. list_any p (map (λ s. s.established) (if b then r ∷ filter (has_variant x) rs else filter (has_variant x) rs))
    ≡ ((b && p r.established) || list_any (λ s. has_variant x s && p s.established) rs)) [
      | true ↦ ap (λ b. p r.established || b) (any_led p x rs)
      | false ↦ any_led p x rs
    ]

-- two lists of which the same tests pass somewhere
abbrev pub SameTests : List (List ℕ) → List (List ℕ) → Type 0
SameTests ts us = (p : List ℕ → Bool) → list_any p ts ≡ list_any p us

not_true : (b : Bool) → not b ≡ false → b ≡ true
not_true true h = refl
not_true false h = cc

-- where all of the first list are t, all of the second are
all_one : (t u : List ℕ) (ts us : List (List ℕ)) → SameTests (t ∷ ts) (u ∷ us) → list_all (is_same t) ts ≡ true → (t ≡ u) × (list_all (is_same u) us ≡ true)
all_one t u ts us tests all =
    let there : (is_same t u && list_all (is_same t) us) ≡ true = not_true (is_same t u && list_all (is_same t) us)
    (sym (not_all (is_same t) (u ∷ us)) ∙ sym (tests (λ y. not (is_same t y))) ∙ not_all (is_same t) (t ∷ ts) ∙ (λ i. not (itself t i && all i))) in
    let both = both_true (is_same t u) (list_all (is_same t) us) there in
    let is : t ≡ u = same t u both.0 in
    (is, subst (λ v. list_all (is_same v) us ≡ true) is both.1)

among_same : (ts us : List (List ℕ)) → SameTests ts us → lead_among ts ≡ lead_among us
among_same [] [] tests = refl
among_same [] (u ∷ us) tests = let h : false ≡ true = tests (λ _. true) in cc
among_same (t ∷ ts) [] tests = let h : true ≡ false = tests (λ _. true) in cc
among_same (t ∷ ts) (u ∷ us) tests = by (list_all (is_same t) ts) (list_all (is_same u) us) refl refl
  where
    by : (a b : Bool) → list_all (is_same t) ts ≡ a → list_all (is_same u) us ≡ b → Some (if list_all (is_same t) ts then Some t else None) ≡ Some (if list_all (is_same u) us then Some u else None)
    by true b p q =
        let both = all_one t u ts us tests p in
        (λ i. Some (if p i then Some (both.0 i) else None)) ∙ (λ i. Some (if sym both.1 i then Some u else None))
    by false true p q =
        let both = all_one u t us ts (λ test. sym (tests test)) q in
        let h : true ≡ false = sym both.1 ∙ p in
        cc
    by false false p q = (λ i. Some (if p i then Some t else None)) ∙ (λ i. Some (if sym q i then Some u else None))

pub lead_in_order : (rs others : List Authority) → IsPermutation rs others → (x : List ℕ) → lead_of rs x ≡ lead_of others x
lead_in_order rs others moved x =
    let established : is_established rs x ≡ is_established others x = list_any-IsPermutation (λ r. is_same r.established x) rs others moved in
    let among : lead_among (led_to rs x) ≡ lead_among (led_to others x) = among_same (led_to rs x) (led_to others x)
    (λ p. any_led p x rs ∙ list_any-IsPermutation (λ r. has_variant x r && p r.established) rs others moved ∙ sym (any_led p x others)) in
    λ i. if established i then Some None else among i

pub name_in_order : (rs others : List Authority) → IsPermutation rs others → (x : List ℕ) → name_at rs x ≡ name_at others x
name_in_order rs others moved x =
    sym (name-from_lead rs x) ∙ ap (option_and_then (λ lead. lead)) (lead_in_order rs others moved x) ∙ name-from_lead others x

pub table_in_order : (rs others : List Authority) → IsPermutation rs others → (first second : Table) → IsTableOf first rs → IsTableOf second others → first ≡ second
table_in_order rs others moved first second p q = same_map nat_list_cmp_total texts_apart first second (λ x. p x ∙ lead_in_order rs others moved x ∙ sym (q x))
