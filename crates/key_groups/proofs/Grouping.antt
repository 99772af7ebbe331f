-- Values that are put into groups by their labels, one after the other.
use Rattle.std.proofs.Common.{◌≡◌, ◌<◌, ◌≤◌, ◌+◌, ℕ, suc, zero, List, [], ◌∷◌, ◌++◌, length, get_or, set, map, replicate, refl, sym, ◌∙◌, ap, ap₂, subst, inl, inr, arith, length-append}
use Rattle.std.specs.Prelude.{◌↔◌, Option, None, Some, slice_get, Contains, AllPairs}
use Rattle.std.proofs.lemmas.Bool.{cases_eq, cases_lt}
use Rattle.std.proofs.lemmas.List.{length_push, length-replicate, get_or_default, get_or_past, get_or-set_same, get_or-set_other, get_or-replicate, map_push, map-set, get_or-map, replicate_more}
use Rattle.std.proofs.lemmas.List.Elements.{Contains-append_left, Contains-append_right, Contains-append_cases, Contains-push, Contains-push_cases}
use Rattle.std.proofs.lemmas.Option.{slice_get_within, get_or_from_slice_get}
use Rattle.merge_laws.proofs.Places.{AllPairs-none, AllPairs-one, AllPairs-append}
use Rattle.key_groups.specs.Groups.{ShareNoKey, JoinsByKeys, Follows, AreSized, AreAlike, AreCutApart, AreJoined, together}

-- one place more with a label: sizes grow, and none faster than the places
sizes_grow : (sizes : List ℕ) (l k : ℕ) → l < length sizes → get_or sizes k 0 ≤ get_or (set sizes l (get_or sizes l 0 + 1)) k 0
sizes_grow sizes l k ll = elim (cases_eq k l) [
  | inl same ↦ (
      let here = get_or-set_same sizes l (get_or sizes l 0 + 1) 0 ll in
      subst (λ j. get_or sizes j 0 ≤ get_or (set sizes l (get_or sizes l 0 + 1)) j 0) (sym same) (omega (arith, here)))
  | inr other ↦ (let there = get_or-set_other sizes l k (get_or sizes l 0 + 1) 0 other in omega (arith, there))
]

pub sizes_bound : (sizes : List ℕ) (l n : ℕ) → l < length sizes → ((k : ℕ) → get_or sizes k 0 ≤ n) → (k : ℕ) → get_or (set sizes l (get_or sizes l 0 + 1)) k 0 ≤ n + 1
sizes_bound sizes l n ll bound k = elim (cases_eq k l) [
  | inl same ↦ (
      let here = get_or-set_same sizes l (get_or sizes l 0 + 1) 0 ll in
      let old = bound l in
      subst (λ j. get_or (set sizes l (get_or sizes l 0 + 1)) j 0 ≤ n + 1) (sym same) (omega (arith, here, old)))
  | inr other ↦ (let there = get_or-set_other sizes l k (get_or sizes l 0 + 1) 0 other in let old = bound k in omega (arith, there, old))
]

-- the labels of the places so far have a size, and one of more than one where two places have the label
pub record AreCounted (sizes labels : List ℕ) (n : ℕ) : Type 0 where
  pub one : (i : ℕ) → i < n → 0 < get_or sizes (get_or labels i 0) 0
  pub two : (i j : ℕ) → i < j → j < n → get_or labels i 0 ≡ get_or labels j 0 → 1 < get_or sizes (get_or labels j 0) 0

pub counted_more : (sizes labels : List ℕ) (n : ℕ) → get_or labels n 0 < length sizes → AreCounted sizes labels n → AreCounted (set sizes (get_or labels n 0) (get_or sizes (get_or labels n 0) 0 + 1)) labels (n + 1)
counted_more sizes labels n ll so =
    let l = get_or labels n 0 in
    let new = set sizes l (get_or sizes l 0 + 1) in
    let here : get_or new l 0 ≡ get_or sizes l 0 + 1 = get_or-set_same sizes l (get_or sizes l 0 + 1) 0 ll in
    record {
      one = λ i il. elim (cases_lt i n) [
        | inl before ↦ (let old = so.one i before in let grown = sizes_grow sizes l (get_or labels i 0) ll in omega (arith, old, grown))
        | inr after ↦ (
            let same : i ≡ n = omega (arith, il, after) in
            subst (λ k. 0 < get_or new (get_or labels k 0) 0) (sym same) (omega (arith, here)))
      ];
      two = λ i j ij jl same. elim (cases_lt j n) [
        | inl before ↦ (let old = so.two i j ij before same in let grown = sizes_grow sizes l (get_or labels j 0) ll in omega (arith, old, grown))
        | inr after ↦ (
            let last : j ≡ n = omega (arith, jl, after) in
            let label : get_or labels i 0 ≡ l = same ∙ ap (λ k. get_or labels k 0) last in
            let old : 0 < get_or sizes l 0 = subst (λ k. 0 < get_or sizes k 0) label (so.one i (omega (arith, ij, last))) in
            subst (λ k. 1 < get_or new (get_or labels k 0) 0) (sym last) (omega (arith, here, old)))
      ];
    }

-- a value of a group is one of all groups, and the other way round
pub together_from_group : {A : Type 0} (groups : List (List A)) (l : ℕ) (x : A) → Contains (get_or groups l []) x → Contains (together groups) x
together_from_group [] l x (i, il, e) = absurd (omega arith)
together_from_group (group ∷ groups) zero x c = Contains-append_left group (together groups) x c
together_from_group (group ∷ groups) (suc l) x c = Contains-append_right group (together groups) x (together_from_group groups l x c)

pub group_from_together : {A : Type 0} (groups : List (List A)) (x : A) → Contains (together groups) x → (l : ℕ) × (l < length groups) × Contains (get_or groups l []) x
group_from_together [] x (i, il, e) = absurd (omega arith)
group_from_together (group ∷ groups) x c = elim (Contains-append_cases group (together groups) x c) [
  | inl here ↦ (0, omega arith, here)
  | inr later ↦ (let (l, ll, there) = group_from_together groups x later in (suc l, omega (arith, ll), there))
]

-- where a value is put into a group, all values stay
together_put : {A : Type 0} (groups : List (List A)) (l : ℕ) (v x : A) → l < length groups → Contains (together groups) x → Contains (together (set groups l (get_or groups l [] ++ v ∷ []))) x
together_put groups l v x ll c =
    let (m, ml, there) = group_from_together groups x c in
    let new = get_or groups l [] ++ v ∷ [] in
    elim (cases_eq m l) [
      | inl same ↦ together_from_group (set groups l new) l x
          (subst (λ group. Contains group x) (sym (get_or-set_same groups l new [] ll))
          (Contains-append_left (get_or groups l []) (v ∷ []) x (subst (λ k. Contains (get_or groups k []) x) same there)))
      | inr other ↦ together_from_group (set groups l new) m x (subst (λ group. Contains group x) (sym (get_or-set_other groups l m new [] other)) there)
    ]

only : {A : Type 0} {v y : A} → Contains (v ∷ []) y → v ≡ y
only {v = v} {y = y} c = elim (Contains-push_cases [] v y c) [ inl (i, within, e) ↦ absurd (omega arith) | inr same ↦ same ]

-- the value at the middle
pub at_middle : {A : Type 0} (front : List A) (v : A) (rest : List A) → slice_get (front ++ v ∷ rest) (length front) ≡ Some v
at_middle [] v rest = refl
at_middle (u ∷ front) v rest = at_middle front v rest

member_at : {A : Type 0} (list : List A) (i : ℕ) (x : A) → slice_get list i ≡ Some x → Contains list x
member_at list i x at = (i, slice_get_within list i x at, get_or_from_slice_get list i x x at)

-- the values so far are strangers, whose labels have a size of one at most, or in the groups of their labels, which have more
pub record AreGrouped {A K : Type 0} (has_key : A → K → Type 0) (list : List A) (labels sizes : List ℕ) (values strangers : List A) (groups : List (List A)) : Type 0 where
  pub alone : (x : A) → Contains strangers x → (i : ℕ) × (i < length values) × (slice_get list i ≡ Some x) × (get_or sizes (get_or labels i 0) 0 ≤ 1)
  pub apart : AllPairs (ShareNoKey has_key) strangers
  pub labelled : (l : ℕ) (x : A) → Contains (get_or groups l []) x → (i : ℕ) × (slice_get list i ≡ Some x) × (get_or labels i 0 ≡ l) × (1 < get_or sizes l 0)
  pub kept : (x : A) → Contains values x → Contains (strangers ++ together groups) x

module _ {A K : Type 0} {has_key : A → K → Type 0} (list : List A) (labels sizes : List ℕ) where
  -- at the start there are no values
  pub grouped_none : (values strangers : List A) (groups : List (List A)) (n : ℕ) → values ≡ [] → strangers ≡ [] → groups ≡ replicate n [] → AreGrouped has_key list labels sizes values strangers groups
  grouped_none values strangers groups n e e' e'' =
      let empty : (l : ℕ) → get_or groups l [] ≡ [] = λ l. subst (λ (all : List (List A)). get_or all l [] ≡ []) (sym e'') (elim (cases_lt l n) [
        | inl within ↦ get_or-replicate n l [] [] within
        | inr past ↦ (let size = length-replicate {A = List A} n [] in get_or_past (replicate n []) l [] (omega (arith, past, size)))
      ]) in
      record {
        alone = λ x c. (let (i, within, same) = subst (λ (all : List A). Contains all x) e' c in absurd (omega (arith, within)));
        apart = subst (AllPairs (ShareNoKey has_key)) (sym e') (AllPairs-none (ShareNoKey has_key));
        labelled = λ l x c. (let (i, within, same) = subst (λ (group : List A). Contains group x) (empty l) c in absurd (omega (arith, within)));
        kept = λ x c. (let (i, within, same) = subst (λ (all : List A). Contains all x) e c in absurd (omega (arith, within)));
      }

  -- the next value is put into the group of its label, where that has a size of more than one
  pub grouped_more : (values rest strangers : List A) (groups : List (List A)) (v : A) (l : ℕ) → list ≡ values ++ v ∷ rest → get_or labels (length values) 0 ≡ l → l < length groups → 1 < get_or sizes l 0 → AreGrouped has_key list labels sizes values strangers groups → AreGrouped has_key list labels sizes (values ++ v ∷ []) strangers (set groups l (get_or groups l [] ++ v ∷ []))
  grouped_more values rest strangers groups v l whole label ll several p =
      let n = length values in
      let old = get_or groups l [] in
      let new = set groups l (old ++ v ∷ []) in
      let more : length (values ++ v ∷ []) ≡ n + 1 = length_push values v in
      let here : slice_get list n ≡ Some v = subst (λ all. slice_get all n ≡ Some v) (sym whole) (at_middle values v rest) in
      let there : get_or new l [] ≡ old ++ v ∷ [] = get_or-set_same groups l (old ++ v ∷ []) [] ll in
      record {
        alone = λ x c. (let (i, il, at, one) = p.alone x c in (i, omega (arith, il, more), at, one));
        apart = p.apart;
        labelled = λ m x c. elim (cases_eq m l) [
          | inl same ↦ elim (Contains-push_cases old v x (subst (λ group. Contains group x) (ap (λ k. get_or new k []) same ∙ there) c)) [
            | inl d ↦ p.labelled m x (subst (λ k. Contains (get_or groups k []) x) (sym same) d)
            | inr value ↦ (n, subst (λ y. slice_get list n ≡ Some y) value here, label ∙ sym same, subst (λ k. 1 < get_or sizes k 0) (sym same) several)
          ]
          | inr other ↦ p.labelled m x (subst (λ group. Contains group x) (get_or-set_other groups l m (old ++ v ∷ []) [] other) c)
        ];
        kept = λ x c. elim (Contains-push_cases values v x c) [
          | inl d ↦ elim (Contains-append_cases strangers (together groups) x (p.kept x d)) [
            | inl s ↦ Contains-append_left strangers (together new) x s
            | inr o ↦ Contains-append_right strangers (together new) x (together_put groups l v x ll o)
          ]
          | inr same ↦ Contains-append_right strangers (together new) x
              (subst (Contains (together new)) same (together_from_group new l v (subst (λ group. Contains group v) (sym there) (Contains-push old v))))
        ];
      }

  -- at the end the strangers and the groups have the values
  pub cut_members : (values strangers : List A) (groups : List (List A)) → list ≡ values → AreGrouped has_key list labels sizes values strangers groups → (x : A) → Contains list x ↔ Contains (strangers ++ together groups) x
  cut_members values strangers groups all p x = (
    (λ c. p.kept x (subst (λ (l : List A). Contains l x) all c)),
    (λ c. elim (Contains-append_cases strangers (together groups) x c) [
      | inl s ↦ (let (i, il, at, one) = p.alone x s in member_at list i x at)
      | inr o ↦ (let (l, ll, d) = group_from_together groups x o in let (j, at, label, several) = p.labelled l x d in member_at list j x at)
    ]),
  )

module _ {A K : Type 0} {has_key : A → K → Type 0} (list : List A) (labels sizes : List ℕ) (joined : JoinsByKeys has_key list (λ i. get_or labels i 0)) where
  -- the next value is a stranger, where its label has a size of one at most
  pub grouped_stranger : (values rest strangers : List A) (groups : List (List A)) (v : A) (l : ℕ) → list ≡ values ++ v ∷ rest → length labels ≡ length list → AreSized sizes labels → get_or labels (length values) 0 ≡ l → get_or sizes l 0 ≤ 1 → AreGrouped has_key list labels sizes values strangers groups → AreGrouped has_key list labels sizes (values ++ v ∷ []) (strangers ++ v ∷ []) groups
  grouped_stranger values rest strangers groups v l whole size sized is few p =
      let n = length values in
      let single : get_or sizes (get_or labels n 0) 0 ≤ 1 = subst (λ m. get_or sizes m 0 ≤ 1) (sym is) few in
      let more : length (values ++ v ∷ []) ≡ n + 1 = length_push values v in
      let here : slice_get list n ≡ Some v = subst (λ all. slice_get all n ≡ Some v) (sym whole) (at_middle values v rest) in
      let long : length list ≡ n + length (v ∷ rest) = ap length whole ∙ length-append values (v ∷ rest) in
      record {
        alone = λ x c. elim (Contains-push_cases strangers v x c) [
          | inl d ↦ (let (i, il, at, one) = p.alone x d in (i, omega (arith, il, more), at, one))
          | inr same ↦ (n, omega (arith, more), subst (λ y. slice_get list n ≡ Some y) same here, single)
        ];
        apart = AllPairs-append (ShareNoKey has_key) strangers (v ∷ []) p.apart (AllPairs-one (ShareNoKey has_key) v) (λ x y cx cy k hx hy.
            let (i, il, at, one) = p.alone x cx in
            let label : get_or labels i 0 ≡ get_or labels n 0 = joined i n x y k at (subst (λ z. slice_get list n ≡ Some z) (only cy) here) hx hy in
            let two = sized i n il (omega (arith, size, long)) label in
            omega (arith, two, single));
        labelled = p.labelled;
        kept = λ x c. elim (Contains-push_cases values v x c) [
          | inl d ↦ elim (Contains-append_cases strangers (together groups) x (p.kept x d)) [
            | inl s ↦ Contains-append_left (strangers ++ v ∷ []) (together groups) x (Contains-append_left strangers (v ∷ []) x s)
            | inr o ↦ Contains-append_right (strangers ++ v ∷ []) (together groups) x o
          ]
          | inr same ↦ Contains-append_left (strangers ++ v ∷ []) (together groups) x (subst (Contains (strangers ++ v ∷ [])) same (Contains-push strangers v))
        ];
      }

  -- values that share a key have one label, so none of those that are apart share one
  pub cut_apart : (values strangers : List A) (groups : List (List A)) → AreGrouped has_key list labels sizes values strangers groups → AreCutApart has_key strangers groups
  cut_apart values strangers groups p = record {
    strangers_apart = p.apart;
    beside = λ x y group cx cg cy k hx hy.
        let (l, ll, e) = cg in
        let (i, il, at, one) = p.alone x cx in
        let (j, at', label, several) = p.labelled l y (subst (λ g. Contains g y) (sym (get_or_default groups l [] group ll ∙ e)) cy) in
        let same : get_or labels i 0 ≡ l = joined i j x y k at at' hx hy ∙ label in
        let single : get_or sizes l 0 ≤ 1 = subst (λ m. get_or sizes m 0 ≤ 1) same one in
        omega (arith, single, several);
    groups_apart = λ l m d lm ml x y cx cy k hx hy.
        let (i, at, label, several) = p.labelled l x (subst (λ g. Contains g x) (get_or_default groups l d [] (omega (arith, lm, ml))) cx) in
        let (j, at', label', several') = p.labelled m y (subst (λ g. Contains g y) (get_or_default groups m d [] ml) cy) in
        let same : get_or labels i 0 ≡ get_or labels j 0 = joined i j x y k at at' hx hy in
        omega (arith, same, label, label', lm);
  }

-- what gives the values at the places of a list their labels
abbrev value_label : {A : Type 0} → (A → ℕ) → Option A → ℕ
value_label label None = 0
value_label label (Some x) = label x

-- two values of a group have one label
pub groups_alike : {A K : Type 0} {has_key : A → K → Type 0} (list : List A) (labels sizes : List ℕ) (values strangers : List A) (groups : List (List A)) → AreGrouped has_key list labels sizes values strangers groups → AreAlike list labels groups
groups_alike {A = A} list labels sizes values strangers groups p group x y cg cx cy =
    let (l, ll, e) = cg in
    let there : get_or groups l [] ≡ group = get_or_default groups l [] group ll ∙ e in
    let (i, at, is, several) = p.labelled l x (subst (λ (g : List A). Contains g x) (sym there) cx) in
    let (j, at', is', several') = p.labelled l y (subst (λ (g : List A). Contains g y) (sym there) cy) in
    (i, j, at, at', is ∙ sym is')

-- so no label parts a group, where what joins values by keys gives each place the label of what its label names
pub groups_joined : {A K : Type 0} {has_key : A → K → Type 0} (list : List A) (labels : List ℕ) → length labels ≡ length list → ((label : ℕ → ℕ) → JoinsByKeys has_key list label → Follows labels label) → (groups : List (List A)) → AreAlike list labels groups → AreJoined has_key list groups
groups_joined {A = A} list labels size names groups alike label joins group x y cg cx cy =
    let (i, j, at, at', same) = alike group x y cg cx cy in
    let f : ℕ → ℕ = λ m. value_label label (slice_get list m) in
    let follows = names f (λ m n u v k atu atv hu hv. ap (value_label label) atu ∙ joins u v k (member_at list m u atu) (member_at list n v atv) hu hv ∙ sym (ap (value_label label) atv)) in
    let il = slice_get_within list i x at in
    let jl = slice_get_within list j y at' in
    sym (ap (value_label label) at) ∙ sym (follows i (omega (arith, il, size))) ∙ ap f same ∙ follows j (omega (arith, jl, size)) ∙ ap (value_label label) at'

-- lists of values that something holds, as a row of vectors does: one more, which is empty, and one to which a value is added
module _ {A G : Type 0} where
  pub empty_more : (groups : List G) (n : ℕ) (group : G) (values : G → List A) → map values groups ≡ replicate n [] → values group ≡ [] → map values (groups ++ group ∷ []) ≡ replicate (n + 1) []
  empty_more groups n group values all empty =
      map_push values groups group ∙ ap₂ (λ (front : List (List A)) (last : List A). front ++ last ∷ []) all empty ∙ replicate_more n []

  pub put_last : (groups : List G) (place : ℕ) (old new : G) (more : List A) (values : G → List A) → place < length groups → values new ≡ values (get_or groups place old) ++ more → map values (set groups place new) ≡ set (map values groups) place (get_or (map values groups) place [] ++ more)
  put_last groups place old new more values within pushed =
      map-set values groups place new
      ∙ ap (set (map values groups) place) (pushed ∙ ap (λ (front : List A). front ++ more) (sym (get_or-map values groups place old [] within)))
