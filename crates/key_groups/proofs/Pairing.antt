-- Pairs of places that are noted under one hash.
use Rattle.std.proofs.Common.{◌≡◌, ◌<◌, ◌+◌, ◌-◌, ℕ, zero, suc, List, [], ◌∷◌, ◌++◌, length, get_or, sym, ◌∙◌, ap, subst, inl, inr, arith}
use Rattle.std.specs.Prelude.{◌⊎◌, Contains}
use Rattle.std.specs.List.Sorted.{IsNonDecreasingBy, IsPermutation}
use Rattle.std.proofs.lemmas.Bool.{cases_lt}
use Rattle.std.proofs.lemmas.List.{get_or_default}
use Rattle.std.proofs.lemmas.List.Elements.{Contains-append_left, Contains-append_right, Contains-append_cases, Contains-push, Contains-push_cases}
use Rattle.std.proofs.lemmas.List.Sorted.{Contains-permutation, IsPermutation-sym}
use Rattle.key_groups.specs.declared.notes.Noted.{Noted}
use Rattle.key_groups.specs.Notes.{JoinsPlaces, JoinsPairs, ArePaired, ArePairs}

-- notes of one hash at neighbouring places below n have one label
abbrev pub JoinsNeighbours : List Noted → ℕ → (ℕ → ℕ) → Type 0
JoinsNeighbours notes n label = (i : ℕ) (d : Noted) → i + 1 < n → i + 1 < length notes → (get_or notes i d).hash ≡ (get_or notes (i + 1) d).hash → label (get_or notes i d).place ≡ label (get_or notes (i + 1) d).place

-- one place more, whose pair is added where it has the hash of its neighbour
pub neighbours_more : (notes : List Noted) (pairs : List (ℕ × ℕ)) (n : ℕ) (one other : Noted) (label : ℕ → ℕ) → 0 < n → ((d : Noted) → get_or notes (n - 1) d ≡ one) → ((d : Noted) → get_or notes n d ≡ other) → JoinsNeighbours notes n label → (one.hash ≡ other.hash → label one.place ≡ label other.place) → JoinsNeighbours notes (n + 1) label
neighbours_more notes pairs n one other label some at at' so now i d il within same = elim (cases_lt (i + 1) n) [
  | inl before ↦ so i d before within same
  | inr after ↦ (
      let here : i ≡ n - 1 = omega (arith, il, after) in
      let next : i + 1 ≡ n = omega (arith, il, after) in
      let first : get_or notes i d ≡ one = ap (λ k. get_or notes k d) here ∙ at d in
      let second : get_or notes (i + 1) d ≡ other = ap (λ k. get_or notes k d) next ∙ at' d in
      ap (λ (e : Noted). label e.place) first
      ∙ now (ap (λ (e : Noted). e.hash) (sym first) ∙ same ∙ ap (λ (e : Noted). e.hash) second)
      ∙ ap (λ (e : Noted). label e.place) (sym second))
]

-- so are all places of one hash, where the notes are sorted
runs_joined : (notes : List Noted) (label : ℕ → ℕ) → IsNonDecreasingBy (λ (e : Noted). e.hash) notes → JoinsNeighbours notes (length notes) label → (i j : ℕ) (d : Noted) → i + j < length notes → (get_or notes i d).hash ≡ (get_or notes (i + j) d).hash → label (get_or notes i d).place ≡ label (get_or notes (i + j) d).place
runs_joined notes label sorted so i zero d within same = let here : i + 0 ≡ i = omega arith in ap (λ k. label (get_or notes k d).place) (sym here)
runs_joined notes label sorted so i (suc j) d within same =
    let next : i + suc j ≡ (i + j) + 1 = omega arith in
    let up = sorted i (i + j) d (omega arith) (omega (arith, within)) in
    let on = sorted (i + j) (i + suc j) d (omega arith) within in
    let first : (get_or notes i d).hash ≡ (get_or notes (i + j) d).hash = omega (arith, up, on, same) in
    let last : (get_or notes (i + j) d).hash ≡ (get_or notes ((i + j) + 1) d).hash = sym first ∙ same ∙ ap (λ k. (get_or notes k d).hash) next in
    runs_joined notes label sorted so i j d (omega (arith, within)) first
    ∙ so (i + j) d (omega (arith, within)) (omega (arith, within)) last
    ∙ ap (λ k. label (get_or notes k d).place) (sym next)

pub places_joined : (notes : List Noted) (label : ℕ → ℕ) → IsNonDecreasingBy (λ (e : Noted). e.hash) notes → JoinsNeighbours notes (length notes) label → JoinsPlaces notes label
places_joined notes label sorted so a b ca cb same =
    let (i, il, at) = ca in
    let (j, jl, at') = cb in
    let there : get_or notes j a ≡ b = get_or_default notes j a b jl ∙ at' in
    let here : get_or notes i b ≡ a = get_or_default notes i b a il ∙ at in
    elim (cases_lt i j) [
      | inl before ↦ (
          let k = j - i in
          let whole : i + k ≡ j = omega (arith, before) in
          let last : get_or notes (i + k) a ≡ b = ap (λ m. get_or notes m a) whole ∙ there in
          ap (λ (e : Noted). label e.place) (sym at)
          ∙ runs_joined notes label sorted so i k a (omega (arith, jl, whole)) (ap (λ (e : Noted). e.hash) at ∙ same ∙ ap (λ (e : Noted). e.hash) (sym last))
          ∙ ap (λ (e : Noted). label e.place) last)
      | inr after ↦ (
          let k = i - j in
          let whole : j + k ≡ i = omega (arith, after) in
          let last : get_or notes (j + k) b ≡ a = ap (λ m. get_or notes m b) whole ∙ here in
          sym (ap (λ (e : Noted). label e.place) (sym at')
          ∙ runs_joined notes label sorted so j k b (omega (arith, il, whole)) (ap (λ (e : Noted). e.hash) at' ∙ sym same ∙ ap (λ (e : Noted). e.hash) (sym last))
          ∙ ap (λ (e : Noted). label e.place) last))
    ]

-- the pairs of the neighbours below n are added to those at the start
pub record AreAddedTo (notes : List Noted) (start pairs : List (ℕ × ℕ)) (n : ℕ) : Type 0 where
  pub joined : (label : ℕ → ℕ) → JoinsPairs pairs label → JoinsPairs start label × JoinsNeighbours notes n label
  pub own : (p : ℕ × ℕ) → Contains pairs p → Contains start p ⊎ ArePaired notes p

pub added_none : (notes : List Noted) (start : List (ℕ × ℕ)) → AreAddedTo notes start start 1
added_none notes start = record {
  joined = λ label joins. (joins, λ i d il. absurd (omega (arith, il)));
  own = λ p cp. inl cp;
}

abbrev none : Noted
none = record { hash = 0; place = 0 }

at_place : (notes : List Noted) (n : ℕ) → n < length notes → (d : Noted) → get_or notes n d ≡ get_or notes n none
at_place notes n within d = get_or_default notes n d none within

-- a pair is added where the next note has the hash of the one before it
pub added_pair : (notes : List Noted) (start pairs pairs' : List (ℕ × ℕ)) (n : ℕ) → 0 < n → n < length notes → (get_or notes (n - 1) none).hash ≡ (get_or notes n none).hash → pairs' ≡ pairs ++ ((get_or notes (n - 1) none).place, (get_or notes n none).place) ∷ [] → AreAddedTo notes start pairs n → AreAddedTo notes start pairs' (n + 1)
added_pair notes start pairs pairs' n some within same is so =
    let one = get_or notes (n - 1) none in
    let other = get_or notes n none in
    let below : n - 1 < length notes = omega (arith, within) in
    record {
      joined = λ label joins.
          let all : JoinsPairs (pairs ++ (one.place, other.place) ∷ []) label = subst (λ (l : List (ℕ × ℕ)). JoinsPairs l label) is joins in
          let before = so.joined label (λ p cp. all p (Contains-append_left pairs ((one.place, other.place) ∷ []) p cp)) in (
            before.0,
            neighbours_more notes pairs n one other label some (at_place notes (n - 1) below) (at_place notes n within) before.1
                (λ _. all (one.place, other.place) (Contains-push pairs (one.place, other.place))),
          );
      own = λ p cp. elim (Contains-push_cases pairs (one.place, other.place) p (subst (λ (l : List (ℕ × ℕ)). Contains l p) is cp)) [
        | inl before ↦ so.own p before
        | inr last ↦ inr (one, other, (n - 1, below, at_place notes (n - 1) below one), (n, within, at_place notes n within other), same, ap (λ (q : ℕ × ℕ). q.0) last, ap (λ (q : ℕ × ℕ). q.1) last)
      ];
    }

-- and none where it has another
pub added_no_pair : (notes : List Noted) (start pairs : List (ℕ × ℕ)) (n : ℕ) → 0 < n → n < length notes → ((get_or notes (n - 1) none).hash ≡ (get_or notes n none).hash → ⊥) → AreAddedTo notes start pairs n → AreAddedTo notes start pairs (n + 1)
added_no_pair notes start pairs n some within other so =
    let below : n - 1 < length notes = omega (arith, within) in
    record {
      joined = λ label joins.
          let before = so.joined label joins in (
            before.0,
            neighbours_more notes pairs n (get_or notes (n - 1) none) (get_or notes n none) label some (at_place notes (n - 1) below) (at_place notes n within) before.1
                (λ same. absurd (other same)),
          );
      own = so.own;
    }

-- the pairs of no part, of one part more, and of the parts of two lists
pub pairs_none : (pairs : List (ℕ × ℕ)) → pairs ≡ [] → ArePairs [] pairs
pairs_none pairs empty = record {
  joined = λ label joins part cp. (let (i, within, same) = cp in absurd (omega (arith, within)));
  own = λ p cp. (let (i, within, same) = subst (λ (l : List (ℕ × ℕ)). Contains l p) empty cp in absurd (omega (arith, within)));
}

pub pairs_more : (parts : List (List Noted)) (part notes : List Noted) (pairs pairs' : List (ℕ × ℕ)) → IsPermutation part notes → ((label : ℕ → ℕ) → JoinsPairs pairs' label → JoinsPairs pairs label × JoinsPlaces notes label) → ((p : ℕ × ℕ) → Contains pairs' p → Contains pairs p ⊎ ArePaired notes p) → ArePairs parts pairs → ArePairs (parts ++ part ∷ []) pairs'
pairs_more parts part notes pairs pairs' moved joined own so = record {
  joined = λ label joins q cq. elim (Contains-push_cases parts part q cq) [
    | inl before ↦ so.joined label (joined label joins).0 q before
    | inr same ↦ subst (λ (l : List Noted). JoinsPlaces l label) same
        (λ a b ca cb alike. (joined label joins).1 a b (Contains-permutation part notes a moved ca) (Contains-permutation part notes b moved cb) alike)
  ];
  own = λ p cp. elim (own p cp) [
    | inl before ↦ (let (q, cq, paired) = so.own p before in (q, Contains-append_left parts (part ∷ []) q cq, paired))
    | inr new ↦ (
        let (a, b, ca, cb, same, one, other) = new in (
          part,
          Contains-push parts part,
          (a, b, Contains-permutation notes part a (IsPermutation-sym part notes moved) ca, Contains-permutation notes part b (IsPermutation-sym part notes moved) cb, same, one, other),
        ))
  ];
}

pub pairs_beside : (front back : List (List Noted)) (one other : List (ℕ × ℕ)) → ArePairs front one → ArePairs back other → ArePairs (front ++ back) (one ++ other)
pairs_beside front back one other so also = record {
  joined = λ label joins q cq. elim (Contains-append_cases front back q cq) [
    | inl d ↦ so.joined label (λ p cp. joins p (Contains-append_left one other p cp)) q d
    | inr d ↦ also.joined label (λ p cp. joins p (Contains-append_right one other p cp)) q d
  ];
  own = λ p cp. elim (Contains-append_cases one other p cp) [
    | inl d ↦ (let (q, cq, paired) = so.own p d in (q, Contains-append_left front back q cq, paired))
    | inr d ↦ (let (q, cq, paired) = also.own p d in (q, Contains-append_right front back q cq, paired))
  ];
}
