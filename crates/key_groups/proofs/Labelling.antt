-- Labellings that give one label to the places of pairs, and to values that share a key of one hash.
use Rattle.std.proofs.Common.{◌≡◌, ◌<◌, ◌%◌, ℕ, List, [], ◌∷◌, ◌++◌, length, get_or, sym, ◌∙◌, ap, subst, inl, inr, arith}
use Rattle.std.specs.Prelude.{◌↔◌, Some, slice_get, Contains}
use Rattle.std.proofs.lemmas.Bool.{cases_lt}
use Rattle.std.proofs.lemmas.List.{get_or_default, get_or_past}
use Rattle.std.proofs.lemmas.List.Elements.{Contains-append_left, Contains-push, Contains-push_cases}
use Rattle.std.proofs.lemmas.Option.{slice_get_within}
use Rattle.key_groups.specs.declared.notes.Noted.{Noted}
use Rattle.key_groups.specs.Groups.{Follows, JoinsByKeys}
use Rattle.key_groups.specs.Notes.{AreNoted, JoinsPairs, ArePairs}

-- no pair joins nothing
pub joined_none : (links : List ℕ) (label : ℕ → ℕ) → Follows links label ↔ (Follows links label × JoinsPairs [] label)
joined_none links label = (
  (λ follows. (follows, λ p cp. (let (i, within, same) = cp in absurd (omega (arith, within))))),
  (λ both. both.0),
)

-- one pair more
pub joined_more : (start links links' : List ℕ) (pairs : List (ℕ × ℕ)) (pair : ℕ × ℕ) → ((label : ℕ → ℕ) → Follows links label ↔ (Follows start label × JoinsPairs pairs label)) → ((label : ℕ → ℕ) → Follows links' label ↔ (Follows links label × (label pair.0 ≡ label pair.1))) → (label : ℕ → ℕ) → Follows links' label ↔ (Follows start label × JoinsPairs (pairs ++ pair ∷ []) label)
joined_more start links links' pairs pair so now label = (
  (λ follows.
      let one = (now label).0 follows in
      let before = (so label).0 one.0 in (
        before.0,
        λ p cp. elim (Contains-push_cases pairs pair p cp) [
          | inl old ↦ before.1 p old
          | inr same ↦ subst (λ (q : ℕ × ℕ). label q.0 ≡ label q.1) same one.1
        ],
      )),
  (λ both. (now label).1 (
    (so label).1 (both.0, λ p cp. both.1 p (Contains-append_left pairs (pair ∷ []) p cp)),
    both.1 pair (Contains-push pairs pair),
  )),
)

-- a part that has a note is one of the parts
part_with : (parts : List (List Noted)) (q : ℕ) (e : Noted) → Contains (get_or parts q []) e → Contains parts (get_or parts q [])
part_with parts q e c = elim (cases_lt q (length parts)) [
  | inl within ↦ (q, within, get_or_default parts q (get_or parts q []) [] within)
  | inr past ↦ (let (i, il, same) = subst (λ (l : List Noted). Contains l e) (get_or_past parts q [] past) c in absurd (omega (arith, il)))
]

module _ {A : Type 0} {has_hash : A → ℕ → Type 0} (list : List A) (parts : List (List Noted)) (pairs : List (ℕ × ℕ)) (noted : AreNoted has_hash list 0 (length list) parts) (paired : ArePairs parts pairs) where
  -- a note is of a place of the list, whose value has the hash
  place_of : (part : List Noted) (e : Noted) → Contains parts part → Contains part e → (i : ℕ) × (x : A) × (slice_get list i ≡ Some x) × has_hash x e.hash × (e.place ≡ i)
  place_of part e cp ce =
      let (q, ql, is) = cp in
      let there : get_or parts q [] ≡ part = get_or_default parts q [] part ql ∙ is in
      let (i, x, at, hx, place) = noted.own q e (subst (λ (l : List Noted). Contains l e) (sym there) ce) in
      (i, x, at, hx, (let p = place in omega (arith, p)))

  pub pairs_within : (p : ℕ × ℕ) → Contains pairs p → (p.0 < length list) × (p.1 < length list)
  pairs_within p cp =
      let (part, cpart, (a, b, ca, cb, same, one, other)) = paired.own p cp in
      let (i, x, at, hx, ai) = place_of part a cpart ca in
      let (j, y, at', hy, bj) = place_of part b cpart cb in
      let il = slice_get_within list i x at in
      let jl = slice_get_within list j y at' in
      (omega (arith, il, one, ai), omega (arith, jl, other, bj))

  -- what joins the pairs joins values that have keys of one hash
  pub values_joined : (label : ℕ → ℕ) → JoinsPairs pairs label → JoinsByKeys has_hash list label
  values_joined label joins i j x y h at at' hx hy =
      let (e, eh, ep, ce) = noted.each i x h (slice_get_within list i x at) at hx in
      let (f, fh, fp, cf) = noted.each j y h (slice_get_within list j y at') at' hy in
      let first : e.place ≡ i = (let p = ep in omega (arith, p)) in
      let second : f.place ≡ j = (let p = fp in omega (arith, p)) in
      ap label (sym first)
      ∙ paired.joined label joins (get_or parts (h % length parts) []) (part_with parts (h % length parts) e ce) e f ce cf (eh ∙ sym fh)
      ∙ ap label second

  -- and the other way round
  pub pairs_joined : (label : ℕ → ℕ) → JoinsByKeys has_hash list label → JoinsPairs pairs label
  pairs_joined label joins p cp =
      let (part, cpart, (a, b, ca, cb, same, one, other)) = paired.own p cp in
      let (i, x, at, hx, ai) = place_of part a cpart ca in
      let (j, y, at', hy, bj) = place_of part b cpart cb in
      ap label (sym one ∙ ai) ∙ joins i j x y a.hash at at' hx (subst (λ h. has_hash y h) (sym same) hy) ∙ ap label (sym bj ∙ other)
