-- Links between the places of a list, and the labellings that follow them.
use Rattle.std.proofs.Common.{◌≡◌, ◌<◌, ◌≤◌, ◌+◌, ℕ, List, [], ◌∷◌, ◌++◌, length, get_or, set, sym, ◌∙◌, ap, subst, inl, inr, arith}
use Rattle.std.specs.Prelude.{◌↔◌}
use Rattle.std.proofs.lemmas.Bool.{cases_eq, cases_lt}
use Rattle.std.proofs.lemmas.List.{length-set, get_or-set_same, get_or-set_other, get_or_append_left, get_or_push, get_or_default, get_or_past}
use Rattle.key_groups.specs.Groups.{AreLinks, Follows}

-- links stay links where one is set to an earlier place
pub AreLinks-set : (links : List ℕ) (i a : ℕ) → a ≤ i → AreLinks links → AreLinks (set links i a)
AreLinks-set links i a ai are j jl =
    let within : j < length links = subst (λ n. j < n) (length-set links i a) jl in
    elim (cases_eq j i) [
      | inl same ↦ (
          let here : get_or (set links i a) i 0 ≡ a = get_or-set_same links i a 0 (subst (λ k. k < length links) same within) in
          subst (λ k. get_or (set links i a) k 0 ≤ k) (sym same) (subst (λ b. b ≤ i) (sym here) ai))
      | inr other ↦ subst (λ b. b ≤ j) (sym (get_or-set_other links i j a 0 other)) (are j within)
    ]

-- the same labellings follow where a place is linked to what it was linked to by way of another
pub Follows-further : (links : List ℕ) (i : ℕ) (label : ℕ → ℕ) → i < length links → get_or links i 0 < length links → Follows (set links i (get_or links (get_or links i 0) 0)) label ↔ Follows links label
Follows-further links i label il nl =
    let next = get_or links i 0 in
    let last = get_or links next 0 in
    let new = set links i last in
    let size : length new ≡ length links = length-set links i last in
    let here : get_or new i 0 ≡ last = get_or-set_same links i last 0 il in
    let far : Follows new label → label next ≡ label i = λ follows.
    elim (cases_eq next i) [
      | inl same ↦ ap label same
      | inr other ↦
          sym (follows next (subst (λ n. next < n) (sym size) nl)) ∙ ap label (get_or-set_other links i next last 0 other) ∙ ap label (sym here)
          ∙ follows i (subst (λ n. i < n) (sym size) il)
    ] in (
      (λ follows j jl. elim (cases_eq j i) [
        | inl same ↦ subst (λ k. label (get_or links k 0) ≡ label k) (sym same) (far follows)
        | inr other ↦ ap label (sym (get_or-set_other links i j last 0 other)) ∙ follows j (subst (λ n. j < n) (sym size) jl)
      ]),
      (λ follows j jl. elim (cases_eq j i) [
        | inl same ↦ subst (λ k. label (get_or new k 0) ≡ label k) (sym same) (ap label here ∙ follows next nl ∙ follows i il)
        | inr other ↦ ap label (get_or-set_other links i j last 0 other) ∙ follows j (subst (λ n. j < n) size jl)
      ]),
    )

-- where a place that was linked to itself is linked to another, just those follow that give the two one label
Follows-set : (links : List ℕ) (i a : ℕ) (label : ℕ → ℕ) → i < length links → get_or links i 0 ≡ i → Follows (set links i a) label ↔ (Follows links label × (label a ≡ label i))
Follows-set links i a label il end =
    let new = set links i a in
    let size : length new ≡ length links = length-set links i a in
    let here : get_or new i 0 ≡ a = get_or-set_same links i a 0 il in (
      (λ follows. (
        (λ j jl. elim (cases_eq j i) [
          | inl same ↦ ap label (subst (λ k. get_or links k 0 ≡ k) (sym same) end)
          | inr other ↦ ap label (sym (get_or-set_other links i j a 0 other)) ∙ follows j (subst (λ n. j < n) (sym size) jl)
        ]),
        ap label (sym here) ∙ follows i (subst (λ n. i < n) (sym size) il),
      )),
      (λ both j jl. elim (cases_eq j i) [
        | inl same ↦ subst (λ k. label (get_or new k 0) ≡ label k) (sym same) (ap label here ∙ both.1)
        | inr other ↦ ap label (get_or-set_other links i j a 0 other) ∙ both.0 j (subst (λ n. j < n) size jl)
      ]),
    )

-- so just those follow that give one label to two places, where each has the label of an end
pub Follows-linked : (before links : List ℕ) (one other i a : ℕ) → i < length links → get_or links i 0 ≡ i → ((label : ℕ → ℕ) → Follows links label ↔ Follows before label) → ((label : ℕ → ℕ) → Follows links label → label a ≡ label one) → ((label : ℕ → ℕ) → Follows links label → label i ≡ label other) → (label : ℕ → ℕ) → Follows (set links i a) label ↔ (Follows before label × (label one ≡ label other))
Follows-linked before links one other i a il end kept first second label =
    let joins = Follows-set links i a label il end in (
      (λ follows.
          let both = joins.0 follows in
          ((kept label).0 both.0, sym (first label both.0) ∙ both.1 ∙ second label both.0)),
      (λ both.
          let follows = (kept label).1 both.0 in
          joins.1 (follows, first label follows ∙ both.1 ∙ sym (second label follows))),
    )

-- the label of what a place is linked to, where that may be the place itself, which has no label yet
pub record IsLabel (links labels : List ℕ) (n label : ℕ) : Type 0 where
  pub sized : length labels ≡ n
  pub earlier : get_or links n 0 ≤ n
  pub is : label ≡ get_or labels (get_or links n 0) n

-- labels that follow the links so far follow one link more
pub labels_more : (links labels : List ℕ) (n label : ℕ) → IsLabel links labels n label → ((i : ℕ) → i < n → get_or links i 0 ≤ i) → ((i : ℕ) → i < n → get_or labels (get_or links i 0) 0 ≡ get_or labels i 0) → (i : ℕ) → i < n + 1 → get_or (labels ++ label ∷ []) (get_or links i 0) 0 ≡ get_or (labels ++ label ∷ []) i 0
labels_more links labels n label next earlier so i il =
    let size = next.sized in
    let here_earlier = next.earlier in
    let here : get_or (labels ++ label ∷ []) n 0 ≡ label = get_or_push labels label 0 n size in
    elim (cases_lt i n) [
      | inl before ↦ (
          let up = earlier i before in
          get_or_append_left labels (label ∷ []) 0 (get_or links i 0) (omega (arith, up, before, size)) ∙ so i before
          ∙ sym (get_or_append_left labels (label ∷ []) 0 i (omega (arith, before, size))))
      | inr after ↦ (
          let same : i ≡ n = omega (arith, il, after) in
          subst (λ j. get_or (labels ++ label ∷ []) (get_or links j 0) 0 ≡ get_or (labels ++ label ∷ []) j 0) (sym same)
          (elim (cases_lt (get_or links n 0) n) [
            | inl less ↦
                get_or_append_left labels (label ∷ []) 0 (get_or links n 0) (omega (arith, less, size)) ∙ get_or_default labels (get_or links n 0) 0 n (omega (arith, less, size))
                ∙ sym next.is ∙ sym here
            | inr more ↦ (let last : get_or links n 0 ≡ n = omega (arith, more, here_earlier) in ap (λ j. get_or (labels ++ label ∷ []) j 0) last)
          ]))
    ]

-- and stand at their places or at earlier ones
pub labels_earlier : (links labels : List ℕ) (n label : ℕ) → IsLabel links labels n label → ((i : ℕ) → i < n → get_or labels i 0 ≤ i) → (i : ℕ) → i < n + 1 → get_or (labels ++ label ∷ []) i 0 ≤ i
labels_earlier links labels n label next so i il =
    let size = next.sized in
    elim (cases_lt i n) [
      | inl before ↦ subst (λ b. b ≤ i) (sym (get_or_append_left labels (label ∷ []) 0 i (omega (arith, before, size)))) (so i before)
      | inr after ↦ (
          let same : i ≡ n = omega (arith, il, after) in
          let least : label ≤ n = elim (cases_lt (get_or links n 0) n) [
            | inl less ↦ (
                let up = so (get_or links n 0) less in
                let is : label ≡ get_or labels (get_or links n 0) 0 = next.is ∙ get_or_default labels (get_or links n 0) n 0 (omega (arith, less, size)) in
                omega (arith, up, is, less))
            | inr more ↦ (
                let is : label ≡ n = next.is ∙ get_or_past labels (get_or links n 0) n (omega (arith, more, size)) in
                omega (arith, is))
          ] in
          subst (λ j. get_or (labels ++ label ∷ []) j 0 ≤ j) (sym same) (subst (λ b. b ≤ n) (sym (get_or_push labels label 0 n size)) least))
    ]

-- what follows the links gives a place the label of what its label names
pub labels_own : (links labels : List ℕ) (n last : ℕ) (label : ℕ → ℕ) → IsLabel links labels n last → n < length links → Follows links label → ((i : ℕ) → i < n → label (get_or labels i 0) ≡ label i) → (i : ℕ) → i < n + 1 → label (get_or (labels ++ last ∷ []) i 0) ≡ label i
labels_own links labels n last label next nl follows so i il =
    let size = next.sized in
    let earlier = next.earlier in
    let link = get_or links n 0 in
    elim (cases_lt i n) [
      | inl before ↦ ap label (get_or_append_left labels (last ∷ []) 0 i (omega (arith, before, size))) ∙ so i before
      | inr after ↦ (
          let same : i ≡ n = omega (arith, il, after) in
          let whole : label last ≡ label n = elim (cases_lt link n) [
            | inl less ↦
                ap label (next.is ∙ get_or_default labels link n 0 (omega (arith, less, size))) ∙ so link less ∙ follows n nl
            | inr more ↦ ap label (next.is ∙ get_or_past labels link n (omega (arith, more, size)))
          ] in
          subst (λ j. label (get_or (labels ++ last ∷ []) j 0) ≡ label j) (sym same) (ap label (get_or_push labels last 0 n size) ∙ whole))
    ]
