-- Notes of hashes in parts.
use Rattle.std.proofs.Common.{◌≡◌, ◌<◌, ◌+◌, ◌-◌, ◌%◌, ℕ, zero, suc, List, [], ◌∷◌, ◌++◌, length, get_or, set, replicate, refl, sym, ◌∙◌, ap, ap₂, subst, inl, inr, arith, append-nil, length-append}
use Rattle.std.specs.Prelude.{◌↔◌, Some, slice_get, Contains}
use Rattle.std.proofs.lemmas.Bool.{cases_eq, cases_lt}
use Rattle.std.proofs.lemmas.List.{length-set, length-replicate, get_or-replicate, get_or_past, get_or-set_same, get_or-set_other, get_or_append_left, get_or_push, length_push}
use Rattle.std.proofs.lemmas.List.Elements.{Contains-append_left, Contains-append_right, Contains-append_cases, Contains-push, Contains-push_cases}
use Rattle.std.proofs.lemmas.Option.{same_Some, slice_get_within}
use Rattle.key_groups.specs.declared.notes.Noted.{Noted}
use Rattle.key_groups.specs.Notes.{HashIsAmong, GetNotes, AreNoted, AreAdded}

-- what stands in the first of two lists, and what stands in the second
slice_get_left : {A : Type 0} (front back : List A) (i : ℕ) → i < length front → slice_get (front ++ back) i ≡ slice_get front i
slice_get_left [] back i within = absurd (omega (arith, within))
slice_get_left (x ∷ front) back zero within = refl
slice_get_left (x ∷ front) back (suc i) within = slice_get_left front back i (omega (arith, within))

slice_get_right : {A : Type 0} (front back : List A) (i : ℕ) → slice_get (front ++ back) (length front + i) ≡ slice_get back i
slice_get_right {A = A} [] back i = let same : 0 + i ≡ i = omega arith in ap (slice_get back) same
slice_get_right (x ∷ front) back i =
    let same : length (x ∷ front) + i ≡ suc (length front + i) = omega arith in
    ap (slice_get (x ∷ front ++ back)) same ∙ slice_get_right front back i

-- what stands at another place than one that was put last
get_or_push_other : {A : Type 0} (front : List A) (last d : A) (q : ℕ) → (q ≡ length front → ⊥) → get_or (front ++ last ∷ []) q d ≡ get_or front q d
get_or_push_other front last d q other = elim (cases_lt q (length front)) [
  | inl within ↦ get_or_append_left front (last ∷ []) d q within
  | inr past ↦ (
      let long = length_push front last in
      get_or_past (front ++ last ∷ []) q d (omega (arith, past, long, other)) ∙ sym (get_or_past front q d past))
]

-- a note that is put last in the part of its hash
pub get_note : (parts : List (List Noted)) (part : ℕ) (noted : Noted) → part < length parts → noted.hash % length parts ≡ part → GetNotes parts (set parts part (get_or parts part [] ++ noted ∷ [])) (λ h. noted.hash ≡ h) noted.place
get_note parts part noted within is =
    let old = get_or parts part [] in
    let new = set parts part (old ++ noted ∷ []) in
    let here : get_or new part [] ≡ old ++ noted ∷ [] = get_or-set_same parts part (old ++ noted ∷ []) [] within in
    record {
      count = length-set parts part (old ++ noted ∷ []);
      kept = λ q e c. elim (cases_eq q part) [
        | inl same ↦ subst (λ k. Contains (get_or new k []) e) (sym same)
            (subst (λ (l : List Noted). Contains l e) (sym here) (Contains-append_left old (noted ∷ []) e (subst (λ k. Contains (get_or parts k []) e) same c)))
        | inr other ↦ subst (λ (l : List Noted). Contains l e) (sym (get_or-set_other parts part q (old ++ noted ∷ []) [] other)) c
      ];
      there = λ h has. (
        noted,
        has,
        refl,
        subst (λ k. Contains (get_or new k []) noted) (sym (ap (λ n. n % length parts) (sym has) ∙ is)) (subst (λ (l : List Noted). Contains l noted) (sym here) (Contains-push old noted)),
      );
      own = λ q e c. elim (cases_eq q part) [
        | inl same ↦ elim (Contains-push_cases old noted e (subst (λ (l : List Noted). Contains l e) (ap (λ k. get_or new k []) same ∙ here) c)) [
          | inl before ↦ inl (subst (λ k. Contains (get_or parts k []) e) (sym same) before)
          | inr last ↦ inr (ap (λ (n : Noted). n.hash) last, ap (λ (n : Noted). n.place) (sym last))
        ]
        | inr other ↦ inl (subst (λ (l : List Noted). Contains l e) (get_or-set_other parts part q (old ++ noted ∷ []) [] other) c)
      ];
    }

-- no note, of no key
pub get_none : {K : Type 0} (hash : K → ℕ) (parts : List (List Noted)) (place : ℕ) → GetNotes parts parts (HashIsAmong hash []) place
get_none hash parts place = record {
  count = refl;
  kept = λ q e c. c;
  there = λ h has. (let (k, ck, is) = has in let (i, within, same) = ck in absurd (omega (arith, within)));
  own = λ q e c. inl c;
}

-- the notes of one key more
pub get_more : {K : Type 0} (hash : K → ℕ) (parts parts' parts'' : List (List Noted)) (keys : List K) (key : K) (place : ℕ) → GetNotes parts parts' (HashIsAmong hash keys) place → GetNotes parts' parts'' (λ h. hash key ≡ h) place → GetNotes parts parts'' (HashIsAmong hash (keys ++ key ∷ [])) place
get_more hash parts parts' parts'' keys key place so now = record {
  count = now.count ∙ so.count;
  kept = λ q e c. now.kept q e (so.kept q e c);
  there = λ h has. (
      let (k, ck, is) = has in
      elim (Contains-push_cases keys key k ck) [
        | inl before ↦ (let (e, eh, ep, c) = so.there h (k, before, is) in (e, eh, ep, now.kept (h % length parts) e c))
        | inr same ↦ (
            let (e, eh, ep, c) = now.there h (ap hash same ∙ is) in
            (e, eh, ep, subst (λ n. Contains (get_or parts'' (h % n) []) e) so.count c))
      ]);
  own = λ q e c. elim (now.own q e c) [
    | inl between ↦ elim (so.own q e between) [
      | inl old ↦ inl old
      | inr new ↦ (let ((k, ck, is), at) = new in inr ((k, Contains-append_left keys (key ∷ []) k ck, is), at))
    ]
    | inr new ↦ inr ((key, Contains-push keys key, new.0), new.1)
  ];
}

-- empty parts have no note
empty_part : (parts : List (List Noted)) (n q : ℕ) (e : Noted) → parts ≡ replicate n [] → Contains (get_or parts q []) e → ⊥
empty_part parts n q e all c =
    let empty : get_or parts q [] ≡ [] = subst (λ (l : List (List Noted)). get_or l q [] ≡ []) (sym all) (elim (cases_lt q n) [
      | inl within ↦ get_or-replicate n q [] [] within
      | inr past ↦ (let size = length-replicate {A = List Noted} n [] in get_or_past (replicate n []) q [] (omega (arith, past, size)))
    ]) in
    let (i, within, same) = subst (λ (l : List Noted). Contains l e) empty c in absurd (omega (arith, within))

module _ {A : Type 0} {has_hash : A → ℕ → Type 0} where
  pub noted_none : (list : List A) (first : ℕ) (parts : List (List Noted)) (n : ℕ) → parts ≡ replicate n [] → AreNoted has_hash list first 0 parts
  noted_none list first parts n all = record {
    each = λ i x h il. absurd (omega (arith, il));
    own = λ q e c. absurd (empty_part parts n q e all c);
  }

  -- the notes of one value more
  pub noted_more : (list : List A) (first n : ℕ) (v : A) (parts parts' : List (List Noted)) (has : ℕ → Type 0) → slice_get list n ≡ Some v → ((h : ℕ) → has h ↔ has_hash v h) → AreNoted has_hash list first n parts → GetNotes parts parts' has (first + n) → AreNoted has_hash list first (n + 1) parts'
  noted_more list first n v parts parts' has here same so now = record {
    each = λ i x h il at hx. elim (cases_lt i n) [
      | inl before ↦ (
          let (e, eh, ep, c) = so.each i x h before at hx in
          (e, eh, ep, subst (λ m. Contains (get_or parts' (h % m) []) e) (sym now.count) (now.kept (h % length parts) e c)))
      | inr after ↦ (
          let last : i ≡ n = omega (arith, il, after) in
          let value : x ≡ v = same_Some x v (sym at ∙ ap (slice_get list) last ∙ here) in
          let (e, eh, ep, c) = now.there h ((same h).1 (subst (λ y. has_hash y h) value hx)) in
          (e, eh, ep ∙ ap (λ m. first + m) (sym last), subst (λ m. Contains (get_or parts' (h % m) []) e) (sym now.count) c))
    ];
    own = λ q e c. elim (now.own q e c) [
      | inl before ↦ so.own q e before
      | inr new ↦ (n, v, here, (same e.hash).0 new.0, new.1)
    ];
  }

  -- the notes of two lists, one after the other
  pub noted_beside : (front back : List A) (first second : ℕ) (parts more parts' : List (List Noted)) → second ≡ first + length front → length more ≡ length parts → AreNoted has_hash front first (length front) parts → AreNoted has_hash back second (length back) more → AreAdded parts more parts' → AreNoted has_hash (front ++ back) first (length (front ++ back)) parts'
  noted_beside front back first second parts more parts' next alike one other sum = record {
    each = λ i x h il at hx. elim (cases_lt i (length front)) [
      | inl before ↦ (
          let (e, eh, ep, c) = one.each i x h before (sym (slice_get_left front back i before) ∙ at) hx in (
            e,
            eh,
            ep,
            subst (λ m. Contains (get_or parts' (h % m) []) e) (sym sum.count)
                (subst (λ (l : List Noted). Contains l e) (sym (sum.each (h % length parts)))
                (Contains-append_left (get_or parts (h % length parts) []) (get_or more (h % length parts) []) e c)),
          ))
      | inr after ↦ (
          let long = length-append front back in
          let j = i - length front in
          let whole : i ≡ length front + j = omega (arith, after) in
          let (e, eh, ep, c) = other.each j x h (omega (arith, il, long, after)) (sym (slice_get_right front back j) ∙ ap (slice_get (front ++ back)) (sym whole) ∙ at) hx in
          let place : e.place ≡ first + i = omega (arith, ep, next, whole) in
          let c' : Contains (get_or more (h % length parts) []) e = subst (λ m. Contains (get_or more (h % m) []) e) alike c in (
            e,
            eh,
            place,
            subst (λ m. Contains (get_or parts' (h % m) []) e) (sym sum.count)
                (subst (λ (l : List Noted). Contains l e) (sym (sum.each (h % length parts)))
                (Contains-append_right (get_or parts (h % length parts) []) (get_or more (h % length parts) []) e c')),
          ))
    ];
    own = λ q e c. elim (Contains-append_cases (get_or parts q []) (get_or more q []) e (subst (λ (l : List Noted). Contains l e) (sum.each q) c)) [
      | inl d ↦ (
          let (i, x, at, hx, is) = one.own q e d in
          (i, x, slice_get_left front back i (slice_get_within front i x at) ∙ at, hx, is))
      | inr d ↦ (
          let (j, x, at, hx, is) = other.own q e d in
          (length front + j, x, slice_get_right front back j ∙ at, hx, (let p = is in omega (arith, p, next))))
    ];
  }

-- parts to which those of one place more are added
pub added_none : (parts : List (List Noted)) → AreAdded parts [] parts
added_none parts = record {
  count = refl;
  each = λ q. sym (append-nil (get_or parts q []));
}

pub added_more : (parts front parts' : List (List Noted)) (notes : List Noted) (place : ℕ) → place ≡ length front → place < length parts → AreAdded parts front parts' → AreAdded parts (front ++ notes ∷ []) (set parts' place (get_or parts' place [] ++ notes))
added_more parts front parts' notes place is within so =
    let new = get_or parts' place [] ++ notes in
    let size = so.count in
    record {
      count = length-set parts' place new ∙ so.count;
      each = λ q. elim (cases_eq q place) [
        | inl same ↦ (
            let none : get_or front place [] ≡ [] = get_or_past front place [] (omega (arith, is)) in
            let there : get_or parts' place [] ≡ get_or parts place [] = so.each place ∙ ap (λ (l : List Noted). get_or parts place [] ++ l) none ∙ append-nil (get_or parts place []) in
            subst (λ k. get_or (set parts' place new) k [] ≡ get_or parts k [] ++ get_or (front ++ notes ∷ []) k []) (sym same)
            (get_or-set_same parts' place new [] (omega (arith, within, size))
            ∙ ap₂ (λ (a b : List Noted). a ++ b) there (sym (get_or_push front notes [] place (sym is)))))
        | inr other ↦ get_or-set_other parts' place q new [] other ∙ so.each q ∙ ap (λ (l : List Noted). get_or parts q [] ++ l) (sym (get_or_push_other front notes [] q (λ e. other (e ∙ sym is))))
      ];
    }
