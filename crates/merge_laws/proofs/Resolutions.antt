-- The facts on domination and on resolutions, from the laws of matching and merging alone.
use Rattle.std.proofs.Common.{◌≡◌, ℕ, ◌<◌, ◌≢◌, Bool, IsTrue, List, [], ◌∷◌, ◌++◌, length, get_or, sym, ◌∙◌, ap, subst, inl, inr, arith}
use Rattle.std.specs.Prelude.{Contains, AllPairs}
use Rattle.std.specs.List.Sorted.{IsPermutation}
use Rattle.std.proofs.lemmas.List.{get_or_default}
use Rattle.std.proofs.lemmas.List.Elements.{Contains-append_left, Contains-append_right, Contains-append_cases}
use Rattle.std.proofs.lemmas.List.Sorted.{IsPermutation-sym, Contains-permutation}
use Rattle.merge_laws.specs.Resolution.{JoinLaws, MatchLaws, Derives, member, merged, IsDominated, IsCovered, IsResolution, DoNotMatch, AreApart, IsDominatedOnce}
use Rattle.merge_laws.proofs.Places.{place-from_related, same-from_related, AllPairs-permutation, IsPermutation-from_members}

module _ {A : Type 0} {match : A → A → Bool} {merge : A → A → A} (join : JoinLaws merge) (laws : MatchLaws match merge) where
  -- domination is an order
  pub IsDominated-refl : (x : A) → IsDominated match merge x x
  IsDominated-refl x = record { matches = laws.reflexive x; absorbed = join.idempotent x }

  pub IsDominated-antisym : (x y : A) → IsDominated match merge x y → IsDominated match merge y x → x ≡ y
  IsDominated-antisym x y p q = sym q.absorbed ∙ join.commutative y x ∙ p.absorbed

  pub IsDominated-trans : (x y z : A) → IsDominated match merge x y → IsDominated match merge y z → IsDominated match merge x z
  IsDominated-trans x y z p q = record {
    matches = let m : IsTrue (match x (merge y z)) = laws.representative x y z p.matches in rw q.absorbed at m;
    absorbed = ap (merge x) (sym q.absorbed) ∙ sym (join.associative x y z) ∙ ap (λ w. merge w z) p.absorbed ∙ q.absorbed;
  }

  -- a merge dominates its sides
  pub IsDominated-left : (x y : A) → IsDominated match merge x (merge x y)
  IsDominated-left x y = record {
    matches = laws.representative x x y (laws.reflexive x);
    absorbed = sym (join.associative x x y) ∙ ap (λ w. merge w y) (join.idempotent x);
  }

  pub IsDominated-right : (x y : A) → IsDominated match merge y (merge x y)
  IsDominated-right x y = subst (IsDominated match merge y) (join.commutative y x) (IsDominated-left y x)

  -- what dominates both sides dominates the merge
  pub IsDominated-merge : (x y z : A) → IsDominated match merge x z → IsDominated match merge y z → IsDominated match merge (merge x y) z
  IsDominated-merge x y z p q = record {
    matches = laws.symmetric z (merge x y) (laws.representative z x y (laws.symmetric x z p.matches));
    absorbed = join.associative x y z ∙ ap (merge x) q.absorbed ∙ p.absorbed;
  }

  -- what dominates the one matches what dominates the other, where the two match
  pub matches-above : (x y s t : A) → IsTrue (match x y) → IsDominated match merge x s → IsDominated match merge y t → IsTrue (match s t)
  matches-above x y s t m p q =
      let first : IsTrue (match x (merge y t)) = laws.representative x y t m in
      let second : IsTrue (match t x) = laws.symmetric x t (rw q.absorbed at first) in
      let third : IsTrue (match t (merge x s)) = laws.representative t x s second in
      laws.symmetric t s (rw p.absorbed at third)

  -- what derives from a list derives from each list from which its members derive
  pub Derives-through : (I J : List A) → ((x : A) → Contains I x → Derives match merge J x) → (r : A) → Derives match merge I r → Derives match merge J r
  Derives-through I J all r (member c) = all r c
  Derives-through I J all _ (merged {a = a} {b = b} p q m) = merged (Derives-through I J all a p) (Derives-through I J all b q) m

  -- what dominates all members of a list dominates all that derives from it
  pub IsDominated-derived : (I : List A) (s : A) → ((x : A) → Contains I x → IsDominated match merge x s) → (r : A) → Derives match merge I r → IsDominated match merge r s
  IsDominated-derived I s all r (member c) = all r c
  IsDominated-derived I s all _ (merged {a = a} {b = b} p q m) = IsDominated-merge a b s (IsDominated-derived I s all a p) (IsDominated-derived I s all b q)

  -- where members that match are one, what derives is covered as soon as the members of the list are
  pub IsCovered-derived : (I E : List A) → ((x : A) → Contains I x → IsCovered match merge E x) → AreApart match E → (r : A) → Derives match merge I r → IsCovered match merge E r
  IsCovered-derived I E covers apart r (member c) = covers r c
  IsCovered-derived I E covers apart _ (merged {a = a} {b = b} p q m) =
      let (s, cs, ds) = IsCovered-derived I E covers apart a p in
      let (t, ct, dt) = IsCovered-derived I E covers apart b q in
      let one : s ≡ t = same-from_related (λ x y. IsTrue (match x y)) E apart s t cs ct (matches-above a b s t m ds dt) in
      (t, ct, IsDominated-merge a b t (subst (IsDominated match merge a) one ds) dt)

  -- the criterion by which each resolution is shown: its members derive from the list, cover the list's members, and
  -- do not match one another
  pub IsResolution-from_apart : (I E : List A) → ((e : A) → Contains E e → Derives match merge I e) → ((x : A) → Contains I x → IsCovered match merge E x) → AreApart match E → IsResolution match merge I E
  IsResolution-from_apart I E derives covers apart = record {
    derived = derives;
    covered = IsCovered-derived I E covers apart;
    minimal = λ i j d ij jl. (λ p. (apart i j d ij jl).0 p.matches, λ p. (apart i j d ij jl).1 p.matches);
  }

  -- members of a resolution that match stand at one place
  pub place-from_match : (I E : List A) → IsResolution match merge I E → (x y : A) (i j : ℕ) → i < length E → j < length E → get_or E i x ≡ x → get_or E j y ≡ y → IsTrue (match x y) → i ≡ j
  place-from_match I E r x y i j il jl ex ey m =
      let (s, (k, kl, es), above) = r.covered (merge x y) (merged (r.derived x (i, il, ex)) (r.derived y (j, jl, ey)) m) in
      let left = IsDominated-trans x (merge x y) s (IsDominated-left x y) above in
      let right = IsDominated-trans y (merge x y) s (IsDominated-right x y) above in
      let first : i ≡ k = place-from_related (IsDominated match merge) E r.minimal i k x s il kl ex es left in
      let second : j ≡ k = place-from_related (IsDominated match merge) E r.minimal j k y s jl kl ey es right in
      first ∙ sym second

  -- members of a resolution at different places do not match
  pub apart-from_resolution : (I E : List A) → IsResolution match merge I E → AreApart match E
  apart-from_resolution I E r i j d ij jl =
      let x = get_or E i d in
      let y = get_or E j d in
      let here : get_or E i x ≡ x = get_or_default E i x d (omega arith) in
      let there : get_or E j y ≡ y = get_or_default E j y d jl in
      let never : IsTrue (match x y) → ⊥ = λ m. let one : i ≡ j = place-from_match I E r x y i j (omega arith) jl here there m in omega arith in
      (never, λ m. never (laws.symmetric y x m))

  -- each member of the list is dominated by the member at one place of its resolution, and at no other
  pub once-from_resolution : (I E : List A) → IsResolution match merge I E → (x : A) → Contains I x → IsDominatedOnce match merge E x
  once-from_resolution I E r x c =
      let (s, (k, kl, es), above) = r.covered x (member c) in
      record {
        by = s;
        place = k;
        below = kl;
        value = es;
        dominates = above;
        only = λ j y jl ey also. place-from_match I E r y s j k jl kl ey es (matches-above x x y s (laws.reflexive x) also above);
      }

  -- a member of a resolution that dominates what derives from the list is the one that does
  pub same-from_dominating : (I E : List A) → IsResolution match merge I E → (r x y : A) → Contains E x → Contains E y → IsDominated match merge r x → IsDominated match merge r y → x ≡ y
  same-from_dominating I E res r x y cx cy p q =
      same-from_related (λ x y. IsTrue (match x y)) E (apart-from_resolution I E res) x y cx cy (matches-above r r x y (laws.reflexive r) p q)

  -- two resolutions of a list have the same members
  member-from_resolutions : (I E F : List A) → IsResolution match merge I E → IsResolution match merge I F → (e : A) → Contains E e → Contains F e
  member-from_resolutions I E F p q e c =
      let (f, cf, up) = q.covered e (p.derived e c) in
      let (g, cg, back) = p.covered f (q.derived f cf) in
      let same : e ≡ g = same-from_related (IsDominated match merge) E p.minimal e g c cg (IsDominated-trans e f g up back) in
      let one : e ≡ f = IsDominated-antisym e f up (subst (IsDominated match merge f) (sym same) back) in
      subst (Contains F) (sym one) cf

  -- no member of a resolution stands in it twice
  pub once-in_resolution : (I E : List A) → IsResolution match merge I E → AllPairs (λ x y. x ≢ y) E
  once-in_resolution I E r i j d ij jl same =
      let x = get_or E i d in
      (r.minimal i j d ij jl).0 (subst (IsDominated match merge x) same (IsDominated-refl x))

  -- a list has one resolution, up to the order of the members
  pub IsPermutation-from_resolutions : (I E F : List A) → IsResolution match merge I E → IsResolution match merge I F → IsPermutation E F
  IsPermutation-from_resolutions I E F p q =
      IsPermutation-from_members E F (once-in_resolution I E p) (once-in_resolution I F q) (member-from_resolutions I E F p q) (member-from_resolutions I F E q p)

  -- a resolution in another order is a resolution
  pub IsResolution-permutation : (I E F : List A) → IsPermutation E F → IsResolution match merge I E → IsResolution match merge I F
  IsResolution-permutation I E F p r =
      let back = IsPermutation-sym E F p in
      IsResolution-from_apart I F
      (λ e c. r.derived e (Contains-permutation F E e back c))
      (λ x c. let (s, cs, ds) = r.covered x (member c) in (s, Contains-permutation E F s p cs, ds))
      (AllPairs-permutation (DoNotMatch match) (λ x y h. (h.1, h.0)) E F p (apart-from_resolution I E r))

  -- what resolves values that derive from a list, and that cover its members, resolves the list
  pub IsResolution-through : (I J E : List A) → ((y : A) → Contains J y → Derives match merge I y) → ((x : A) → Contains I x → IsCovered match merge J x) → IsResolution match merge J E → IsResolution match merge I E
  IsResolution-through I J E derives covers r =
      IsResolution-from_apart I E
      (λ e c. Derives-through J I derives e (r.derived e c))
      (λ x c.
      let (y, cy, dy) = covers x c in
      let (e, ce, de) = r.covered y (member cy) in
      (e, ce, IsDominated-trans x y e dy de))
      (apart-from_resolution J E r)

  -- what resolves two resolutions together resolves the two lists together
  pub IsResolution-append : (I J E F X : List A) → IsResolution match merge I E → IsResolution match merge J F → IsResolution match merge (E ++ F) X → IsResolution match merge (I ++ J) X
  IsResolution-append I J E F X p q r =
      IsResolution-through (I ++ J) (E ++ F) X
      (λ y c. elim (Contains-append_cases E F y c) [
        | inl ce ↦ Derives-through I (I ++ J) (λ x cx. member (Contains-append_left I J x cx)) y (p.derived y ce)
        | inr cf ↦ Derives-through J (I ++ J) (λ x cx. member (Contains-append_right I J x cx)) y (q.derived y cf)
      ])
      (λ x c. elim (Contains-append_cases I J x c) [
        | inl ci ↦ (let (s, cs, ds) = p.covered x (member ci) in (s, Contains-append_left E F s cs, ds))
        | inr cj ↦ (let (s, cs, ds) = q.covered x (member cj) in (s, Contains-append_right E F s cs, ds))
      ])
      r

  -- a list of one value is its resolution
  pub IsResolution-one : (v : A) → IsResolution match merge (v ∷ []) (v ∷ [])
  IsResolution-one v =
      IsResolution-from_apart (v ∷ []) (v ∷ []) (λ e c. member c) (λ x c. (x, c, IsDominated-refl x)) (λ i j d ij jl. absurd (omega arith))

  -- what resolves a resolution and one more value resolves the list and that value
  pub IsResolution-push : (I E X : List A) (v : A) → IsResolution match merge I E → IsResolution match merge (E ++ v ∷ []) X → IsResolution match merge (I ++ v ∷ []) X
  IsResolution-push I E X v p r = IsResolution-append I (v ∷ []) E (v ∷ []) X p (IsResolution-one v) r

  -- a member of the list that matches a member of its resolution is dominated by it
  pub dominated-from_match : (I X : List A) → IsResolution match merge I X → (w x : A) → Contains I w → Contains X x → IsTrue (match w x) → IsDominated match merge w x
  dominated-from_match I X r w x cw cx m =
      let (s, cs, ds) = r.covered w (member cw) in
      let one : s ≡ x = same-from_related (λ x y. IsTrue (match x y)) X (apart-from_resolution I X r) s x cs cx (matches-above w x s x m ds (IsDominated-refl x)) in
      subst (IsDominated match merge w) one ds
