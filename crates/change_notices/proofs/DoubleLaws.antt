-- The opened editions that share a contributor with another.
use Rattle.std.proofs.Common.{◌≡◌, ℕ, ◌+◌, ◌<◌, Bool, true, false, cond, ◌||◌, List, [], ◌∷◌, ◌++◌, length, take, get_or, Contains, refl, sym, ap, subst, ◌∙◌, inl, inr, arith, append_assoc}
use Rattle.std.specs.Prelude.{Option, Some, slice_get}
use Rattle.std.specs.List.{list_any}
use Rattle.std.specs.BTreeMap.{is_at}
use Rattle.std.specs.declared.cmp.Ordering.{Ordering}
use Rattle.std.specs.declared.cmp.Ordering.TheVariants.{Less, Equal, Greater}
use Rattle.std.specs.Ordering.{is_eq, ordering_reverse, eq_by_cmp}
use Rattle.std.proofs.Math.Decide.{dec_lt}
use Rattle.std.proofs.lemmas.List.{take_more}
use Rattle.std.proofs.lemmas.List.Elements.{Contains-append_left, Contains-append_right, Contains-append_cases}
use Rattle.std.proofs.lemmas.List.Folds.{Any-from_list_any, list_any-from_Any, list_any-append}
use Rattle.std.proofs.lemmas.Option.{get_or_from_slice_get, slice_get_within}
use Rattle.union_base.specs.IdLaws.{ids_apart}
use Rattle.union_base.specs.SortedLists.{has}
use Rattle.union_base.specs.declared.record_id.RecordId.{RecordId}
use Rattle.match_features.proofs.MemberLaws.{member-from_has, has-from_member}
use Rattle.union_base.specs.RecordIds.{id_cmp}
use Rattle.field_merge.specs.KeptLaws.{id_total}
use Rattle.catalogue_editions.specs.declared.edition.Edition.{Edition}
use Rattle.edition_blocks.specs.Deltas.{AreOnlyIn}
use Rattle.change_notices.specs.Followers.{IsDouble, IsFirst, IsNowhere}

-- the edition has the contributor
abbrev pub bears : RecordId → Edition → Bool
bears q e = has id_cmp e.content.contributors q

-- what was seen: the contributors of the editions
abbrev pub Sees : (RecordId → Bool) → List Edition → Type 0
Sees seen editions = (q : RecordId) → seen q ≡ list_any (bears q) editions

or-false : (b : Bool) → (b || false) ≡ b
or-false true = refl
or-false false = refl

pub sees-more : (seen seen' : RecordId → Bool) (editions : List Edition) (e : Edition) → Sees seen editions → ((q : RecordId) → seen' q ≡ (seen q || bears q e))
    → Sees seen' (editions ++ e ∷ [])
sees-more seen seen' editions e so_far more q =
    more q ∙ ap (λ b. b || bears q e) (so_far q) ∙ ap (λ b. list_any (bears q) editions || b) (sym (or-false (bears q e))) ∙ sym (list_any-append (bears q) editions (e ∷ []))

pub taken-more : (xs : List Edition) (i : ℕ) (e : Edition) → i < length xs → e ≡ get_or xs i e → take (i + 1) xs ≡ take i xs ++ e ∷ []
taken-more xs i e il is = take_more xs i e il ∙ ap (λ (x : Edition). take i xs ++ x ∷ []) (sym is)

either-way : (b first h : Bool) → cond b true (first || h) ≡ (first || (h || (b || false)))
either-way true true h = refl
either-way true false true = refl
either-way true false false = refl
either-way false true h = refl
either-way false false true = refl
either-way false false false = refl

eq-reverse : (r : Ordering) → is_eq (ordering_reverse r) ≡ is_eq r
eq-reverse Less = refl
eq-reverse Equal = refl
eq-reverse Greater = refl

-- with one contributor more
pub added-more : (now old first : Bool) (ids : List RecordId) (i : ℕ) (id key q : RecordId) → now ≡ cond (is_at (id_cmp key) q) true old → key ≡ id
    → old ≡ (first || has id_cmp (take i ids) q) → i < length ids → id ≡ get_or ids i id → now ≡ (first || has id_cmp (take (i + 1) ids) q)
added-more now old first ids i id key q is same so_far il at =
    let test : is_at (id_cmp key) q ≡ eq_by_cmp id_cmp q id =
    ap (λ k. is_eq (id_cmp k q)) same ∙ ap is_eq (id_total.antisymm id q) ∙ eq-reverse (id_cmp q id) in
    is ∙ ap (λ b. cond b true old) test ∙ ap (λ b. cond (eq_by_cmp id_cmp q id) true b) so_far ∙ either-way (eq_by_cmp id_cmp q id) first (has id_cmp (take i ids) q)
    ∙ ap (λ b. first || b) (sym (list_any-append (eq_by_cmp id_cmp q) (take i ids) (id ∷ [])))
    ∙ ap (λ (xs : List RecordId). first || has id_cmp xs q) (ap (λ (x : RecordId). take i ids ++ x ∷ []) at ∙ sym (take_more ids i id il))

-- the opened editions so far are not double
pub record Looked (seen : RecordId → Bool) (staying opened : List Edition) (done : ℕ) : Type 0 where
  pub sees : Sees seen (staying ++ take done opened)
  pub none : (held closed : List Edition) → AreOnlyIn held closed staying → (k : ℕ) → k < done → IsDouble held closed opened k → ⊥

pub looked-none : (seen : RecordId → Bool) (staying opened : List Edition) → Sees seen (staying ++ take 0 opened) → Looked seen staying opened 0
looked-none seen staying opened sees = record { sees = sees; none = λ held closed only k kl double. omega arith }

module _ (seen : RecordId → Bool) (staying opened : List Edition) (done : ℕ) (so_far : Looked seen staying opened done) (e : Edition) (here : slice_get opened done ≡ Some e) where
  -- one of its contributors was seen: it is the first that is double
  pub looked-stop : list_any seen e.content.contributors ≡ true → (held closed : List Edition) → AreOnlyIn held closed staying → IsFirst (IsDouble held closed opened) done
  looked-stop hit held closed only =
      let id = Any-from_list_any seen e.content.contributors hit in
      let x = Any-from_list_any (bears id.1) (staying ++ take done opened) (sym (so_far.sees id.1) ∙ id.4) in
      record {
        here = record {
          edition = e;
          stands = here;
          other = x.1;
          beside = elim (Contains-append_cases staying (take done opened) x.1 (x.0, x.2, x.3)) [ inl stays ↦ inl ((only.members x.1).0 stays) | inr earlier ↦ inr earlier ];
          shares = (id.1, member-from_has id_total ids_apart x.1.content.contributors id.1 x.4, (id.0, id.2, id.3));
        };
        before = so_far.none held closed only;
      }

  -- none was: it is not double
  pub looked-more : (seen' : RecordId → Bool) → list_any seen e.content.contributors ≡ false → ((q : RecordId) → seen' q ≡ (seen q || bears q e))
      → Looked seen' staying opened (done + 1)
  looked-more seen' miss more =
      let within : done < length opened = slice_get_within opened done e here in
      let next : take (done + 1) opened ≡ take done opened ++ e ∷ [] = taken-more opened done e within (sym (get_or_from_slice_get opened done e e here)) in
      record {
        sees = λ q.
            sees-more seen seen' (staying ++ take done opened) e so_far.sees more q
            ∙ ap (list_any (bears q)) (append_assoc staying (take done opened) (e ∷ []) ∙ ap (λ xs. staying ++ xs) (sym next));
        none = λ held closed only k kl double. elim (dec_lt k done) [
          | yes h ↦ so_far.none held closed only k h double
          | no h ↦ clash held closed only k (omega arith) double
        ];
      }
    where
      clash : (held closed : List Edition) → AreOnlyIn held closed staying → (k : ℕ) → k ≡ done → IsDouble held closed opened k → ⊥
      clash held closed only k last double =
          let same : ◌≡◌ {A = Option Edition} (Some double.edition) (Some e) = sym double.stands ∙ ap (slice_get opened) last ∙ here in
          let one : double.edition ≡ e = cc in
          let x = double.other in
          let there : Contains (staying ++ take done opened) x = elim double.beside [
            | inl stays ↦ Contains-append_left staying (take done opened) x ((only.members x).1 stays)
            | inr earlier ↦ Contains-append_right staying (take done opened) x (subst (λ n. Contains (take n opened) x) last earlier)
          ] in
          let (id, ours, theirs) = double.shares in
          let bears-it : bears id x ≡ true = has-from_member id_total ids_apart x.content.contributors id ours in
          let known : seen id ≡ true = so_far.sees id ∙ list_any-from_Any (bears id) (staying ++ take done opened) (there.0, x, there.1, there.2, bears-it) in
          let own : Contains e.content.contributors id = subst (λ (y : Edition). Contains y.content.contributors id) one theirs in
          let hit : list_any seen e.content.contributors ≡ true = list_any-from_Any seen e.content.contributors (own.0, id, own.1, own.2, known) in
          let bad : true ≡ false = sym hit ∙ miss in cc

pub looked-all : (seen : RecordId → Bool) (staying opened : List Edition) → Looked seen staying opened (length opened)
    → (held closed : List Edition) → AreOnlyIn held closed staying → IsNowhere (IsDouble held closed opened)
looked-all seen staying opened all held closed only k double = all.none held closed only k (slice_get_within opened k double.edition double.stands) double
