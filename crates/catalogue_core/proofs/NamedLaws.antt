-- The editions of a catalogue, as a walk along the homes meets them.
use Rattle.std.proofs.Common.{◌≡◌, ◌≢◌, ℕ, Bool, true, false, cond, IsTrue, List, [], ◌∷◌, length, Contains, AllPairs, refl, sym, ap, subst, ◌∙◌, inl, inr, arith}
use Rattle.std.specs.Prelude.{find, not, is_none, Option, Some, None, is_some}
use Rattle.std.specs.Option.{option_map, option_and_then}
use Rattle.std.specs.List.{list_all, AllByRecursion, cons_option}
use Rattle.std.specs.List.Sorted.{IsPermutation, IsStrictlySortedBy}
use Rattle.std.specs.declared.cmp.Ordering.{Ordering}
use Rattle.std.specs.declared.cmp.Ordering.TheVariants.{Less, Equal, Greater}
use Rattle.std.specs.Ordering.{is_lt, is_eq}
use Rattle.std.specs.Map.{keys_of}
use Rattle.std.proofs.lemmas.List.{length-map}
use Rattle.std.proofs.lemmas.List.Kept.{AllPairs-cons}
use Rattle.std.proofs.lemmas.List.Sorted.{length_permutation, IsPermutation-map}
use Rattle.union_base.specs.Both.{both_true, true_both}
use Rattle.union_base.specs.SortedLists.{is_ascending}
use Rattle.union_base.specs.declared.record_id.RecordId.{RecordId}
use Rattle.union_base.specs.IdLaws.{ids_apart}
use Rattle.merge_laws.proofs.Places.{Contains-head, Contains-tail, Contains-cases, All-from_members, IsPermutation-from_members, AllPairs-none, same-from_related}
use Rattle.merge_laws.proofs.Resolutions.{apart-from_resolution, once-in_resolution, IsResolution-permutation, IsResolution-from_apart}
use Rattle.match_features.proofs.MemberLaws.{member-from_has, has-from_member}
use Rattle.union_base.specs.RecordIds.{id_cmp}
use Rattle.field_merge.specs.KeptLaws.{id_total}
use Rattle.swoosh_resolver.specs.Tables.{block_at, blocks_in, values_of}
use Rattle.swoosh_resolver.proofs.Places.{number-from_block}
use Rattle.work_clusters.proofs.MemberLaws.{works_of-permutation}
use Rattle.work_clusters.specs.Works.{works_of}
use Rattle.record_editions.specs.EditionKeys.{work_key_by, work_pairs}
use Rattle.authority_names.specs.Leads.{Table}
use Rattle.edition_blocks.specs.Grouping.{WorkList, KeptWorks}
use Rattle.turn_plans.specs.Histories.{MapOf, at_id, is_current, bases, current, AreEditionsOf}
use Rattle.turn_plans.specs.Homes.{Block, places_in}
use Rattle.catalogue_editions.specs.Ids.{has_contributor}
use Rattle.catalogue_core.proofs.Naming.{named, named_in}
use Rattle.catalogue_editions.specs.Ids.{least, edition_cmp}
use Rattle.catalogue_editions.specs.JoinLaws.{edition_join_laws}
use Rattle.turn_plans.specs.Keeping.{batches, loaded_at}
use Rattle.catalogue_core.specs.Kept.{IsKept}
use Rattle.catalogue_editions.specs.Matching.{match}
use Rattle.catalogue_editions.specs.MatchLaws.{edition_match_laws}
use Rattle.catalogue_core.specs.Walks.{holder_of}
use Rattle.catalogue_editions.specs.declared.edition.Edition.{Edition}
use Rattle.catalogue_editions.specs.declared.history_entry.HistoryEntry.{HistoryEntry}
use Rattle.record_homes.specs.declared.home.Home.{Home}
use Rattle.catalogue_editions.proofs.Apart.{least-stands, match-from_contributor}
use Rattle.turn_plans.proofs.Housing.{same-some}
use Rattle.edition_blocks.proofs.BlockLaws.{block-stands, value-in, in-value}
use Rattle.catalogue_editions.proofs.MappedLaws.{mapped-from_member, member-from_mapped}
use Rattle.catalogue_core.proofs.InstallLaws.{keys-values}
use Rattle.catalogue_core.proofs.Looking.{holder-current, length-kept}
use Rattle.record_homes.proofs.HomeLaws.{some-mapped}
use Rattle.record_homes.proofs.MapLaws.{same, one-id, same-itself}
use Rattle.turn_plans.proofs.PlanLaws.{base-found}
use Rattle.turn_plans.proofs.TurnLaws.{ordered-current, found-home}

-- the pair of an id
entry-of_id : {X : Type 0} (all : MapOf X) (id : RecordId) (x : X) → at_id all id ≡ Some x → Contains all (id, x)
entry-of_id [] id x at = cc
entry-of_id {X} (p ∷ all) id x at =
    elim (same id p.0) as (λ b. same id p.0 ≡ b → cond b (Some p.1) (at_id all id) ≡ Some x → Contains (p ∷ all) (id, x)) [
      | true ↦ λ is h. (let value : p.1 ≡ x = cc in
          let pair : ◌≡◌ {A = RecordId × X} p (id, x) = λ i. (sym (one-id id p.0 is) i, value i) in
          subst (Contains (p ∷ all)) pair (Contains-head p all))
      | false ↦ λ is h. Contains-tail p all (id, x) (entry-of_id all id x h)
    ] refl at

picked : {B : Type 0} (b : Bool) (y x : B) → ◌≡◌ {A = Option B} (cond b (Some y) None) (Some x) → (b ≡ true) × (y ≡ x)
picked true y x h = (refl, cc)
picked false y x h = cc

bound : {A B : Type 0} (o : Option A) (f : A → Option B) (x : B) → option_and_then f o ≡ Some x → (a : A) × (o ≡ Some a) × (f a ≡ Some x)
bound None f x h = cc
bound (Some a) f x h = (a, refl, h)

-- what is named by a home
named-is : (blocks : List (Option Block)) (id : RecordId) (home : Home) (x : Edition) → named blocks (id, home) ≡ Some x → (e : Block) × (block_at blocks home.block ≡ Some e) × (e.value ≡ x) × (least x ≡ id)
named-is blocks id home x h =
    let (e, at, is) = bound (block_at blocks home.block) (λ (e : Block). cond (same id (least e.value)) (Some e.value) None) x h in
    let (one, value) = picked (same id (least e.value)) e.value x is in
    (e, at, value, ap least (sym value) ∙ sym (one-id id (least e.value) one))

named-by_least : (blocks : List (Option Block)) (home : Home) (e : Block) → block_at blocks home.block ≡ Some e → named blocks (least e.value, home) ≡ Some e.value
named-by_least blocks home e at =
    ap (option_and_then (λ (f : Block). cond (same (least e.value) (least f.value)) (Some f.value) None)) at ∙ ap (λ b. cond b (Some e.value) None) (same-itself (least e.value))

below-named : (blocks : List (Option Block)) (homes : MapOf Home) (id : RecordId) → AllByRecursion (λ k. id_cmp id k ≡ Less) (keys_of homes) → list_all (λ y. is_lt (id_cmp id (least y))) (named_in blocks homes) ≡ true
below-named blocks [] id below = refl
below-named blocks (p ∷ homes) id below =
    let rest = below-named blocks homes id below.1 in
    elim (named blocks p) as (λ o. named blocks p ≡ o → list_all (λ y. is_lt (id_cmp id (least y))) (cons_option o (named_in blocks homes)) ≡ true) [
      | Some x ↦ λ is. (let (e, at, value, one) = named-is blocks p.0 p.1 x is in
          true_both (is_lt (id_cmp id (least x))) (list_all (λ y. is_lt (id_cmp id (least y))) (named_in blocks homes)) (ap (λ k. is_lt (id_cmp id k)) one ∙ ap is_lt below.0) rest)
      | None ↦ λ is. rest
    ] refl

ascending-named : (blocks : List (Option Block)) (homes : MapOf Home) → IsStrictlySortedBy id_cmp (keys_of homes) → is_ascending edition_cmp (named_in blocks homes) ≡ true
unfolding IsStrictlySortedBy
ascending-named blocks [] up = refl
ascending-named blocks (p ∷ homes) up =
    let rest = ascending-named blocks homes up.1 in
    elim (named blocks p) as (λ o. named blocks p ≡ o → is_ascending edition_cmp (cons_option o (named_in blocks homes)) ≡ true) [
      | Some x ↦ λ is. (let (e, at, value, one) = named-is blocks p.0 p.1 x is in
          true_both (list_all (λ y. is_lt (edition_cmp x y)) (named_in blocks homes)) (is_ascending edition_cmp (named_in blocks homes))
          (ap (λ k. list_all (λ y. is_lt (id_cmp k (least y))) (named_in blocks homes)) one ∙ below-named blocks homes p.0 up.0) rest)
      | None ↦ λ is. rest
    ] refl

each-of : {A : Type 0} (p : A → Bool) (xs : List A) → list_all p xs ≡ true → (x : A) → Contains xs x → p x ≡ true
each-of p [] all x (k, kl, e) = absurd (omega arith)
each-of p (y ∷ ys) all x c =
    let parts = both_true (p y) (list_all p ys) all in
    elim (Contains-cases y ys x c) [ inl here ↦ ap p (sym here) ∙ parts.0 | inr later ↦ each-of p ys parts.1 x later ]

not-below_itself : (id : RecordId) → is_lt (id_cmp id id) ≡ true → ⊥
not-below_itself id h = tie (id_cmp id id) (same-itself id) h
  where
    tie : (r : Ordering) → is_eq r ≡ true → is_lt r ≡ true → ⊥
    tie Less e h = cc
    tie Equal e h = cc
    tie Greater e h = cc

once-ascending : (xs : List Edition) → is_ascending edition_cmp xs ≡ true → AllPairs (λ x y. x ≢ y) xs
once-ascending [] up = AllPairs-none (λ (x : Edition) (y : Edition). x ≢ y)
once-ascending (x ∷ xs) up =
    let parts = both_true (list_all (λ y. is_lt (edition_cmp x y)) xs) (is_ascending edition_cmp xs) up in
    AllPairs-cons (λ (x : Edition) (y : Edition). x ≢ y) x xs
    (All-from_members (λ y. x ≢ y) xs (λ y c e. not-below_itself (least y) (ap (λ (z : Edition). is_lt (id_cmp (least z) (least y))) (sym e) ∙ each-of (λ y. is_lt (edition_cmp x y)) xs parts.0 y c)))
    (once-ascending xs parts.1)

module _ (history : List HistoryEntry) (homes : MapOf Home) (blocks : List (Option Block)) (works : KeptWorks) (k : IsKept history homes blocks works) where
  ordered : IsStrictlySortedBy id_cmp (keys_of homes)
  ordered = subst (IsStrictlySortedBy id_cmp)
      (sym (keys-values Some (current history)) ∙ ap keys_of (sym k.current.loads) ∙ keys-values (loaded_at (batches history)) (places_in homes) ∙ keys-values (λ (home : Home). home.place) homes)
      (ordered-current history)

  pub block-named : (n : ℕ) (e : Block) → block_at blocks n ≡ Some e → Contains (named_in blocks homes) e.value
  block-named n e at =
      let (home, found, is) = k.housed.only n e (least e.value) at (has-from_member id_total ids_apart e.value.content.contributors (least e.value) (least-stands e.value)) in
      mapped-from_member (named blocks) homes (least e.value, home) e.value (entry-of_id homes (least e.value) home found) (named-by_least blocks home e (ap (block_at blocks) is ∙ at))

  pub walk-order : IsPermutation (values_of (blocks_in blocks)) (named_in blocks homes)
  walk-order =
      IsPermutation-from_members (values_of (blocks_in blocks)) (named_in blocks homes)
      (once-in_resolution edition_join_laws edition_match_laws (bases history) (values_of (blocks_in blocks)) k.resolved)
      (once-ascending (named_in blocks homes) (ascending-named blocks homes ordered))
      (λ x c. let (e, ce, is) = in-value (blocks_in blocks) x c in
      let (n, at) = number-from_block blocks e ce in
      subst (Contains (named_in blocks homes)) is (block-named n e at))
      (λ x c. let (pair, cp, is) = member-from_mapped (named blocks) homes x c in
      let (e, at, value, one) = named-is blocks pair.0 pair.1 x is in
      subst (Contains (values_of (blocks_in blocks))) value (value-in (blocks_in blocks) e (block-stands blocks pair.1.block e at)))

  -- the editions of the catalogue
  pub named-editions : AreEditionsOf history (named_in blocks homes)
  named-editions = record {
    resolved = IsResolution-permutation edition_join_laws edition_match_laws (bases history) (values_of (blocks_in blocks)) (named_in blocks homes) walk-order k.resolved;
    ascending = ascending-named blocks homes ordered;
  }

  -- the works of the blocks are those of the editions in order
  pub works-in_order : works_of (work_pairs works.names (values_of (blocks_in blocks))) ≡ works_of (work_pairs works.names (named_in blocks homes))
  works-in_order = works_of-permutation (work_pairs works.names (values_of (blocks_in blocks))) (work_pairs works.names (named_in blocks homes))
      (IsPermutation-map (λ (e : Edition). (work_key_by works.names e, least e)) (values_of (blocks_in blocks)) (named_in blocks homes) walk-order)

  pub named-count : length (blocks_in blocks) ≡ length (named_in blocks homes)
  named-count = sym (length-map (blocks_in blocks) (λ (e : Block). e.value)) ∙ sym (length_permutation (values_of (blocks_in blocks)) (named_in blocks homes) walk-order)

  -- the edition of a record
  pub holder-is : (id : RecordId) (home : Home) (e : Block) → at_id homes id ≡ Some home → block_at blocks home.block ≡ Some e → Some e.value ≡ holder_of (named_in blocks homes) id
  holder-is id home e at stands =
      let (f, there, bears) = k.housed.each id home at in
      let is : f ≡ e = same-some (block_at blocks home.block) f e there stands in
      let has' : has_contributor id e.value ≡ true = ap (λ (b : Block). has_contributor id b.value) (sym is) ∙ bears in
      let apart = apart-from_resolution edition_join_laws edition_match_laws (bases history) (named_in blocks homes) named-editions.resolved in
      sym (find-one (has_contributor id) (named_in blocks homes) e.value (block-named home.block e stands) has'
      (λ y c b. same-from_related (λ (x : Edition) (y : Edition). IsTrue (match x y)) (named_in blocks homes) apart y e.value c (block-named home.block e stands)
      (match-from_contributor y e.value id (member-from_has id_total ids_apart y.content.contributors id b) (member-from_has id_total ids_apart e.value.content.contributors id has'))))
    where
      find-one : (p : Edition → Bool) (xs : List Edition) (x : Edition) → Contains xs x → p x ≡ true → ((y : Edition) → Contains xs y → p y ≡ true → y ≡ x) → find p xs ≡ Some x
      find-one p [] x (k, kl, e) h one = absurd (omega arith)
      find-one p (y ∷ ys) x c h one =
          elim (p y) as (λ b. p y ≡ b → cond b (Some y) (find p ys) ≡ Some x) [
            | true ↦ λ is. ap Some (one y (Contains-head y ys) is)
            | false ↦ λ is. elim (Contains-cases y ys x c) [
              | inl here ↦ (let clash : true ≡ false = sym h ∙ ap p (sym here) ∙ is in cc)
              | inr later ↦ find-one p ys x later h (λ z cz. one z (Contains-tail y ys z cz))
            ]
          ] refl

  pub home-current : (id : RecordId) → is_current homes id ≡ is_current (current history) id
  home-current id =
      sym (some-mapped (λ (h : Home). h.place) (at_id homes id)) ∙ sym (some-mapped (loaded_at (batches history)) (option_map (λ (h : Home). h.place) (at_id homes id)))
      ∙ ap is_some (found-home (batches history) homes (current history) k.current id) ∙ some-mapped Some (at_id (current history) id)

  pub holder-none : (id : RecordId) → at_id homes id ≡ None → None ≡ holder_of (named_in blocks homes) id
  holder-none id none = nothing (holder_of (named_in blocks homes) id)
      (holder-current history (named_in blocks homes) named-editions id ∙ ap not (sym (home-current id) ∙ ap is_some none))
    where
      nothing : (o : Option Edition) → is_none o ≡ true → None ≡ o
      nothing None h = refl
      nothing (Some x) h = cc

  -- the record under an id
  pub base-is : (id : RecordId) → option_and_then (loaded_at (batches history)) (option_map (λ (h : Home). h.place) (at_id homes id)) ≡ at_id (current history) id
  base-is id = base-found (batches history) (option_map (λ (h : Home). h.place) (at_id homes id)) (at_id (current history) id) (found-home (batches history) homes (current history) k.current id)

  pub homes-count : length homes ≡ length (bases history)
  homes-count = sym (length-map homes (λ (p : RecordId × Home). (p.0, p.1.place))) ∙ length-kept (batches history) (places_in homes) (current history) k.current

-- ---- nothing is kept

pub kept-nothing : (names : Table) → IsKept [] [] [] (record { names = names; works = None })
kept-nothing names = record {
  current = record { loads = refl };
  resolved = IsResolution-from_apart edition_join_laws edition_match_laws [] [] (λ e (k, kl, h). absurd (omega arith)) (λ x (k, kl, h). absurd (omega arith)) (AllPairs-none (λ x y. (IsTrue (match x y) → ⊥) × (IsTrue (match y x) → ⊥)));
  housed = record { each = λ id home at. cc; only = λ n e id at. absurd (nothing-stands n e at) };
  clustered = λ ws is. absurd (none-holds ws is);
}
  where
    none-holds : (ws : WorkList) → ◌≡◌ {A = Option WorkList} None (Some ws) → ⊥
    none-holds ws is = cc

    nothing-stands : (n : ℕ) (e : Block) → block_at [] n ≡ Some e → ⊥
    nothing-stands n e at = cc
