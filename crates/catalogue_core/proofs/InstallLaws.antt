-- What a catalogue keeps once a plan is installed.
use Rattle.std.proofs.Common.{◌≡◌, ℕ, ◌<◌, true, IsTrue, List, [], ◌∷◌, ◌++◌, length, Contains, refl, sym, ap, subst, ◌∙◌, inl, inr, arith}
use Rattle.std.specs.Prelude.{fold, slice_get, slice_index, Option, Some, None, is_some, unwrap_or}
use Rattle.std.specs.Option.{option_map}
use Rattle.std.specs.List.{list_any}
use Rattle.std.specs.List.Sorted.{IsPermutation, IsStrictlySortedBy}
use Rattle.std.specs.BTreeMap.{is_at}
use Rattle.std.specs.Map.{keys_of, values_of as values}
use Rattle.std.proofs.lemmas.List.{map-append}
use Rattle.std.proofs.lemmas.List.Sums.{fold-append}
use Rattle.std.proofs.lemmas.List.Sorted.{IsPermutation-map}
use Rattle.std.proofs.lemmas.Option.{slice_get_within, get_or_from_slice_get}
use Rattle.union_base.specs.declared.record_id.RecordId.{RecordId}
use Rattle.union_base.specs.IdLaws.{ids_apart}
use Rattle.merge_laws.specs.Resolution.{IsResolution, AreApart}
use Rattle.merge_laws.proofs.Places.{Contains-head, Contains-tail, Contains-cases}
use Rattle.merge_laws.proofs.Resolutions.{apart-from_resolution, IsResolution-permutation}
use Rattle.match_features.proofs.MemberLaws.{member-from_has}
use Rattle.union_base.specs.RecordIds.{id_cmp}
use Rattle.field_merge.specs.KeptLaws.{id_total}
use Rattle.swoosh_resolver.specs.Changes.{AreNumbers, AreOpened, Fits, view_of, without}
use Rattle.swoosh_resolver.specs.Tables.{block_at, blocks_in, values_of}
use Rattle.swoosh_resolver.proofs.Places.{number-from_block}
use Rattle.swoosh_resolver.proofs.Views.{view-same}
use Rattle.work_clusters.specs.Works.{AreAfter, changed}
use Rattle.work_clusters.proofs.MemberLaws.{changed-members, works_of-permutation}
use Rattle.record_editions.specs.EditionKeys.{work_key_by, work_pairs}
use Rattle.authority_names.specs.Leads.{Table}
use Rattle.edition_blocks.specs.ClosedKeys.{closed_pairs}
use Rattle.edition_blocks.specs.Grouping.{WorkList, KeptWorks}
use Rattle.turn_plans.specs.Histories.{MapOf, at_id, is_current, after_batch, bases, current}
use Rattle.turn_plans.specs.Homes.{Block, places_in}
use Rattle.catalogue_editions.specs.Ids.{has_contributor}
use Rattle.record_homes.specs.Moves.{place_of, admitted, others, moved}
use Rattle.catalogue_core.specs.Housing.{housed_all, AreStillHoused}
use Rattle.catalogue_editions.specs.Ids.{least}
use Rattle.catalogue_editions.specs.Joining.{join}
use Rattle.catalogue_editions.specs.JoinLaws.{edition_join_laws}
use Rattle.turn_plans.specs.Keeping.{batches, loaded_at, map_values, StandFor}
use Rattle.catalogue_core.specs.Kept.{IsKept}
use Rattle.catalogue_editions.specs.Matching.{match}
use Rattle.catalogue_editions.specs.MatchLaws.{edition_match_laws}
use Rattle.turn_plans.specs.Plans.{IsPlanned}
use Rattle.catalogue_editions.specs.declared.batch.Batch.{Batch}
use Rattle.catalogue_editions.specs.declared.edition.Edition.{Edition}
use Rattle.catalogue_editions.specs.declared.history_entry.HistoryEntry.{HistoryEntry}
use Rattle.record_homes.specs.declared.home.Home.{Home}
use Rattle.record_homes.specs.declared.place.Place.{Place}
use Rattle.catalogue_editions.proofs.Apart.{match-from_contributor, match-from_least}
use Rattle.edition_blocks.proofs.BlockLaws.{block-stands, value-in, in-value, number-from_match, in-view, kept-in_view, fresh-in_view}
use Rattle.record_homes.proofs.HomeLaws.{some-from_test, ordered-admitted, ordered-moved, settled_at, home-settled, some-mapped}
use Rattle.catalogue_core.proofs.HousedLaws.{ordered-housed_all, place-housed_all, block-housed_all}
use Rattle.turn_plans.proofs.Contributors.{member-from_any, any-from_member, bears-resolution, bears-current}
use Rattle.record_homes.proofs.MapLaws.{same, same-maps}
use Rattle.turn_plans.proofs.Placing.{lookup-values}
use Rattle.catalogue_editions.proofs.MappedLaws.{mapped-from_member, member-from_mapped}
use Rattle.turn_plans.proofs.TurnLaws.{ordered-current}

-- ---- works

pair-in : (names : Table) (xs : List Edition) (e : Edition) → Contains xs e → Contains (work_pairs names xs) (work_key_by names e, least e)
pair-in names [] e (k, kl, is) = absurd (omega arith)
pair-in names (x ∷ xs) e c =
    elim (Contains-cases x xs e c) [
      | inl here ↦ subst (λ (y : Edition). Contains (work_pairs names (x ∷ xs)) (work_key_by names y, least y)) here (Contains-head (work_key_by names x, least x) (work_pairs names xs))
      | inr later ↦ Contains-tail (work_key_by names x, least x) (work_pairs names xs) (work_key_by names e, least e) (pair-in names xs e later)
    ]

in-pairs : (names : Table) (xs : List Edition) (p : List ℕ × RecordId) → Contains (work_pairs names xs) p → (e : Edition) × Contains xs e × (◌≡◌ {A = List ℕ × RecordId} (work_key_by names e, least e) p)
in-pairs names [] p (k, kl, is) = absurd (omega arith)
in-pairs names (x ∷ xs) p c =
    elim (Contains-cases (work_key_by names x, least x) (work_pairs names xs) p c) [
      | inl here ↦ (x, Contains-head x xs, here)
      | inr later ↦ (let (e, ce, is) = in-pairs names xs p later in (e, Contains-tail x xs e ce, is))
    ]

-- the pair of a block whose number is closed
gone-in : (names : Table) (blocks : List (Option Block)) (closed : List ℕ) (n : ℕ) (e : Block) → Contains closed n → block_at blocks n ≡ Some e → Contains (closed_pairs names blocks closed) (work_key_by names e.value, least e.value)
gone-in names blocks closed n e c at =
    mapped-from_member (λ n. option_map (λ (b : Block). (work_key_by names b.value, least b.value)) (block_at blocks n)) closed n (work_key_by names e.value, least e.value) c
    (ap (option_map (λ (b : Block). (work_key_by names b.value, least b.value))) at)

in-gone : (names : Table) (blocks : List (Option Block)) (closed : List ℕ) (p : List ℕ × RecordId) → Contains (closed_pairs names blocks closed) p
    → (n : ℕ) × (e : Block) × Contains closed n × (block_at blocks n ≡ Some e) × (least e.value ≡ p.1)
in-gone names blocks closed p c =
    let (n, cn, is) = member-from_mapped (λ n. option_map (λ (b : Block). (work_key_by names b.value, least b.value)) (block_at blocks n)) closed p c in
    found n cn (block_at blocks n) refl is
  where
    found : (n : ℕ) → Contains closed n → (o : Option Block) → block_at blocks n ≡ o → option_map (λ (b : Block). (work_key_by names b.value, least b.value)) o ≡ Some p
        → (n : ℕ) × (e : Block) × Contains closed n × (block_at blocks n ≡ Some e) × (least e.value ≡ p.1)
    found n cn None at is = cc
    found n cn (Some e) at is = (let pair : ◌≡◌ {A = List ℕ × RecordId} (work_key_by names e.value, least e.value) p = cc in (n, e, cn, at, ap (λ (q : List ℕ × RecordId). q.1) pair))

pub after-change : (names : Table) (blocks : List (Option Block)) (closed : List ℕ) (opened : List Block) → AreApart match (values_of (blocks_in blocks))
    → AreAfter (work_pairs names (values_of (blocks_in blocks))) (closed_pairs names blocks closed) (work_pairs names (values_of opened)) (work_pairs names (view_of blocks closed opened))
after-change names blocks closed opened apart p = (
  λ c. (let (v, cv, is) = in-pairs names (view_of blocks closed opened) p c in
      elim (in-view blocks closed opened v cv) [
        | inl (n, e, at, open', same') ↦ inl (
          subst (Contains (work_pairs names (values_of (blocks_in blocks)))) (ap (λ (x : Edition). (work_key_by names x, least x)) same' ∙ is)
              (pair-in names (values_of (blocks_in blocks)) e.value (value-in (blocks_in blocks) e (block-stands blocks n e at))),
          λ gone. (let (m, f, cm, at', least') = in-gone names blocks closed p gone in
              let one : least f.value ≡ least e.value = least' ∙ sym (ap (λ (q : List ℕ × RecordId). q.1) (ap (λ (x : Edition). (work_key_by names x, least x)) same' ∙ is)) in
              open' (subst (Contains closed) (number-from_match blocks apart m n f e at' at (match-from_least f.value e.value one)) cm)),
        )
        | inr (e, ce, same') ↦ inr (subst (Contains (work_pairs names (values_of opened))) (ap (λ (x : Edition). (work_key_by names x, least x)) same' ∙ is) (pair-in names (values_of opened) e.value (value-in opened e ce)))
      ]),
  λ h. elim h [
    | inl (c, open') ↦
        (let (v, cv, is) = in-pairs names (values_of (blocks_in blocks)) p c in
        let (e, ce, same') = in-value (blocks_in blocks) v cv in
        let (n, at) = number-from_block blocks e ce in
        subst (Contains (work_pairs names (view_of blocks closed opened))) (ap (λ (x : Edition). (work_key_by names x, least x)) same' ∙ is)
        (pair-in names (view_of blocks closed opened) e.value (kept-in_view blocks closed opened n e at
        (λ gone. open' (subst (Contains (closed_pairs names blocks closed)) (ap (λ (x : Edition). (work_key_by names x, least x)) same' ∙ is) (gone-in names blocks closed n e gone at))))))
    | inr c ↦
        (let (v, cv, is) = in-pairs names (values_of opened) p c in
        let (e, ce, same') = in-value opened v cv in
        subst (Contains (work_pairs names (view_of blocks closed opened))) (ap (λ (x : Edition). (work_key_by names x, least x)) same' ∙ is)
        (pair-in names (view_of blocks closed opened) e.value (fresh-in_view blocks closed opened e ce)))
  ],
)

-- ---- homes

pub keys-values : {X Y : Type 0} (f : X → Y) (all : MapOf X) → keys_of (map_values f all) ≡ keys_of all
keys-values f [] = refl
keys-values {X} {Y} f (p ∷ all) = ap (λ (ks : List RecordId). p.0 ∷ ks) (keys-values f all)

-- ---- a plan is installed

-- what a value was made of
from-mapped : {A B : Type 0} (f : A → B) (o : Option A) (y : B) → option_map f o ≡ Some y → (x : A) × (o ≡ Some x) × (f x ≡ y)
from-mapped f None y is = absurd cc
from-mapped f (Some x) y is = (x, refl, cc)

-- the homes of what is kept are in the order of the ids
ordered-kept : (history : List HistoryEntry) (homes : MapOf Home) (blocks : List (Option Block)) (works : KeptWorks) → IsKept history homes blocks works → IsStrictlySortedBy id_cmp (keys_of homes)
ordered-kept history homes blocks works k = subst (IsStrictlySortedBy id_cmp)
    (sym (keys-values Some (current history)) ∙ ap keys_of (sym k.current.loads) ∙ keys-values (loaded_at (batches history)) (places_in homes) ∙ keys-values (λ (home : Home). home.place) homes)
    (ordered-current history)

-- a home that is settled stays in its block
block-settled : (t : Option (Option Place)) (home h₀ : Home) → settled_at t (Some home) ≡ Some h₀ → h₀.block ≡ home.block
block-settled None home h₀ is = let one : home ≡ h₀ = cc in ap (λ (x : Home). x.block) (sym one)
block-settled (Some None) home h₀ is = cc
block-settled (Some (Some place)) home h₀ is = let one : ◌≡◌ {A = Home} (record { place = place; block = home.block }) h₀ = cc in ap (λ (x : Home). x.block) (sym one)

-- once homes are settled, those of the contributors of blocks are where they were
pub still-settled : (history : List HistoryEntry) (homes : MapOf Home) (blocks : List (Option Block)) (works : KeptWorks) → IsKept history homes blocks works
    → (touched : MapOf (Option Place)) → IsStrictlySortedBy id_cmp (keys_of touched)
    → (let-in : MapOf Home) → let-in ≡ fold admitted homes touched
    → (rest : MapOf (Option Place)) → rest ≡ others homes touched
    → (settled : MapOf Home) → settled ≡ fold moved let-in rest
    → (roomy : List (Option Block)) → roomy ≡ blocks
    → AreStillHoused roomy settled
still-settled history homes blocks works k touched up let-in lets rest lists settled settles roomy same' =
    let found : settled ≡ fold moved (fold admitted homes touched) (others homes touched) =
    settles ∙ ap (λ all. fold moved all rest) lets ∙ ap (fold moved (fold admitted homes touched)) lists in
    record {
      each = λ n e q h₀ stands bears at.
          let (home, old, is) = k.housed.only n e q (sym (ap (λ (bs : List (Option Block)). block_at bs n) same') ∙ stands) bears in
          block-settled (at_id touched q) home h₀
          (ap (settled_at (at_id touched q)) (sym old)
          ∙ sym (home-settled touched homes q up (ordered-kept history homes blocks works k))
          ∙ sym (ap (λ (all : MapOf Home). at_id all q) found) ∙ at)
          ∙ is;
    }

module _ (history : List HistoryEntry) (entry : HistoryEntry) (homes : MapOf Home) (blocks : List (Option Block)) (works : KeptWorks) (k : IsKept history homes blocks works) (closed : List ℕ) (opened : List Block) (touched : MapOf (Option Place)) (numbers : List ℕ) (p : IsPlanned (batches history ++ entry.batch ∷ []) homes blocks (after_batch (current history) entry.batch) closed opened touched) where
  abbrev all : List Batch
  all = batches history ++ entry.batch ∷ []

  abbrev now : MapOf Edition
  now = after_batch (current history) entry.batch

  abbrev let-in : MapOf Home
  let-in = fold admitted homes touched

  abbrev settled : MapOf Home
  settled = fold moved let-in (others homes touched)

  abbrev pub homes' : MapOf Home
  homes' = housed_all settled opened numbers

  ordered-homes : IsStrictlySortedBy id_cmp (keys_of homes)
  ordered-homes = ordered-kept history homes blocks works k

  ordered-homes' : IsStrictlySortedBy id_cmp (keys_of homes')
  ordered-homes' = ordered-housed_all opened numbers settled (ordered-moved (others homes touched) let-in (ordered-admitted touched homes ordered-homes))

  at-settled : (q : RecordId) → at_id settled q ≡ settled_at (at_id touched q) (at_id homes q)
  at-settled q = home-settled touched homes q p.touches ordered-homes

  -- each id has the place that the plan gives it
  place-settled : (q : RecordId) → option_map (λ (h : Home). h.place) (at_id homes' q) ≡ place_of homes touched q
  place-settled q =
      place-housed_all opened numbers settled q ∙ ap (option_map (λ (h : Home). h.place)) (at-settled q) ∙ given (at_id touched q)
    where
      given : (t : Option (Option Place)) → option_map (λ (h : Home). h.place) (settled_at t (at_id homes q)) ≡ unwrap_or t (option_map (λ (h : Home). h.place) (at_id homes q))
      given None = refl
      given (Some None) = refl
      given (Some (Some place)) = refl

  found-settled : (q : RecordId) → option_map (loaded_at all) (option_map (λ (h : Home). h.place) (at_id homes' q)) ≡ option_map Some (at_id now q)
  found-settled q = ap (option_map (loaded_at all)) (place-settled q) ∙ p.stands q

  current-settled : (q : RecordId) → is_current homes' q ≡ is_current now q
  current-settled q =
      sym (some-mapped (λ (h : Home). h.place) (at_id homes' q)) ∙ sym (some-mapped (loaded_at all) (option_map (λ (h : Home). h.place) (at_id homes' q)))
      ∙ ap is_some (found-settled q) ∙ some-mapped Some (at_id now q)

  stands-settled : StandFor all (places_in homes') now
  stands-settled = record {
    loads = same-maps (map_values (loaded_at all) (places_in homes')) (map_values Some now)
        (subst (IsStrictlySortedBy id_cmp) (sym (keys-values (loaded_at all) (places_in homes') ∙ keys-values (λ (h : Home). h.place) homes')) ordered-homes')
        (subst (IsStrictlySortedBy id_cmp) (sym (keys-values Some now)) p.ordered)
        (λ q. lookup-values (loaded_at all) (places_in homes') (is_at (id_cmp q)) ∙ ap (option_map (loaded_at all)) (lookup-values (λ (h : Home). h.place) homes' (is_at (id_cmp q)))
        ∙ found-settled q ∙ sym (lookup-values Some now (is_at (id_cmp q))));
  }

  -- ---- blocks with their numbers

  module _ (blocks' : List (Option Block)) (kept : (n : ℕ) (e : Block) → block_at blocks n ≡ Some e → (Contains closed n → ⊥) → block_at blocks' n ≡ Some e)
      (fresh : AreOpened (without blocks closed) numbers opened blocks') (moved' : IsPermutation (view_of blocks closed opened) (values_of (blocks_in blocks')))
      (given : AreNumbers closed (length blocks) (length opened) numbers) where
    resolved' : IsResolution match join (values now) (values_of (blocks_in blocks'))
    resolved' = IsResolution-permutation edition_join_laws edition_match_laws (values now) (view_of blocks closed opened) (values_of (blocks_in blocks')) moved' p.resolved

    housed-each : (q : RecordId) (h : Home) → at_id homes' q ≡ Some h → (e : Block) × (block_at blocks' h.block ≡ Some e) × IsTrue (has_contributor q e.value)
    housed-each q h at =
        elim (block-housed_all opened numbers settled q h (omega (arith, given.len)) at) [
          | inl (i, e, is, bears, number) ↦
              (let below : i < length opened = slice_get_within opened i e is in
              let number' : h.block ≡ slice_index numbers i = got-number i h.block number in
              (e, ap (block_at blocks') number' ∙ fresh.stand i e below (get_or_from_slice_get opened i e e is), bears))
          | inr (h₀, at₀, block, none) ↦
              (let there : is_current now q ≡ true = sym (current-settled q) ∙ ap is_some at in
              let some : list_any (has_contributor q) (view_of blocks closed opened) ≡ true =
              bears-resolution (values now) (view_of blocks closed opened) p.resolved q ∙ bears-current now p.single q ∙ there in
              let (v, cv, bears) = member-from_any (has_contributor q) (view_of blocks closed opened) some in
              elim (in-view blocks closed opened v cv) [
                | inl (n, e, stands, open', same') ↦
                    (let has' : IsTrue (has_contributor q e.value) = ap (has_contributor q) same' ∙ bears in
                    let (home, old, is) = k.housed.only n e q stands has' in
                    let number' : h₀.block ≡ home.block = block-settled (at_id touched q) home h₀ (sym (at-settled q ∙ ap (settled_at (at_id touched q)) old) ∙ at₀) in
                    (e, ap (block_at blocks') (block ∙ number' ∙ is) ∙ kept n e stands open', has'))
                | inr (e, ce, same') ↦ absurd (none e ce (ap (has_contributor q) same' ∙ bears))
              ])
        ]
      where
        got-number : (i m : ℕ) → slice_get numbers i ≡ Some m → m ≡ slice_index numbers i
        got-number i m is = sym (get_or_from_slice_get numbers i m 0 is)

    housed-only : (n : ℕ) (e : Block) (q : RecordId) → block_at blocks' n ≡ Some e → IsTrue (has_contributor q e.value) → (home : Home) × (at_id homes' q ≡ Some home) × (home.block ≡ n)
    housed-only n e q stands bears =
        let there : is_current now q ≡ true =
        sym (bears-current now p.single q) ∙ sym (bears-resolution (values now) (values_of (blocks_in blocks')) resolved' q)
        ∙ any-from_member (has_contributor q) (values_of (blocks_in blocks')) e.value (value-in (blocks_in blocks') e (block-stands blocks' n e stands)) bears in
        let (h, at) = some-from_test (at_id homes' q) (current-settled q ∙ there) in
        let (f, stands', bears') = housed-each q h at in
        let apart = apart-from_resolution edition_join_laws edition_match_laws (values now) (values_of (blocks_in blocks')) resolved' in (
          h,
          at,
          number-from_match blocks' apart h.block n f e stands' stands
              (match-from_contributor f.value e.value q (member-from_has id_total ids_apart f.value.content.contributors q bears') (member-from_has id_total ids_apart e.value.content.contributors q bears)),
        )

    pub kept-installed : (works' : Option WorkList)
        → works' ≡ option_map (λ ws. changed ws (closed_pairs works.names blocks closed) (work_pairs works.names (values_of opened))) works.works
        → IsKept (history ++ entry ∷ []) homes' blocks' (record { names = works.names; works = works' })
    kept-installed works' is-changed =
        let turn : current (history ++ entry ∷ []) ≡ now = fold-append (λ all (entry : HistoryEntry). after_batch all entry.batch) [] history (entry ∷ []) in
        let whole : batches (history ++ entry ∷ []) ≡ all = map-append (λ (t : HistoryEntry). t.batch) history (entry ∷ []) in
        let apart = apart-from_resolution edition_join_laws edition_match_laws (bases history) (values_of (blocks_in blocks)) k.resolved in
        record {
          current = record { loads = ap (λ bs. map_values (loaded_at bs) (places_in homes')) whole ∙ stands-settled.loads ∙ ap (map_values Some) (sym turn) };
          resolved = subst (λ list. IsResolution match join list (values_of (blocks_in blocks'))) (ap values (sym turn)) resolved';
          housed = record { each = housed-each; only = housed-only };
          clustered = λ ws' is.
              let (ws, old, same) = from-mapped (λ ws. changed ws (closed_pairs works.names blocks closed) (work_pairs works.names (values_of opened))) works.works ws' (sym is-changed ∙ is) in
              sym same
              ∙ ap (λ ws. changed ws (closed_pairs works.names blocks closed) (work_pairs works.names (values_of opened))) (k.clustered ws old)
              ∙ changed-members (work_pairs works.names (values_of (blocks_in blocks))) (closed_pairs works.names blocks closed) (work_pairs works.names (values_of opened))
              (work_pairs works.names (view_of blocks closed opened))
              (after-change works.names blocks closed opened apart)
              ∙ works_of-permutation (work_pairs works.names (view_of blocks closed opened)) (work_pairs works.names (values_of (blocks_in blocks')))
              (IsPermutation-map (λ (e : Edition). (work_key_by works.names e, least e)) (view_of blocks closed opened) (values_of (blocks_in blocks')) moved');
        }

-- step by step
pub installed : (history : List HistoryEntry) (entry : HistoryEntry) (homes : MapOf Home) (blocks : List (Option Block)) (works : KeptWorks) → IsKept history homes blocks works
    → (closed : List ℕ) (opened : List Block) (touched : MapOf (Option Place)) → IsPlanned (batches history ++ entry.batch ∷ []) homes blocks (after_batch (current history) entry.batch) closed opened touched
    → (let-in : MapOf Home) → let-in ≡ fold admitted homes touched
    → (rest : MapOf (Option Place)) → rest ≡ others homes touched
    → (settled : MapOf Home) → settled ≡ fold moved let-in rest
    → (numbers : List ℕ) → AreNumbers closed (length blocks) (length opened) numbers
    → (homes' : MapOf Home) → homes' ≡ housed_all settled opened numbers
    → (roomy : List (Option Block)) → roomy ≡ blocks
    → (blocks' : List (Option Block)) → ((n : ℕ) (e : Block) → block_at roomy n ≡ Some e → (Contains closed n → ⊥) → block_at blocks' n ≡ Some e)
    → AreOpened (without roomy closed) numbers opened blocks' → IsPermutation (view_of roomy closed opened) (values_of (blocks_in blocks'))
    → (works' : KeptWorks) → works'.names ≡ works.names
    → works'.works ≡ option_map (λ ws. changed ws (closed_pairs works.names blocks closed) (work_pairs works.names (values_of opened))) works.works
    → (history₁ history' : List HistoryEntry) → history₁ ≡ history → history' ≡ history₁ ++ entry ∷ []
    → IsKept history' homes' blocks' works'
installed history entry homes blocks works k closed opened touched p within lets rest lists after settles numbers given homes' houses roomy same' blocks' kept fresh moved' works' same-names changes history₁ history' same-history appended =
    let kept' = subst (λ bs. (n : ℕ) (e : Block) → block_at bs n ≡ Some e → (Contains closed n → ⊥) → block_at blocks' n ≡ Some e) same' kept in
    let fresh' = subst (λ bs. AreOpened (without bs closed) numbers opened blocks') same' fresh in
    let view = subst (λ bs. IsPermutation (view_of bs closed opened) (values_of (blocks_in blocks'))) same' moved' in
    let whole = kept-installed history entry homes blocks works k closed opened touched numbers p blocks' kept' fresh' view given works'.works changes in
    let found : homes' ≡ housed_all (fold moved (fold admitted homes touched) (others homes touched)) opened numbers =
    houses ∙ ap (λ all. housed_all all opened numbers) (settles ∙ ap (λ all. fold moved all rest) lets ∙ ap (fold moved (fold admitted homes touched)) lists) in
    subst (λ turns. IsKept turns homes' blocks' works') (sym (appended ∙ ap (λ turns. turns ++ entry ∷ []) same-history))
    (subst (λ all. IsKept (history ++ entry ∷ []) all blocks' works') (sym found)
    (subst (λ names. IsKept (history ++ entry ∷ []) (housed_all (fold moved (fold admitted homes touched) (others homes touched)) opened numbers) blocks'
    (record { names = names; works = works'.works })) (sym same-names) whole))

-- a plan is told by the values that it opens, where they fit
pub planned-same : {all : List Batch} {homes : MapOf Home} {blocks : List (Option Block)} {editions : MapOf Edition} {closed : List ℕ} (opened opened' : List Block) {touched : MapOf (Option Place)} → values_of opened ≡ values_of opened' → Fits match blocks closed opened'
    → IsPlanned all homes blocks editions closed opened touched → IsPlanned all homes blocks editions closed opened' touched
planned-same {all} {homes} {blocks} {editions} {closed} opened opened' {touched} same fits planned = record {
  stands = planned.stands;
  ordered = planned.ordered;
  single = planned.single;
  touches = planned.touches;
  fits = fits;
  resolved = subst (IsResolution match join (values editions)) (view-same (blocks_in (without blocks closed)) opened opened' same) planned.resolved;
}
