-- What the steps of a plan keep: a record is withdrawn from it, or an edition is inserted into it.
use Rattle.std.proofs.Common.{◌≡◌, ℕ, ◌+◌, ◌*◌, ◌≤◌, Bool, true, false, cond, ◌||◌, IsTrue, List, [], ◌∷◌, ◌++◌, length, Contains, refl, sym, ap, subst, ◌∙◌, inl, inr, arith}
use Rattle.std.specs.Prelude.{◌↔◌, Option, Some, None, is_some, unwrap_or, filter_map}
use Rattle.std.specs.Option.{option_map, option_and_then, option_flatten}
use Rattle.std.specs.List.{list_any, cons_option}
use Rattle.std.specs.List.Sorted.{IsPermutation, IsStrictlySortedBy}
use Rattle.std.specs.BTreeMap.{insert_entry}
use Rattle.std.specs.Map.{remove_entry, keys_of, values_of}
use Rattle.std.proofs.lemmas.Nat.{mul-le}
use Rattle.std.proofs.lemmas.List.Elements.{Contains-append_left, Contains-append_right, Contains-append_cases}
use Rattle.std.proofs.lemmas.List.Sorted.{IsPermutation-refl, IsPermutation-trans, IsPermutation-sym, IsPermutation-cons, IsPermutation-middle, Contains-permutation}
use Rattle.union_base.specs.SortedLists.{has}
use Rattle.union_base.specs.declared.record_id.RecordId.{RecordId}
use Rattle.union_base.specs.IdLaws.{ids_apart}
use Rattle.merge_laws.specs.Reach.{reach}
use Rattle.merge_laws.specs.Resolution.{Derives, IsDominated, IsResolution, AreApart}
use Rattle.merge_laws.specs.Withdrawal.{IsWithdrawn}
use Rattle.merge_laws.proofs.InsertingAll.{insertion-paid as insertion-within, resolved-by_members}
use Rattle.merge_laws.proofs.Places.{Contains-head}
use Rattle.merge_laws.proofs.Resolutions.{apart-from_resolution, IsPermutation-from_resolutions, IsResolution-permutation, IsResolution-push}
use Rattle.merge_laws.proofs.Tags.{tag-from_dominated, dominated-from_tag, same-from_tag}
use Rattle.merge_laws.proofs.Withdrawing.{IsResolution-withdrawn}
use Rattle.match_features.proofs.MemberLaws.{member-from_has, has-from_member}
use Rattle.union_base.specs.RecordIds.{id_cmp}
use Rattle.field_merge.specs.KeptLaws.{id_total}
use Rattle.swoosh_resolver.specs.Changes.{Fits, view_of}
use Rattle.swoosh_resolver.specs.Splits.{member_at, others_of}
use Rattle.swoosh_resolver.specs.declared.change.Place.{Place as Seat}
use Rattle.swoosh_resolver.proofs.Splitting.{taken-at}
use Rattle.turn_plans.specs.Histories.{MapOf, at_id, is_current}
use Rattle.turn_plans.specs.Homes.{Block}
use Rattle.catalogue_editions.specs.Ids.{has_contributor}
use Rattle.record_homes.specs.Moves.{place_of}
use Rattle.catalogue_editions.specs.Ids.{least}
use Rattle.catalogue_editions.specs.Joining.{join}
use Rattle.catalogue_editions.specs.JoinLaws.{edition_join_laws}
use Rattle.turn_plans.specs.Keeping.{loaded_at}
use Rattle.catalogue_editions.specs.Matching.{match, is_found}
use Rattle.catalogue_editions.specs.MatchLaws.{edition_match_laws}
use Rattle.turn_plans.specs.Plans.{AreSingle, IsPlanned, IsLeft, base_beside}
use Rattle.turn_plans.specs.Reaches.{IsReachOfInsertion, IsReachOfWithdrawal, IsReachOfReplacement, IsReachOfOp}
use Rattle.catalogue_editions.specs.declared.batch.Batch.{Batch}
use Rattle.catalogue_editions.specs.declared.edition.Edition.{Edition}
use Rattle.record_homes.specs.declared.home.Home.{Home}
use Rattle.catalogue_editions.specs.declared.op.Op.TheVariants.{Load, Withdraw}
use Rattle.record_homes.specs.declared.place.Place.{Place}
use Rattle.catalogue_editions.proofs.MappedLaws.{mapped-from_member, member-from_mapped}
use Rattle.turn_plans.proofs.Growing.{grown-insert}
use Rattle.turn_plans.proofs.Contributors.{tags, any-from_member, bears-resolution, bears-current, single-insert, single-remove, flat-then, flat-some}
use Rattle.record_homes.proofs.HomeLaws.{some-mapped}
use Rattle.record_homes.proofs.MapLaws.{same, same-maps, one-id, same-itself, at-inserted, at-removed, ordered-inserted, ordered-removed, id-of_value, value-of_id}

-- ---- members of what a function finds

pub length-mapped : {A B : Type 0} (f : A → Option B) (xs : List A) → length (filter_map f xs) ≤ length xs
length-mapped f [] = omega arith
length-mapped f (z ∷ xs) =
    let rest = length-mapped f xs in
    elim (f z) as (λ o. length (cons_option o (filter_map f xs)) ≤ length (z ∷ xs)) [ Some w ↦ omega arith | None ↦ omega arith ]

-- ---- records that are current

-- the edition under an id is that of one record, of that id
pub one-at : (all : MapOf Edition) → AreSingle all → (id : RecordId) (e : Edition) → at_id all id ≡ Some e → e.content.contributors ≡ id ∷ []
one-at [] single id e at = cc
one-at (p ∷ all) single id e at =
    elim (same id p.0) as (λ b. same id p.0 ≡ b → cond b (Some p.1) (at_id all id) ≡ Some e → e.content.contributors ≡ id ∷ []) [
      | true ↦ λ is h. (let found : p.1 ≡ e = cc in
          ap (λ (x : Edition). x.content.contributors) (sym found) ∙ single.0 ∙ ap (λ (i : RecordId). i ∷ []) (sym (one-id id p.0 is)))
      | false ↦ λ is h. one-at all single.1 id e h
    ] refl at

-- a current record is the one value that has its id
pub alone : (all : MapOf Edition) → AreSingle all → IsStrictlySortedBy id_cmp (keys_of all) → (id : RecordId) (b : Edition) → at_id all id ≡ Some b
    → (y : Edition) → Contains (values_of all) y → IsTrue (has_contributor id y) → y ≡ b
alone all single up id b at y c bears =
    let (other, found) = id-of_value all y up c in
    let own : y.content.contributors ≡ other ∷ [] = one-at all single other y found in
    let is : id ≡ other = one-id id other (first-only (same id other) (sym (ap (λ ids. has id_cmp ids id) own) ∙ bears)) in
    let both : ◌≡◌ {A = Option Edition} (Some y) (Some b) = sym found ∙ ap (at_id all) (sym is) ∙ at in
    cc
  where
    first-only : (b : Bool) → (b || false) ≡ true → b ≡ true
    first-only true h = refl
    first-only false h = h

pub bears-own : (id : RecordId) (e : Edition) → e.content.contributors ≡ id ∷ [] → IsTrue (has_contributor id e)
bears-own id e own = ap (λ ids. has id_cmp ids id) own ∙ ap (λ b. b || false) (same-itself id)

-- the values are that of an id and the others
pub values-removed : (all : MapOf Edition) (id : RecordId) (b : Edition) → at_id all id ≡ Some b → IsPermutation (values_of all) (b ∷ values_of (remove_entry (same id) all))
values-removed [] id b at = cc
values-removed (p ∷ all) id b at =
    elim (same id p.0) as (λ t. cond t (Some p.1) (at_id all id) ≡ Some b → IsPermutation (p.1 ∷ values_of all) (b ∷ values_of (cond t all (p ∷ remove_entry (same id) all)))) [
      | true ↦ λ h. (let is : p.1 ≡ b = cc in subst (λ x. IsPermutation (p.1 ∷ values_of all) (x ∷ values_of all)) is (IsPermutation-refl (p.1 ∷ values_of all)))
      | false ↦ λ h. (let rest = values_of (remove_entry (same id) all) in
          IsPermutation-trans (p.1 ∷ values_of all) (p.1 ∷ b ∷ rest) (b ∷ p.1 ∷ rest)
          (IsPermutation-cons p.1 (values_of all) (b ∷ rest) (values-removed all id b h))
          (IsPermutation-middle (p.1 ∷ []) b rest))
    ] at

-- what is found at a place that stands for an edition
pub base-found : (all : List Batch) (place : Option Place) (o : Option Edition) → option_map (loaded_at all) place ≡ option_map Some o → option_and_then (loaded_at all) place ≡ o
base-found all place o h = sym (flat-then (loaded_at all) place) ∙ ap option_flatten h ∙ flat-some o

-- ---- a record is withdrawn

module _ {all : List Batch} {homes : MapOf Home} {blocks : List (Option Block)} {now : MapOf Edition} {closed : List ℕ} {opened : List Block} {touched : MapOf (Option Place)} (p : IsPlanned all homes blocks now closed opened touched) where
  -- a current record has an edition in the view
  pub holder-stands : (id : RecordId) → is_current now id ≡ true → list_any (has_contributor id) (view_of blocks closed opened) ≡ false → ⊥
  holder-stands id is none =
      let clash : true ≡ false = sym is ∙ sym (bears-current now p.single id) ∙ sym (bears-resolution (values_of now) (view_of blocks closed opened) p.resolved id) ∙ none in cc

  -- a base edition that is looked up beside the one that goes
  base-at : (gone id : RecordId) (x : Edition) → base_beside all homes touched gone id ≡ Some x → (same gone id ≡ false) × (at_id now id ≡ Some x)
  base-at gone id x h =
      elim (same gone id) as (λ b. same gone id ≡ b → cond b None (option_and_then (loaded_at all) (place_of homes touched id)) ≡ Some x → (same gone id ≡ false) × (at_id now id ≡ Some x)) [
        | true ↦ λ is e. cc
        | false ↦ λ is e. (is, sym (base-found all (place_of homes touched id) (at_id now id) (p.stands id)) ∙ e)
      ] refl h

  -- what stands at a place is in the view
  stands-in_view : (seat : Seat) (e : Block) → member_at blocks closed opened seat ≡ Some e → Contains (view_of blocks closed opened) e.value
  stands-in_view seat e stands = Contains-permutation (e.value ∷ others_of blocks closed opened seat) (view_of blocks closed opened) e.value
      (IsPermutation-sym (view_of blocks closed opened) (e.value ∷ others_of blocks closed opened seat) (taken-at blocks closed opened seat e stands)) (Contains-head e.value (others_of blocks closed opened seat))

  module _ (gone : RecordId) (b : Edition) (at : at_id now gone ≡ Some b) (seat : Seat) (e : Block) (stands : member_at blocks closed opened seat ≡ Some e) (bears : has_contributor gone e.value ≡ true) where
    in-view : Contains (view_of blocks closed opened) e.value
    in-view = stands-in_view seat e stands

    derived : Derives match join (values_of now) e.value
    derived = p.resolved.derived e.value in-view

    below : (id : RecordId) (x : Edition) → at_id now id ≡ Some x → IsTrue (has_contributor id e.value) → IsDominated match join x e.value
    below id x found has' =
        dominated-from_tag {has = λ e id. IsTrue (has_contributor id e)} edition_join_laws edition_match_laws tags (values_of now) x id
        (alone now p.single p.ordered id x found) e.value derived has'

    abbrev pub left : List Edition
    left = filter_map (base_beside all homes touched gone) e.value.content.contributors

    keeps : (x : Edition) → Contains left x ↔ (Contains (values_of (remove_entry (same gone) now)) x × IsDominated match join x e.value)
    keeps x = (
      λ c. (let (id, there, is) = member-from_mapped (base_beside all homes touched gone) e.value.content.contributors x c in
          let (apart, found) = base-at gone id x is in
          let kept : at_id (remove_entry (same gone) now) id ≡ Some x = at-removed now gone id p.ordered ∙ ap (λ t. cond t None (at_id now id)) apart ∙ found in
          (value-of_id (remove_entry (same gone) now) id x kept, below id x found (has-from_member id_total ids_apart e.value.content.contributors id there))),
      λ (c, d). (let (id, kept) = id-of_value (remove_entry (same gone) now) x (ordered-removed now (same gone) p.ordered) c in
          let split = sym (at-removed now gone id p.ordered) ∙ kept in
          let (apart, found) = not-gone (same gone id) (at_id now id) x split in
          let own = one-at now p.single id x found in
          let there : IsTrue (has_contributor id e.value) = tag-from_dominated {has = λ e id. IsTrue (has_contributor id e)} edition_join_laws edition_match_laws tags x e.value id d (bears-own id x own) in
          mapped-from_member (base_beside all homes touched gone) e.value.content.contributors id x (member-from_has id_total ids_apart e.value.content.contributors id there)
          (ap (λ t. cond t None (option_and_then (loaded_at all) (place_of homes touched id))) apart
          ∙ base-found all (place_of homes touched id) (at_id now id) (p.stands id) ∙ found)),
    )
      where
        not-gone : (t : Bool) (o : Option Edition) (x : Edition) → cond t None o ≡ Some x → (t ≡ false) × (o ≡ Some x)
        not-gone true o x h = cc
        not-gone false o x h = (refl, h)

    pub withdrawn : (parts : List Edition) → IsResolution match join left parts
        → IsWithdrawn match join (values_of now) (view_of blocks closed opened) b (values_of (remove_entry (same gone) now)) e.value (others_of blocks closed opened seat) left parts
    withdrawn parts r = record {
      resolved = p.resolved;
      in_list = values-removed now gone b at;
      in_resolution = taken-at blocks closed opened seat e stands;
      dominated = below gone b at bears;
      keeps = keeps;
      resolved_parts = r;
    }

    -- the view with the parts resolves the records that are left
    pub split-resolved : (parts view : List Edition) → IsResolution match join left parts → IsPermutation (others_of blocks closed opened seat ++ parts) view
        → IsResolution match join (values_of (remove_entry (same gone) now)) view
    split-resolved parts view r moved =
        IsResolution-permutation edition_join_laws edition_match_laws (values_of (remove_entry (same gone) now)) (others_of blocks closed opened seat ++ parts) view moved
        (IsResolution-withdrawn edition_join_laws edition_match_laws (withdrawn parts r))

    pub split-apart : (parts : List Edition) → IsResolution match join left parts → AreApart match (others_of blocks closed opened seat ++ parts)
    split-apart parts r =
        apart-from_resolution edition_join_laws edition_match_laws (values_of (remove_entry (same gone) now)) (others_of blocks closed opened seat ++ parts)
        (IsResolution-withdrawn edition_join_laws edition_match_laws (withdrawn parts r))

    -- no more records are left than the square root of the reach
    pub split-paid : (number start now' : ℕ) → now' ≤ start + length left * length left → IsReachOfWithdrawal (values_of now) gone number → now' ≤ start + number
    split-paid number start now' paid r =
        let order = IsPermutation-from_resolutions edition_join_laws edition_match_laws (values_of now) (view_of blocks closed opened) r.before p.resolved r.resolved in
        let one : r.from ≡ e.value =
        same-from_tag {has = λ e id. IsTrue (has_contributor id e)} edition_join_laws edition_match_laws tags (values_of now) r.before b gone r.resolved
        (alone now p.single p.ordered gone b at) r.from e.value r.stands
        (Contains-permutation (view_of blocks closed opened) r.before e.value order in-view) r.contributor bears in
        let is : number ≡ length e.value.content.contributors * length e.value.content.contributors =
        r.is ∙ ap (λ (x : Edition). length x.content.contributors * length x.content.contributors) one in
        let few : length left ≤ length e.value.content.contributors = length-mapped (base_beside all homes touched gone) e.value.content.contributors in
        squares (length left) (length e.value.content.contributors) number start now' few is paid
      where
        squares : (a b n start now' : ℕ) → a ≤ b → n ≡ b * b → now' ≤ start + a * a → now' ≤ start + n
        squares a b n start now' few is paid = let more : a * a ≤ b * b = mul-le a a b b few few in omega arith

  -- ---- the same of what a look-up finds

  module _ (gone : RecordId) (seat : Seat) (bases : List Edition) (l : IsLeft all homes blocks closed opened touched gone seat bases) where
    some-from_test : {A : Type 0} (o : Option A) → is_some o ≡ true → (x : A) × (o ≡ Some x)
    some-from_test (Some x) h = (x, refl)
    some-from_test None h = cc

    record-there : (b : Edition) × (at_id now gone ≡ Some b)
    record-there =
        some-from_test (at_id now gone)
        (sym (bears-current now p.single gone) ∙ sym (bears-resolution (values_of now) (view_of blocks closed opened) p.resolved gone)
        ∙ any-from_member (has_contributor gone) (view_of blocks closed opened) l.block.value (stands-in_view seat l.block l.stands) l.bears)

    pub left-apart : (parts : List Edition) → IsResolution match join bases parts → AreApart match (others_of blocks closed opened seat ++ parts)
    left-apart parts r =
        let (b, at) = record-there in
        split-apart gone b at seat l.block l.stands l.bears parts (subst (λ list. IsResolution match join list parts) l.are r)

    pub left-resolved : (parts view : List Edition) → IsResolution match join bases parts → IsPermutation (others_of blocks closed opened seat ++ parts) view
        → IsResolution match join (values_of (remove_entry (same gone) now)) view
    left-resolved parts view r moved =
        let (b, at) = record-there in
        split-resolved gone b at seat l.block l.stands l.bears parts view (subst (λ list. IsResolution match join list parts) l.are r) moved

    pub left-paid : (number start now' : ℕ) → now' ≤ start + length bases * length bases → IsReachOfWithdrawal (values_of now) gone number → now' ≤ start + number
    left-paid number start now' paid r =
        let (b, at) = record-there in
        split-paid gone b at seat l.block l.stands l.bears number start now' (subst (λ list. now' ≤ start + length list * length list) l.are paid) r

  touched-none : (gone key q : RecordId) (touched' : MapOf (Option Place)) → key ≡ gone → at_id touched' q ≡ cond (same key q) (Some None) (at_id touched q)
      → place_of homes touched' q ≡ cond (same gone q) None (place_of homes touched q)
  touched-none gone key q touched' is at =
      ap (λ o. unwrap_or o (option_map (λ (home : Home). home.place) (at_id homes q))) (at ∙ ap (λ k. cond (same k q) (Some None) (at_id touched q)) is)
      ∙ elim (same gone q) as (λ t. unwrap_or (cond t (Some None) (at_id touched q)) (option_map (λ (home : Home). home.place) (at_id homes q))
      ≡ cond t None (place_of homes touched q)) [ true ↦ refl | false ↦ refl ]

  pub plan-withdrawn : (gone key : RecordId) (closed' : List ℕ) (opened' : List Block) (touched' : MapOf (Option Place)) → key ≡ gone
      → touched' ≡ insert_entry id_cmp touched key None
      → Fits match blocks closed' opened' → IsResolution match join (values_of (remove_entry (same gone) now)) (view_of blocks closed' opened')
      → IsPlanned all homes blocks (remove_entry (same gone) now) closed' opened' touched'
  plan-withdrawn gone key closed' opened' touched' is inserted fits resolved = record {
    stands = λ q.
        ap (option_map (loaded_at all)) (touched-none gone key q touched' is (ap (λ all. at_id all q) inserted ∙ at-inserted touched key None q))
        ∙ elim (same gone q) as (λ t. option_map (loaded_at all) (cond t None (place_of homes touched q)) ≡ option_map Some (cond t None (at_id now q))) [ true ↦ refl | false ↦ p.stands q ]
        ∙ ap (option_map Some) (sym (at-removed now gone q p.ordered));
    ordered = ordered-removed now (same gone) p.ordered;
    single = single-remove now (same gone) p.single;
    touches = subst (λ (all : MapOf (Option Place)). IsStrictlySortedBy id_cmp (keys_of all)) (sym inserted) (ordered-inserted touched key None p.touches);
    fits = fits;
    resolved = resolved;
  }

  -- ---- an edition of one record is inserted

  touched-some : (id key q : RecordId) (place : Place) (touched' : MapOf (Option Place)) → key ≡ id → at_id touched' q ≡ cond (same key q) (Some (Some place)) (at_id touched q)
      → place_of homes touched' q ≡ cond (same id q) (Some place) (place_of homes touched q)
  touched-some id key q place touched' is at =
      ap (λ o. unwrap_or o (option_map (λ (home : Home). home.place) (at_id homes q))) (at ∙ ap (λ k. cond (same k q) (Some (Some place)) (at_id touched q)) is)
      ∙ elim (same id q) as (λ t. unwrap_or (cond t (Some (Some place)) (at_id touched q)) (option_map (λ (home : Home). home.place) (at_id homes q))
      ≡ cond t (Some place) (place_of homes touched q)) [ true ↦ refl | false ↦ refl ]

  pub plan-inserted : (e : Edition) (id key : RecordId) (place : Place) (closed' : List ℕ) (opened' : List Block) (touched' : MapOf (Option Place)) → key ≡ id
      → e.content.contributors ≡ id ∷ [] → is_current now id ≡ false → loaded_at all place ≡ Some e
      → touched' ≡ insert_entry id_cmp touched key (Some place)
      → Fits match blocks closed' opened' → IsResolution match join (view_of blocks closed opened ++ e ∷ []) (view_of blocks closed' opened')
      → IsPlanned all homes blocks (insert_entry id_cmp now id e) closed' opened' touched'
  plan-inserted e id key place closed' opened' touched' is own new loads inserted fits resolved =
      let grown = grown-insert now id e new in
      record {
        stands = λ q.
            ap (option_map (loaded_at all)) (touched-some id key q place touched' is (ap (λ all. at_id all q) inserted ∙ at-inserted touched key (Some place) q))
            ∙ elim (same id q) as (λ t. option_map (loaded_at all) (cond t (Some place) (place_of homes touched q)) ≡ option_map Some (cond t (Some e) (at_id now q))) [
              | true ↦ ap Some loads
              | false ↦ p.stands q
            ]
            ∙ ap (option_map Some) (sym (at-inserted now id e q));
        ordered = ordered-inserted now id e p.ordered;
        single = single-insert now id e p.single own;
        touches = subst (λ (all : MapOf (Option Place)). IsStrictlySortedBy id_cmp (keys_of all)) (sym inserted) (ordered-inserted touched key (Some place) p.touches);
        fits = fits;
        resolved = resolved-by_members edition_join_laws edition_match_laws (values_of (insert_entry id_cmp now id e)) (values_of now ++ e ∷ []) (view_of blocks closed' opened')
            (λ x c. elim (grown.only x c) [
              | inl old ↦ Contains-append_left (values_of now) (e ∷ []) x old
              | inr mine ↦ Contains-append_right (values_of now) (e ∷ []) x mine
            ])
            (λ x c. elim (Contains-append_cases (values_of now) (e ∷ []) x c) [ inl old ↦ grown.stays x old | inr mine ↦ grown.comes x mine ])
            (IsResolution-push edition_join_laws edition_match_laws (values_of now) (view_of blocks closed opened) (view_of blocks closed' opened') e p.resolved resolved);
      }

  -- what the insertion costs, for whichever resolution is meant
  pub insert-paid : (e : Edition) (number start now' : ℕ)
      → ((whole : List Edition) (x : Edition) → IsResolution match join (view_of blocks closed opened ++ e ∷ []) whole → Contains whole x → IsDominated match join e x
      → now' ≤ start + reach match is_found (view_of blocks closed opened) x)
      → IsReachOfInsertion (values_of now) e number → now' ≤ start + number
  insert-paid e number start now' paid r = insertion-within edition_join_laws edition_match_laws (values_of now) (view_of blocks closed opened) e number start now' p.resolved paid r

  -- an id is current by the plan exactly where it has a place
  pub current-from_place : (id : RecordId) → is_some (place_of homes touched id) ≡ is_current now id
  current-from_place id =
      sym (some-mapped (loaded_at all) (place_of homes touched id)) ∙ ap is_some (p.stands id) ∙ some-mapped Some (at_id now id)

  -- a record that was withdrawn is not current
  pub not-current : (id : RecordId) → is_current (remove_entry (same id) now) id ≡ false
  not-current id = ap is_some (at-removed now id id p.ordered) ∙ ap (λ t. is_some (cond t None (at_id now id))) (same-itself id)

  -- what is inserted in place of what was withdrawn
  pub inserted-again : (id : RecordId) (e : Edition) → insert_entry id_cmp (remove_entry (same id) now) id e ≡ insert_entry id_cmp now id e
  inserted-again id e =
      same-maps (insert_entry id_cmp (remove_entry (same id) now) id e) (insert_entry id_cmp now id e)
      (ordered-inserted (remove_entry (same id) now) id e (ordered-removed now (same id) p.ordered)) (ordered-inserted now id e p.ordered)
      (λ q. at-inserted (remove_entry (same id) now) id e q ∙ ap (cond (same id q) (Some e)) (at-removed now id q p.ordered)
      ∙ elim (same id q) as (λ t. cond t (Some e) (cond t None (at_id now q)) ≡ cond t (Some e) (at_id now q)) [ true ↦ refl | false ↦ refl ]
      ∙ sym (at-inserted now id e q))

-- ---- what an operation costs

pub replacement-paid : (library : List ℕ) (all : MapOf Edition) (e : Edition) (number : ℕ) → is_current all (least e) ≡ true → IsReachOfOp library all (Load e) number → IsReachOfReplacement all e number
replacement-paid library all e number is r = elim r [ inl new ↦ absurd (let clash : true ≡ false = sym is ∙ new.0 in cc) | inr again ↦ again.1 ]

pub insertion-paid : (library : List ℕ) (all : MapOf Edition) (e : Edition) (number : ℕ) → is_current all (least e) ≡ false → IsReachOfOp library all (Load e) number → IsReachOfInsertion (values_of all) e number
insertion-paid library all e number is r = elim r [ inl new ↦ new.1 | inr again ↦ absurd (let clash : false ≡ true = sym is ∙ again.0 in cc) ]

pub withdrawal-paid : (library : List ℕ) (all : MapOf Edition) (control : List ℕ) (number : ℕ) → is_current all (record { library = library; control = control }) ≡ true
    → IsReachOfOp library all (Withdraw control) number → IsReachOfWithdrawal (values_of all) (record { library = library; control = control }) number
withdrawal-paid library all control number is r = elim r [ inl none ↦ absurd (let clash : true ≡ false = sym is ∙ none.0 in cc) | inr there ↦ there.1 ]
