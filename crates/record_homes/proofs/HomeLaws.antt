-- Maps in which a value is changed, a pair goes or a pair comes, and what is found in them then.
use Rattle.std.proofs.Common.{◌≡◌, ℕ, Bool, true, false, cond, not, ◌||◌, List, [], ◌∷◌, ◌++◌, map, append_assoc, append-nil, Bor, refl, sym, ap, subst, ◌∙◌}
use Rattle.std.specs.Prelude.{fold, Option, Some, None, is_some, unwrap_or}
use Rattle.std.specs.Option.{option_map, option_and_then}
use Rattle.std.proofs.lemmas.List.{map-append}
use Rattle.std.specs.declared.cmp.Ordering.{Ordering}
use Rattle.std.specs.declared.cmp.Ordering.TheVariants.{Less, Equal, Greater}
use Rattle.std.specs.Ordering.{match_ordering, is_eq, ordering_reverse}
use Rattle.std.specs.BTreeMap.{is_at, insert_entry}
use Rattle.std.specs.List.{AllByRecursion}
use Rattle.std.specs.List.Sorted.{IsStrictlySortedBy}
use Rattle.std.specs.Map.{remove_entry, keys_of}
use Rattle.union_base.specs.SortedLists.{has}
use Rattle.union_base.specs.declared.record_id.RecordId.{RecordId}
use Rattle.union_base.specs.RecordIds.{id_cmp}
use Rattle.field_merge.specs.KeptLaws.{id_total}
use Rattle.record_homes.specs.Maps.{MapOf, at_id, has_value, change_at}
use Rattle.record_homes.specs.Moves.{is_new, new_home, admitted, others, taken_back, moved, housed}
use Rattle.record_homes.specs.declared.home.Home.{Home}
use Rattle.record_homes.specs.declared.place.Place.{Place}
use Rattle.record_homes.proofs.MapLaws.{same, one-id, same-sym, at-removed, at-inserted, at-changed, at-past, at-filtered, keys-changed, ordered-removed, ordered-inserted, ordered-filtered}

-- ---- ids that are let in

itself : (id : RecordId) → id_cmp id id ≡ Equal
itself id = ties (id_cmp id id) (id_total.antisymm id id)
  where
    ties : (r : Ordering) → r ≡ ordering_reverse r → r ≡ Equal
    ties Less e = cc
    ties Equal e = refl
    ties Greater e = cc

-- an id that was let in and goes again
pub remove-inserted : {X : Type 0} (all : MapOf X) (id key : RecordId) (x : X) → key ≡ id → at_id all id ≡ None → remove_entry (is_at (id_cmp id)) (insert_entry id_cmp all key x) ≡ all
remove-inserted {X} all id key x same none =
    ap (λ k. remove_entry (is_at (id_cmp id)) (insert_entry id_cmp all k x)) same ∙ back all none
  where
    back : (all : MapOf X) → at_id all id ≡ None → remove_entry (is_at (id_cmp id)) (insert_entry id_cmp all id x) ≡ all
    back [] h = ap (λ r. cond (is_eq r) [] ((id, x) ∷ [])) (itself id)
    back (p ∷ all) h =
        elim (id_cmp id p.0) as (λ r. id_cmp id p.0 ≡ r → cond (is_eq r) (Some p.1) (at_id all id) ≡ None
        → remove_entry (is_at (id_cmp id)) (match_ordering r ((id, x) ∷ p ∷ all) ((p.0, x) ∷ all) (p ∷ insert_entry id_cmp all id x)) ≡ p ∷ all) [
          | Less ↦ λ e h. ap (λ r. cond (is_eq r) (p ∷ all) ((id, x) ∷ remove_entry (is_at (id_cmp id)) (p ∷ all))) (itself id)
          | Equal ↦ λ e h. cc
          | Greater ↦ λ e h. ap (λ r. cond (is_eq r) (insert_entry id_cmp all id x) (p ∷ remove_entry (is_at (id_cmp id)) (insert_entry id_cmp all id x))) e
              ∙ ap (λ (rest : MapOf X). p ∷ rest) (back all h)
        ] refl h

-- an id that has no home does not go
pub removed-absent : {X : Type 0} (all : MapOf X) (id : RecordId) → at_id all id ≡ None → remove_entry (same id) all ≡ all
removed-absent [] id none = refl
removed-absent {X} (p ∷ all) id none =
    elim (same id p.0) as (λ b. cond b (Some p.1) (at_id all id) ≡ None → cond {A = MapOf X} b all (p ∷ remove_entry (same id) all) ≡ p ∷ all) [
      | true ↦ λ h. cc
      | false ↦ λ h. ap (λ (rest : MapOf X). p ∷ rest) (removed-absent all id h)
    ] none

-- the last of the ids goes first
pub taken_back-last : (homes : MapOf Home) (ids : List RecordId) (id : RecordId) → taken_back homes (ids ++ id ∷ []) ≡ taken_back (remove_entry (same id) homes) ids
taken_back-last homes [] id = refl
taken_back-last homes (x ∷ ids) id = ap (remove_entry (same x)) (taken_back-last homes ids id)

-- one more id that came goes first
pub taken_back-more : (homes : MapOf Home) (came more : List (Bor RecordId)) (id : Bor RecordId) → more ≡ came ++ id ∷ []
    → taken_back homes (map (λ id. id.now) more) ≡ taken_back (remove_entry (same id.now) homes) (map (λ id. id.now) came)
taken_back-more homes came more id is =
    ap (λ (xs : List (Bor RecordId)). taken_back homes (map (λ id. id.now) xs)) is
    ∙ ap (taken_back homes) (map-append (λ (id : Bor RecordId). id.now) came (id ∷ []))
    ∙ taken_back-last homes (map (λ (id : Bor RecordId). id.now) came) id.now

pub some-from_test : {A : Type 0} (o : Option A) → is_some o ≡ true → (x : A) × (o ≡ Some x)
some-from_test (Some x) h = (x, refl)
some-from_test None h = cc

pub none-from_test : {A : Type 0} (o : Option A) → is_some o ≡ false → o ≡ None
none-from_test None h = refl
none-from_test (Some x) h = cc

pub some-mapped : {A B : Type 0} (f : A → B) (o : Option A) → is_some (option_map f o) ≡ is_some o
some-mapped f None = refl
some-mapped f (Some x) = refl

-- ---- where a home is found then

-- a walk over what a plan touched, where each step changes what is found under its own id alone
module _ (step : MapOf Home → RecordId × Option Place → MapOf Home) (found : Option (Option Place) → Option Home → Option Home) (none : (home : Option Home) → found None home ≡ home)
    (up-one : (homes : MapOf Home) (t : RecordId × Option Place) → IsStrictlySortedBy id_cmp (keys_of homes) → IsStrictlySortedBy id_cmp (keys_of (step homes t)))
    (at-one : (homes : MapOf Home) (t : RecordId × Option Place) (q : RecordId) → IsStrictlySortedBy id_cmp (keys_of homes) → at_id (step homes t) q ≡ cond (same t.0 q) (found (Some t.1) (at_id homes q)) (at_id homes q)) where
  ordered-walked : (touched : MapOf (Option Place)) (homes : MapOf Home) → IsStrictlySortedBy id_cmp (keys_of homes) → IsStrictlySortedBy id_cmp (keys_of (fold step homes touched))
  ordered-walked [] homes up = up
  ordered-walked (t ∷ touched) homes up = ordered-walked touched (step homes t) (up-one homes t up)

  at-walked : (touched : MapOf (Option Place)) (homes : MapOf Home) (q : RecordId) → IsStrictlySortedBy id_cmp (keys_of touched) → IsStrictlySortedBy id_cmp (keys_of homes)
      → at_id (fold step homes touched) q ≡ found (at_id touched q) (at_id homes q)
  unfolding IsStrictlySortedBy
  at-walked [] homes q up up' = sym (none (at_id homes q))
  at-walked (t ∷ touched) homes q up up' =
      at-walked touched (step homes t) q up.1 (up-one homes t up')
      ∙ ap (found (at_id touched q)) (at-one homes t q up')
      ∙ here (same q t.0) refl
    where
      here : (b : Bool) → same q t.0 ≡ b → found (at_id touched q) (cond (same t.0 q) (found (Some t.1) (at_id homes q)) (at_id homes q)) ≡ found (cond b (Some t.1) (at_id touched q)) (at_id homes q)
      here true is =
          ap (λ o. found o (cond (same t.0 q) (found (Some t.1) (at_id homes q)) (at_id homes q))) (ap (at_id touched) (one-id q t.0 is) ∙ at-past t touched up)
          ∙ none (cond (same t.0 q) (found (Some t.1) (at_id homes q)) (at_id homes q))
          ∙ ap (λ b. cond b (found (Some t.1) (at_id homes q)) (at_id homes q)) (same-sym t.0 q ∙ is)
      here false is = ap (λ b. found (at_id touched q) (cond b (found (Some t.1) (at_id homes q)) (at_id homes q))) (same-sym t.0 q ∙ is)

-- what admission makes of a home
abbrev pub admitted_at : Option (Option Place) → Option Home → Option Home
admitted_at None home = home
admitted_at (Some None) home = home
admitted_at (Some (Some place)) home = Some (unwrap_or home (new_home place))

ordered-admitted_one : (homes : MapOf Home) (id : RecordId) (place : Option Place) → IsStrictlySortedBy id_cmp (keys_of homes) → IsStrictlySortedBy id_cmp (keys_of (admitted homes (id, place)))
ordered-admitted_one homes id None up = up
ordered-admitted_one homes id (Some place) up =
    elim (has_value homes id) as (λ b. IsStrictlySortedBy id_cmp (keys_of (cond b homes (insert_entry id_cmp homes id (new_home place))))) [ true ↦ up | false ↦ ordered-inserted homes id (new_home place) up ]

at-admitted_one : (homes : MapOf Home) (id : RecordId) (place : Option Place) (q : RecordId) → at_id (admitted homes (id, place)) q ≡ cond (same id q) (admitted_at (Some place) (at_id homes q)) (at_id homes q)
at-admitted_one homes id None q = elim (same id q) as (λ b. at_id homes q ≡ cond b (at_id homes q) (at_id homes q)) [ true ↦ refl | false ↦ refl ]
at-admitted_one homes id (Some place) q =
    elim (has_value homes id) as (λ b. has_value homes id ≡ b → at_id (cond b homes (insert_entry id_cmp homes id (new_home place))) q ≡ cond (same id q) (Some (unwrap_or (at_id homes q) (new_home place))) (at_id homes q)) [
      | true ↦ λ old. there (same id q) refl old
      | false ↦ λ new. at-inserted homes id (new_home place) q ∙ fresh (same id q) refl new
    ] refl
  where
    filled : (o : Option Home) → is_some o ≡ true → o ≡ Some (unwrap_or o (new_home place))
    filled (Some h) is = refl
    filled None is = cc

    there : (b : Bool) → same id q ≡ b → has_value homes id ≡ true → at_id homes q ≡ cond b (Some (unwrap_or (at_id homes q) (new_home place))) (at_id homes q)
    there true is old = filled (at_id homes q) (sym (ap (has_value homes) (one-id id q is)) ∙ old)
    there false is old = refl

    fresh : (b : Bool) → same id q ≡ b → has_value homes id ≡ false → cond b (Some (new_home place)) (at_id homes q) ≡ cond b (Some (unwrap_or (at_id homes q) (new_home place))) (at_id homes q)
    fresh true is new =
        ap (λ o. Some (unwrap_or o (new_home place))) (sym (none-from_test (at_id homes id) new) ∙ ap (at_id homes) (one-id id q is))
    fresh false is new = refl

pub ordered-admitted : (touched : MapOf (Option Place)) (homes : MapOf Home) → IsStrictlySortedBy id_cmp (keys_of homes) → IsStrictlySortedBy id_cmp (keys_of (fold admitted homes touched))
ordered-admitted = ordered-walked admitted admitted_at (λ home. refl) (λ homes t up. ordered-admitted_one homes t.0 t.1 up) (λ homes t q up. at-admitted_one homes t.0 t.1 q)

at-admitted : (touched : MapOf (Option Place)) (homes : MapOf Home) (q : RecordId) → IsStrictlySortedBy id_cmp (keys_of touched) → IsStrictlySortedBy id_cmp (keys_of homes)
    → at_id (fold admitted homes touched) q ≡ admitted_at (at_id touched q) (at_id homes q)
at-admitted = at-walked admitted admitted_at (λ home. refl) (λ homes t up. ordered-admitted_one homes t.0 t.1 up) (λ homes t q up. at-admitted_one homes t.0 t.1 q)

-- what a move makes of a home
abbrev pub moved_at : Option (Option Place) → Option Home → Option Home
moved_at None home = home
moved_at (Some None) home = None
moved_at (Some (Some place)) home = option_map (λ (h : Home). record { place = place; block = h.block }) home

ordered-moved_one : (homes : MapOf Home) (id : RecordId) (place : Option Place) → IsStrictlySortedBy id_cmp (keys_of homes) → IsStrictlySortedBy id_cmp (keys_of (moved homes (id, place)))
ordered-moved_one homes id (Some place) up = subst (IsStrictlySortedBy id_cmp) (sym (keys-changed id (λ (home : Home). record { place = place; block = home.block }) homes)) up
ordered-moved_one homes id None up = ordered-removed homes (same id) up

at-moved_one : (homes : MapOf Home) (id : RecordId) (place : Option Place) (q : RecordId) → IsStrictlySortedBy id_cmp (keys_of homes)
    → at_id (moved homes (id, place)) q ≡ cond (same id q) (moved_at (Some place) (at_id homes q)) (at_id homes q)
at-moved_one homes id (Some place) q up = at-changed homes id (λ (home : Home). record { place = place; block = home.block }) q
at-moved_one homes id None q up = at-removed homes id q up

pub ordered-moved : (touched : MapOf (Option Place)) (homes : MapOf Home) → IsStrictlySortedBy id_cmp (keys_of homes) → IsStrictlySortedBy id_cmp (keys_of (fold moved homes touched))
ordered-moved = ordered-walked moved moved_at (λ home. refl) (λ homes t up. ordered-moved_one homes t.0 t.1 up) (λ homes t q up. at-moved_one homes t.0 t.1 q up)

at-moved : (touched : MapOf (Option Place)) (homes : MapOf Home) (q : RecordId) → IsStrictlySortedBy id_cmp (keys_of touched) → IsStrictlySortedBy id_cmp (keys_of homes)
    → at_id (fold moved homes touched) q ≡ moved_at (at_id touched q) (at_id homes q)
at-moved = at-walked moved moved_at (λ home. refl) (λ homes t up. ordered-moved_one homes t.0 t.1 up) (λ homes t q up. at-moved_one homes t.0 t.1 q up)

-- ---- new ids are admitted, and the others are moved

-- a home that was added makes no later id an old one
others-after : (homes : MapOf Home) (t : RecordId × Option Place) (rest : MapOf (Option Place)) → AllByRecursion (λ id. id_cmp t.0 id ≡ Less) (keys_of rest)
    → others (admitted homes t) rest ≡ others homes rest
others-after homes t [] below = refl
others-after homes t (r ∷ rest) below =
    ap (λ b. cond {A = MapOf (Option Place)} (not b) (r ∷ others (admitted homes t) rest) (others (admitted homes t) rest)) (still r.0 r.1 below.0)
    ∙ ap (λ (rs : MapOf (Option Place)). cond {A = MapOf (Option Place)} (not (is_new homes r)) (r ∷ rs) rs) (others-after homes t rest below.1)
  where
    still : (id : RecordId) (place : Option Place) → id_cmp t.0 id ≡ Less → is_new (admitted homes t) (id, place) ≡ is_new homes (id, place)
    still id None less = refl
    still id (Some place) less =
        ap (λ o. not (is_some o)) (at-admitted_one homes t.0 t.1 id ∙ ap (λ r. cond (is_eq r) (admitted_at (Some t.1) (at_id homes id)) (at_id homes id)) less)

-- some of what was touched is admitted or listed, and the rest is to come
pub record LetsIn (start : MapOf Home) (touched : MapOf (Option Place)) (homes : MapOf Home) (listed rest : MapOf (Option Place)) : Type 0 where
  pub up : IsStrictlySortedBy id_cmp (keys_of rest)
  pub admits : fold admitted homes rest ≡ fold admitted start touched
  pub lists : listed ++ others homes rest ≡ others start touched

pub lets-begin : (start : MapOf Home) (touched listed : MapOf (Option Place)) → listed ≡ [] → IsStrictlySortedBy id_cmp (keys_of touched) → LetsIn start touched start listed touched
lets-begin start touched listed none up = record {
  up = up;
  admits = refl;
  lists = ap (λ (all : MapOf (Option Place)). all ++ others start touched) none;
}

module _ {start : MapOf Home} {touched : MapOf (Option Place)} {homes : MapOf Home} {listed rest : MapOf (Option Place)} (g : LetsIn start touched homes listed rest) where
  pub lets-next : (t : RecordId × Option Place) (rest' : MapOf (Option Place)) → rest ≡ t ∷ rest' → (homes' : MapOf Home) → homes' ≡ admitted homes t
      → (new : Bool) → new ≡ is_new homes t → (listed' : MapOf (Option Place)) → listed' ≡ cond new listed (listed ++ t ∷ []) → LetsIn start touched homes' listed' rest'
  unfolding IsStrictlySortedBy
  lets-next t rest' first homes' admits new is listed' lists =
      let up = subst (λ (all : MapOf (Option Place)). IsStrictlySortedBy id_cmp (keys_of all)) first g.up in
      record {
        up = up.1;
        admits = ap (λ all. fold admitted all rest') admits ∙ sym (ap (fold admitted homes) first) ∙ g.admits;
        lists = ap (λ (all : MapOf (Option Place)). all ++ others homes' rest') (lists ∙ ap (λ b. cond {A = MapOf (Option Place)} b listed (listed ++ t ∷ [])) is)
            ∙ ap (λ all. cond {A = MapOf (Option Place)} (is_new homes t) listed (listed ++ t ∷ []) ++ others all rest') admits
            ∙ ap (λ (more : MapOf (Option Place)). cond {A = MapOf (Option Place)} (is_new homes t) listed (listed ++ t ∷ []) ++ more) (others-after homes t rest' up.0)
            ∙ either (is_new homes t)
            ∙ sym (ap (λ (all : MapOf (Option Place)). listed ++ others homes all) first)
            ∙ g.lists;
      }
    where
      either : (b : Bool) → cond {A = MapOf (Option Place)} b listed (listed ++ t ∷ []) ++ others homes rest' ≡ listed ++ cond {A = MapOf (Option Place)} (not b) (t ∷ others homes rest') (others homes rest')
      either true = refl
      either false = append_assoc listed (t ∷ []) (others homes rest')

  module _ (past : rest ≡ []) where
    pub lets-admitted : homes ≡ fold admitted start touched
    lets-admitted = sym (ap (fold admitted homes) past) ∙ g.admits

    pub lets-listed : listed ≡ others start touched
    lets-listed = sym (append-nil listed) ∙ sym (ap (λ (all : MapOf (Option Place)). listed ++ others homes all) past) ∙ g.lists

-- what the install makes of a home before blocks are numbered
abbrev pub settled_at : Option (Option Place) → Option Home → Option Home
settled_at None home = home
settled_at (Some None) home = None
settled_at (Some (Some place)) home = Some (record { place = place; block = (unwrap_or home (new_home place)).block })

pub home-settled : (touched : MapOf (Option Place)) (homes : MapOf Home) (q : RecordId) → IsStrictlySortedBy id_cmp (keys_of touched) → IsStrictlySortedBy id_cmp (keys_of homes)
    → at_id (fold moved (fold admitted homes touched) (others homes touched)) q ≡ settled_at (at_id touched q) (at_id homes q)
home-settled touched homes q up up' =
    at-moved (others homes touched) (fold admitted homes touched) q (ordered-filtered (λ p. not (is_new homes p)) touched up) (ordered-admitted touched homes up')
    ∙ ap (moved_at (at_id (others homes touched) q)) (at-admitted touched homes q up up')
    ∙ ap (λ t. moved_at t (admitted_at (at_id touched q) (at_id homes q))) (at-filtered (λ p. not (is_new homes p)) touched q up)
    ∙ both (at_id touched q) (at_id homes q) refl
  where
    both : (t : Option (Option Place)) (o : Option Home) → at_id homes q ≡ o
        → moved_at (option_and_then (λ place. cond (not (is_new homes (q, place))) (Some place) None) t) (admitted_at t o) ≡ settled_at t o
    both None o is = refl
    both (Some None) o is = refl
    both (Some (Some place)) None is = ap (λ h. moved_at (cond (not (not (is_some h))) (Some (Some place)) None) (Some (new_home place))) is
    both (Some (Some place)) (Some home) is = ap (λ h. moved_at (cond (not (not (is_some h))) (Some (Some place)) None) (Some home)) is

-- ---- numbers of blocks

twice : (n : ℕ) (a b : Bool) (o : Option Home) → cond b (option_map (λ (h : Home). record { place = h.place; block = n }) (cond a (option_map (λ (h : Home). record { place = h.place; block = n }) o) o)) (cond a (option_map (λ (h : Home). record { place = h.place; block = n }) o) o)
    ≡ cond (a || b) (option_map (λ (h : Home). record { place = h.place; block = n }) o) o
twice n true true None = refl
twice n true true (Some h) = refl
twice n true false o = refl
twice n false b o = refl

pub at-housed : (number : ℕ) (ids : List RecordId) (homes : MapOf Home) (q : RecordId)
    → at_id (housed number homes ids) q ≡ cond (has id_cmp ids q) (option_map (λ (h : Home). record { place = h.place; block = number }) (at_id homes q)) (at_id homes q)
at-housed number [] homes q = refl
at-housed number (id ∷ ids) homes q =
    at-housed number ids (change_at id (λ (h : Home). record { place = h.place; block = number }) homes) q
    ∙ ap (λ o. cond (has id_cmp ids q) (option_map (λ (h : Home). record { place = h.place; block = number }) o) o)
    (at-changed homes id (λ (h : Home). record { place = h.place; block = number }) q
    ∙ ap (λ b. cond b (option_map (λ (h : Home). record { place = h.place; block = number }) (at_id homes q)) (at_id homes q)) (same-sym id q))
    ∙ twice number (same q id) (has id_cmp ids q) (at_id homes q)

pub ordered-housed : (number : ℕ) (ids : List RecordId) (homes : MapOf Home) → IsStrictlySortedBy id_cmp (keys_of homes) → IsStrictlySortedBy id_cmp (keys_of (housed number homes ids))
ordered-housed number [] homes up = up
ordered-housed number (id ∷ ids) homes up =
    ordered-housed number ids (change_at id (λ (h : Home). record { place = h.place; block = number }) homes)
    (subst (IsStrictlySortedBy id_cmp) (sym (keys-changed id (λ (h : Home). record { place = h.place; block = number }) homes)) up)
