-- What holds of the entries of a table: what they have at a heading, and what stays where one is put in.
use Rattle.std.proofs.Common.{◌≡◌, ◌==◌, ℕ, zero, suc, ◌+◌, ◌<◌, ◌≤◌, Bool, true, false, cond, if◌then◌else◌, List, [], ◌∷◌, map, length, slice_get, nat_eq, ◌++◌, true≢false, refl, sym, ap, subst, ◌∙◌, inl, inr, is_some, unwrap_or, get_or, arith}
use Rattle.std.specs.Prelude.{◌⊎◌, Option, None, Some, not, filter, count_by}
use Rattle.std.specs.Cmp.Lexicographic.{pointwise, nat_list_eq_equiv, nat_list_cmp_total, texts_ties, slice_cmp}
use Rattle.std.specs.FinMap.{get, find, get-from_entries}
use Rattle.std.specs.List.{AllByRecursion, IsDistinct, position_or_len}
use Rattle.std.specs.Map.{keys_of, lookup}
use Rattle.std.specs.Option.{option_and_then, option_map}
use Rattle.std.specs.Ordering.{nat_cmp}
use Rattle.std.proofs.lemmas.Option.{slice_get_within, slice_get-get_or, get_or_from_slice_get}
use Rattle.std.proofs.lemmas.Map.Entries.{length-keys_of, lookup-filter-values, option_filter}
use Rattle.std.proofs.lemmas.Map.Views.{Contains-keys_from_lookup, IsSome-lookup_from_Contains}
use Rattle.std.proofs.lemmas.List.Sums.{length-filter}
use Rattle.std.proofs.lemmas.Map.Keys.{apart_from_distinct, IsDistinct-cons, IsDistinct-head, IsDistinct-tail}
use Rattle.indexmap.specs.IndexMap.{insert_entry}
use Rattle.authority_names.specs.declared.leads.Lead.{Lead}
use Rattle.authority_names.specs.declared.leads.Lead.TheVariants.{Nowhere, To}
use Rattle.authority_names.specs.Names.{is_same, IsSize}
use Rattle.authority_names.specs.Leads.{joined_lead, led_from, seen_from}
use Rattle.authority_names.specs.Places.{heading_at, leads, table_of, IsPlace, HasPlaces, joined_place}
use Rattle.authority_names.proofs.NameLaws.{itself, same}

abbrev pub Entries : Type 0
Entries = List (List ℕ × Lead)

-- what the entries have at a heading
abbrev pub entry_at : Entries → List ℕ → Option Lead
entry_at entries x = lookup (pointwise nat_eq x) entries

find_mapped : (f : Lead → Option (List ℕ)) (entries : Entries) (x : List ℕ)
    → find (slice_cmp nat_cmp) x (map (λ e. (e.0, f e.1)) entries) ≡ option_map f (entry_at entries x)
find_mapped f [] x = refl
find_mapped f (e ∷ es) x =
    ap (λ b. cond b (Some (f e.1)) (find (slice_cmp nat_cmp) x (map (λ d. (d.0, f d.1)) es))) (sym (texts_ties x e.0))
    ∙ elim (pointwise nat_eq x e.0) as (λ b. cond b (Some (f e.1)) (find (slice_cmp nat_cmp) x (map (λ d. (d.0, f d.1)) es)) ≡ option_map f (cond b (Some e.1) (entry_at es x))) [
      | true ↦ refl
      | false ↦ find_mapped f es x
    ]

pub at_heading : (entries : Entries) (x : List ℕ) → get (table_of entries) x ≡ option_map (heading_at (keys_of entries)) (entry_at entries x)
at_heading entries x =
    get-from_entries nat_list_cmp_total (map (λ e. (e.0, heading_at (keys_of entries) e.1)) entries) x
    ∙ find_mapped (heading_at (keys_of entries)) entries x

-- a heading that the entries do not have goes last
pub insert-fresh : (entries : Entries) (k : List ℕ) (v : Lead) → entry_at entries k ≡ None → insert_entry (pointwise nat_eq) entries k v ≡ entries ++ (k, v) ∷ []
insert-fresh [] k v none = refl
insert-fresh (e ∷ es) k v none =
    elim (pointwise nat_eq k e.0) as (λ b. cond b (Some e.1) (entry_at es k) ≡ None → (if b then (e.0, v) ∷ es else e ∷ insert_entry (pointwise nat_eq) es k v) ≡ e ∷ (es ++ (k, v) ∷ [])) [
      | true ↦ λ is. absurd (true≢false (ap is_some is))
      | false ↦ λ is. ap (λ (rest : Entries). e ∷ rest) (insert-fresh es k v is)
    ] none

-- a heading keeps its place where one is put in
pub kept_place : (entries : Entries) (k : List ℕ) (v : Lead) (i : ℕ) (t : List ℕ)
    → slice_get (keys_of entries) i ≡ Some t → slice_get (keys_of (insert_entry (pointwise nat_eq) entries k v)) i ≡ Some t
kept_place [] k v i t h = cc
kept_place (e ∷ es) k v zero t h =
    elim (pointwise nat_eq k e.0) as (λ b. slice_get (keys_of (if b then (e.0, v) ∷ es else e ∷ insert_entry (pointwise nat_eq) es k v)) 0 ≡ Some t) [ true ↦ h | false ↦ h ]
kept_place (e ∷ es) k v (suc i) t h =
    elim (pointwise nat_eq k e.0) as (λ b. slice_get (keys_of (if b then (e.0, v) ∷ es else e ∷ insert_entry (pointwise nat_eq) es k v)) (suc i) ≡ Some t) [
      | true ↦ h
      | false ↦ kept_place es k v i t h
    ]

-- the heading that is put in has the place that the call answers
pub new_place : (entries : Entries) (k : List ℕ) (v : Lead)
    → slice_get (keys_of (insert_entry (pointwise nat_eq) entries k v)) (position_or_len (pointwise nat_eq k) (keys_of entries)) ≡ Some k
new_place [] k v = refl
new_place (e ∷ es) k v = by (pointwise nat_eq k e.0) refl (new_place es k v)
  where
    by : (b : Bool) → pointwise nat_eq k e.0 ≡ b
        → slice_get (keys_of (insert_entry (pointwise nat_eq) es k v)) (position_or_len (pointwise nat_eq k) (keys_of es)) ≡ Some k
        → slice_get (keys_of (if pointwise nat_eq k e.0 then (e.0, v) ∷ es else e ∷ insert_entry (pointwise nat_eq) es k v))
        (position_or_len (pointwise nat_eq k) (e.0 ∷ keys_of es)) ≡ Some k
    by true h rest =
        (λ i. slice_get (keys_of (if h i then (e.0, v) ∷ es else e ∷ insert_entry (pointwise nat_eq) es k v)) (cond (not (h i)) (1 + position_or_len (pointwise nat_eq k) (keys_of es)) 0))
        ∙ ap Some (sym (same k e.0 h))
    by false h rest =
        let one : 1 + position_or_len (pointwise nat_eq k) (keys_of es) ≡ suc (position_or_len (pointwise nat_eq k) (keys_of es)) = omega arith in
        (λ i. slice_get (keys_of (if h i then (e.0, v) ∷ es else e ∷ insert_entry (pointwise nat_eq) es k v)) (cond (not (h i)) (1 + position_or_len (pointwise nat_eq k) (keys_of es)) 0))
        ∙ ap (slice_get (e.0 ∷ keys_of (insert_entry (pointwise nat_eq) es k v))) one
        ∙ rest

pub has_heading : (entries : Entries) (i : ℕ) → i < length entries → (t : List ℕ) × (slice_get (keys_of entries) i ≡ Some t)
has_heading entries i h =
    let size = length-keys_of entries in
    (get_or (keys_of entries) i [], slice_get-get_or (keys_of entries) i [] (omega arith))

-- the entries after one was put in
module _ (old new : Entries) (k : List ℕ) (w : Lead)
    (entries : new ≡ insert_entry (pointwise nat_eq) old k w)
    (at : (x : List ℕ) → entry_at new x ≡ cond (pointwise nat_eq k x) (Some w) (entry_at old x))
    (longer : length old ≤ length new)
    (places : HasPlaces old) where
  pub kept : (i : ℕ) (t : List ℕ) → slice_get (keys_of old) i ≡ Some t → slice_get (keys_of new) i ≡ Some t
  kept i t h = subst (λ es. slice_get (keys_of es) i ≡ Some t) (sym entries) (kept_place old k w i t h)

  kept_lead : (lead : Lead) → IsPlace (length old) lead → heading_at (keys_of new) lead ≡ heading_at (keys_of old) lead
  kept_lead Nowhere p = refl
  kept_lead (To i) p = let (t, h) = has_heading old i p in kept i t h ∙ sym h

  pub mapped : (x : List ℕ) (o : Option Lead) → entry_at old x ≡ o → option_map (heading_at (keys_of new)) o ≡ option_map (heading_at (keys_of old)) o
  mapped x None e = refl
  mapped x (Some lead) e = ap Some (kept_lead lead (places x lead e))

  -- the table has at the heading what was put in, and at all others what it had
  pub table_after : (x : List ℕ) → get (table_of new) x ≡ (if is_same k x then Some (heading_at (keys_of new) w) else get (table_of old) x)
  table_after x =
      at_heading new x ∙ ap (option_map (heading_at (keys_of new))) (at x)
      ∙ elim (pointwise nat_eq k x) as (λ b. option_map (heading_at (keys_of new)) (cond b (Some w) (entry_at old x)) ≡ (if b then Some (heading_at (keys_of new) w) else get (table_of old) x)) [
        | true ↦ refl
        | false ↦ mapped x (entry_at old x) refl ∙ sym (at_heading old x)
      ]

  more_places : (lead : Lead) → IsPlace (length old) lead → IsPlace (length new) lead
  more_places Nowhere p = tt
  more_places (To i) p = omega arith

  pub places_after : IsPlace (length new) w → HasPlaces new
  places_after p x lead h = by (pointwise nat_eq k x) refl
    where
      by : (b : Bool) → pointwise nat_eq k x ≡ b → IsPlace (length new) lead
      by true e =
          let is : Some w ≡ Some lead = sym (at x ∙ ap (λ b. cond b (Some w) (entry_at old x)) e) ∙ h in
          let one : w ≡ lead = cc in
          subst (IsPlace (length new)) one p
      by false e =
          let is : entry_at old x ≡ Some lead = sym (at x ∙ ap (λ b. cond b (Some w) (entry_at old x)) e) ∙ h in
          more_places lead (places x lead is)

-- two places of different headings
module _ (keys : List (List ℕ)) (distinct : IsDistinct (pointwise nat_eq) keys) where
  apart : (i j : ℕ) (t u : List ℕ) → slice_get keys i ≡ Some t → slice_get keys j ≡ Some u → i < j → is_same t u ≡ false
  apart i j t u p q less =
      let there = slice_get_within keys j u q in
      sym (λ n. is_same (get_or_from_slice_get keys i t [] p n) (get_or_from_slice_get keys j u [] q n))
      ∙ apart_from_distinct (pointwise nat_eq) keys i j [] distinct less there

  pub other_heading : (i j : ℕ) (t u : List ℕ) → slice_get keys i ≡ Some t → slice_get keys j ≡ Some u → (i == j) ≡ false → is_same t u ≡ false
  other_heading i j t u p q ne =
      elim (which i j ne) [
        | inl less ↦ apart i j t u p q less
        | inr more ↦ nat_list_eq_equiv.symm t u ∙ apart j i u t q p more
      ]
    where
      which : (a b : ℕ) → (a == b) ≡ false → (a < b) ⊎ (b < a)
      which a b h = grind arith

  same_place : (a b : ℕ) → (a == b) ≡ true → a ≡ b
  same_place a b h = grind arith

  -- a heading leads to the one at the place too: what the entries have is what the table has
  pub joined_at : (known : Option Lead) (place : ℕ) (t : List ℕ) → slice_get keys place ≡ Some t
      → ((i : ℕ) → known ≡ Some (To i) → (u : List ℕ) × (slice_get keys i ≡ Some u))
      → heading_at keys (joined_place known place) ≡ joined_lead (option_map (heading_at keys) known) t
  joined_at None place t h there = h
  joined_at (Some Nowhere) place t h there = refl
  joined_at (Some (To i)) place t h there = by (i == place) refl (there i refl)
    where
      by : (b : Bool) → (i == place) ≡ b → (u : List ℕ) × (slice_get keys i ≡ Some u)
          → heading_at keys (if i == place then To place else Nowhere) ≡ joined_lead (Some (slice_get keys i)) t
      by true e (u, g) =
          let one : i ≡ place = same_place i place e in
          let is : Some u ≡ Some t = sym g ∙ ap (slice_get keys) one ∙ h in
          let text : u ≡ t = cc in
          (λ n. heading_at keys (if e n then To place else Nowhere)) ∙ h
          ∙ sym (ap Some text) ∙ sym (λ n. if (ap (λ v. is_same u v) (sym text) ∙ itself u) n then Some u else None)
          ∙ ap (λ o. joined_lead (Some o) t) (sym g)
      by false e (u, g) =
          (λ n. heading_at keys (if e n then To place else Nowhere))
          ∙ sym (ap (λ b. if b then Some u else None) (other_heading i place u t g h e))
          ∙ ap (λ o. joined_lead (Some o) t) (sym g)

-- a heading leads to the one at the place too
pub place_joined : (known : Option Lead) (place count : ℕ) → place < count → IsPlace count (joined_place known place)
place_joined None place count h = h
place_joined (Some Nowhere) place count h = tt
place_joined (Some (To i)) place count h = elim (i == place) as (λ b. IsPlace count (if b then To place else Nowhere)) [ true ↦ h | false ↦ tt ]

pub longer : (a b c : ℕ) → a ≡ b + c → b ≤ a
longer a b c h = omega arith

module _ (old new : Entries) (k : List ℕ) (w : Lead)
    (entries : new ≡ insert_entry (pointwise nat_eq) old k w)
    (at : (x : List ℕ) → entry_at new x ≡ cond (pointwise nat_eq k x) (Some w) (entry_at old x))
    (long : length old ≤ length new)
    (places : HasPlaces old)
    (distinct : IsDistinct (pointwise nat_eq) (keys_of new))
    (place : ℕ)
    (is : w ≡ joined_place (entry_at old k) place) where
  there : (i : ℕ) → entry_at old k ≡ Some (To i) → (u : List ℕ) × (slice_get (keys_of new) i ≡ Some u)
  there i e = let (u, h) = has_heading old i (places k (To i) e) in (u, kept old new k w entries at long places i u h)

  put : (t : List ℕ) → slice_get (keys_of old) place ≡ Some t → heading_at (keys_of new) w ≡ joined_lead (get (table_of old) k) t
  put t h =
      ap (heading_at (keys_of new)) is
      ∙ joined_at (keys_of new) distinct (entry_at old k) place t (kept old new k w entries at long places place t h) there
      ∙ ap (λ o. joined_lead o t) (mapped old new k w entries at long places k (entry_at old k) refl ∙ sym (at_heading old k))

  pub led_after : (t : List ℕ) → slice_get (keys_of old) place ≡ Some t → (x : List ℕ)
      → get (table_of new) x ≡ (if is_same k x then Some (joined_lead (get (table_of old) x) t) else get (table_of old) x)
  led_after t h x = table_after old new k w entries at long places x ∙ by (is_same k x) refl
    where
      by : (b : Bool) → is_same k x ≡ b
          → (if is_same k x then Some (heading_at (keys_of new) w) else get (table_of old) x) ≡ (if is_same k x then Some (joined_lead (get (table_of old) x) t) else get (table_of old) x)
      by true e =
          ap (λ b. if b then Some (heading_at (keys_of new) w) else get (table_of old) x) e
          ∙ ap Some (put t h ∙ ap (λ y. joined_lead (get (table_of old) y) t) (same k x e))
          ∙ sym (ap (λ b. if b then Some (joined_lead (get (table_of old) x) t) else get (table_of old) x) e)
      by false e =
          ap (λ b. if b then Some (heading_at (keys_of new) w) else get (table_of old) x) e
          ∙ sym (ap (λ b. if b then Some (joined_lead (get (table_of old) x) t) else get (table_of old) x) e)

-- what is seen from a heading, by what the entries have there
pub seen_place : (entries : Entries) (x : List ℕ) (i : ℕ) (t : List ℕ) → entry_at entries x ≡ Some (To i) → slice_get (keys_of entries) i ≡ Some t
    → seen_from (table_of entries) x ≡ t
seen_place entries x i t e h =
    ap (λ o. unwrap_or (option_and_then (λ lead. lead) o) []) (at_heading entries x ∙ ap (option_map (heading_at (keys_of entries))) e)
    ∙ ap (λ o. unwrap_or o []) h

pub seen_nowhere : (entries : Entries) (x : List ℕ) → entry_at entries x ≡ Some Nowhere → seen_from (table_of entries) x ≡ []
seen_nowhere entries x e = ap (λ o. unwrap_or (option_and_then (λ lead. lead) o) []) (at_heading entries x ∙ ap (option_map (heading_at (keys_of entries))) e)

pub seen_unknown : (entries : Entries) (x : List ℕ) → entry_at entries x ≡ None → seen_from (table_of entries) x ≡ []
seen_unknown entries x e = ap (λ o. unwrap_or (option_and_then (λ lead. lead) o) []) (at_heading entries x ∙ ap (option_map (heading_at (keys_of entries))) e)

-- how many headings lead to another
abbrev pub leading : Entries → Entries
leading entries = filter (λ e. leads e.1) entries

apart_filtered : (k : List ℕ) (es : Entries) → AllByRecursion (λ y. pointwise nat_eq k y ≡ false) (keys_of es)
    → AllByRecursion (λ y. pointwise nat_eq k y ≡ false) (keys_of (leading es))
apart_filtered k [] h = h
apart_filtered k (e ∷ es) h =
    let rest = apart_filtered k es h.1 in
    elim (leads e.1) as (λ b. AllByRecursion (λ y. pointwise nat_eq k y ≡ false) (keys_of (if b then e ∷ leading es else leading es))) [ true ↦ (h.0, rest) | false ↦ rest ]

distinct_filtered : (es : Entries) → IsDistinct (pointwise nat_eq) (keys_of es) → IsDistinct (pointwise nat_eq) (keys_of (leading es))
distinct_filtered [] d = d
distinct_filtered (e ∷ es) d =
    let rest = distinct_filtered es (IsDistinct-tail (pointwise nat_eq) e.0 (keys_of es) d) in
    elim (leads e.1) as (λ b. IsDistinct (pointwise nat_eq) (keys_of (if b then e ∷ leading es else leading es))) [
      | true ↦ IsDistinct-cons (pointwise nat_eq) e.0 (keys_of (leading es)) (apart_filtered e.0 es (IsDistinct-head (pointwise nat_eq) e.0 (keys_of es) d)) rest
      | false ↦ rest
    ]

module _ (entries : Entries) (places : HasPlaces entries) (distinct : IsDistinct (pointwise nat_eq) (keys_of entries)) where
  led_or_not : (x : List ℕ) (o : Option Lead) → entry_at entries x ≡ o
      → is_some (option_filter leads o) ≡ is_some (option_and_then (λ lead. lead) (option_map (heading_at (keys_of entries)) o))
  led_or_not x None e = refl
  led_or_not x (Some Nowhere) e = refl
  led_or_not x (Some (To i)) e = let (t, h) = has_heading entries i (places x (To i) e) in sym (ap is_some h)

  same_answer : (x : List ℕ) → is_some (entry_at (leading entries) x) ≡ is_some (led_from (table_of entries) x)
  same_answer x =
      ap is_some (lookup-filter-values nat_list_eq_equiv leads x entries distinct)
      ∙ led_or_not x (entry_at entries x) refl
      ∙ sym (ap (λ o. is_some (option_and_then (λ lead. lead) o)) (at_heading entries x))

  pub table_size : IsSize (led_from (table_of entries)) (count_by (λ e. leads e.1) entries)
  table_size = record {
    headings = keys_of (leading entries);
    distinct = distinct_filtered entries distinct;
    exact = λ x. (
      λ there. sym (same_answer x) ∙ IsSome-lookup_from_Contains nat_list_eq_equiv x (leading entries) there,
      λ some. Contains-keys_from_lookup same x (leading entries) (same_answer x ∙ some),
    );
    counted = length-keys_of (leading entries) ∙ length-filter (λ e. leads e.1) entries;
  }

-- two tables that have the same have one size
pub same_size : (table other : List ℕ → Option (List ℕ)) → ((x : List ℕ) → table x ≡ other x) → (size : ℕ) → IsSize table size → IsSize other size
same_size table other is size h = record {
  headings = h.headings;
  distinct = h.distinct;
  exact = λ x. (λ there. ap is_some (sym (is x)) ∙ (h.exact x).0 there, λ some. (h.exact x).1 (ap is_some (is x) ∙ some));
  counted = h.counted;
}
