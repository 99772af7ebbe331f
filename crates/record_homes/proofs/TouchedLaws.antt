-- Ids in ascending order: one that is above all goes to the end, and what a search by halves finds.
use Rattle.std.proofs.Common.{◌≡◌, ℕ, zero, suc, ◌+◌, ◌-◌, ◌<◌, true, cond, IsTrue, [], ◌∷◌, ◌++◌, length, get_or, refl, sym, ap, subst, ◌∙◌, arith, append_assoc}
use Rattle.std.specs.Prelude.{Option, Some, None, ◌↔◌, slice_get}
use Rattle.std.specs.declared.cmp.Ordering.{Ordering}
use Rattle.std.specs.declared.cmp.Ordering.TheVariants.{Less, Equal, Greater}
use Rattle.std.specs.Ordering.{is_eq, is_lt, is_gt, match_ordering, ordering_reverse, ordering_index}
use Rattle.std.specs.Cmp.{eq_by_cmp_equiv}
use Rattle.std.specs.List.Sorted.{IsStrictlySortedBy, IsSortedBy, IsNonDecreasingBy, IsPartitionPoint}
use Rattle.std.specs.BTreeMap.{insert_entry}
use Rattle.std.specs.Map.{keys_of}
use Rattle.std.proofs.lemmas.List.Sorted.{searchable_from_sorted}
use Rattle.std.proofs.lemmas.Map.Entries.{lookup_from_place, lookup_at_gap}
use Rattle.std.proofs.lemmas.Map.Keys.{IsDistinct-from_sorted}
use Rattle.std.proofs.lemmas.Option.{get_or_from_slice_get, slice_get-get_or, slice_get_within}
use Rattle.union_base.specs.declared.record_id.RecordId.{RecordId}
use Rattle.union_base.specs.IdLaws.{ids_apart}
use Rattle.union_base.specs.RecordIds.{id_cmp}
use Rattle.field_merge.specs.KeptLaws.{id_total}
use Rattle.record_homes.specs.Maps.{MapOf, at_id}
use Rattle.record_homes.specs.declared.place.Place.{Place}
use Rattle.record_homes.proofs.MapLaws.{ordered-inserted}
use Rattle.record_homes.specs.TouchedIds.{IsAbove}

greater : (r : Ordering) → is_gt r ≡ true → r ≡ Greater
greater Less h = cc
greater Equal h = cc
greater Greater h = refl

-- two ids the other way round
turned : (a b : RecordId) → id_cmp a b ≡ Less → id_cmp b a ≡ Greater
turned a b less = id_total.antisymm b a ∙ ap ordering_reverse less

turned-back : (a b : RecordId) → id_cmp a b ≡ Greater → id_cmp b a ≡ Less
turned-back a b more = id_total.antisymm b a ∙ ap ordering_reverse more

-- what is above an id is above what that is above
above-too : (a b c : RecordId) → id_cmp a b ≡ Greater → id_cmp b c ≡ Greater → id_cmp a c ≡ Greater
above-too a b c ab bc = turned c a (id_total.trans c b a (turned-back b c bc) (turned-back a b ab))

-- ---- an id above all

-- no ids are in order
pub ordered-none : (es : MapOf (Option Place)) → es ≡ [] → IsStrictlySortedBy id_cmp (keys_of es)
unfolding IsStrictlySortedBy
ordered-none es none = subst (λ (all : MapOf (Option Place)). IsStrictlySortedBy id_cmp (keys_of all)) (sym none) tt

-- it goes to the end
pub insert-last : (id : RecordId) (place : Option Place) (es : MapOf (Option Place)) → IsAbove id es → insert_entry id_cmp es id place ≡ es ++ (id, place) ∷ []
insert-last id place [] above = refl
insert-last id place (e ∷ es) above =
    ap (λ r. match_ordering r ((id, place) ∷ e ∷ es) ((e.0, place) ∷ es) (e ∷ insert_entry id_cmp es id place)) above.0
    ∙ ap (λ (rest : MapOf (Option Place)). e ∷ rest) (insert-last id place es above.1)

-- and the ids stay in order
pub ordered-last : (id : RecordId) (place : Option Place) (es es' : MapOf (Option Place)) → IsStrictlySortedBy id_cmp (keys_of es) → IsAbove id es
    → es' ≡ es ++ (id, place) ∷ [] → IsStrictlySortedBy id_cmp (keys_of es')
ordered-last id place es es' up above pushed =
    subst (λ (all : MapOf (Option Place)). IsStrictlySortedBy id_cmp (keys_of all)) (insert-last id place es above ∙ sym pushed) (ordered-inserted es id place up)

-- nothing stands under it
pub none-above : (id : RecordId) (es : MapOf (Option Place)) → IsAbove id es → None ≡ at_id es id
none-above id [] above = refl
none-above id (e ∷ es) above = none-above id es above.1 ∙ sym (ap (λ r. cond (is_eq r) (Some e.1) (at_id es id)) above.0)

-- it is above all just if it is above the last one
pub above-last : (id : RecordId) (es : MapOf (Option Place)) (last : RecordId × Option Place) → IsStrictlySortedBy id_cmp (keys_of es)
    → slice_get es (length es - 1) ≡ Some last → IsTrue (is_gt (id_cmp id last.0)) ↔ IsAbove id es
unfolding IsStrictlySortedBy
above-last id [] last up is = cc
above-last id (e ∷ []) last up is =
    let same : e ≡ last = cc in (
      λ h. (ap (λ (x : RecordId × Option Place). id_cmp id x.0) same ∙ greater (id_cmp id last.0) h, tt),
      λ h. ap is_gt (ap (λ (x : RecordId × Option Place). id_cmp id x.0) (sym same) ∙ h.0),
    )
above-last id (e ∷ f ∷ es) last up is =
    let step : length (e ∷ f ∷ es) - 1 ≡ suc (length (f ∷ es) - 1) = omega arith in
    let rest = above-last id (f ∷ es) last up.1 (sym (ap (slice_get (e ∷ f ∷ es)) step) ∙ is) in (
      λ h. let above = rest.0 h in (above-too id f.0 e.0 above.0 (turned e.0 f.0 up.0.0), above),
      λ h. rest.1 h.1,
    )

-- an id among others in order is above those before it
pub above-before : (xs : MapOf (Option Place)) (id : RecordId) (place : Option Place) (rest : MapOf (Option Place))
    → IsStrictlySortedBy id_cmp (keys_of (xs ++ (id, place) ∷ rest)) → IsAbove id xs
unfolding IsStrictlySortedBy
above-before [] id place rest up = tt
above-before (x ∷ []) id place rest up = (turned x.0 id up.0.0, tt)
above-before (x ∷ y ∷ xs) id place rest up =
    let above = above-before (y ∷ xs) id place rest up.1 in
    (above-too id y.0 x.0 above.0 (turned x.0 y.0 up.0.0), above)

-- ---- a search by halves

-- each id is below the next
in-order : (es : MapOf (Option Place)) → IsStrictlySortedBy id_cmp (keys_of es) → IsSortedBy (λ (a b : RecordId × Option Place). is_lt (id_cmp a.0 b.0)) es
unfolding IsStrictlySortedBy
in-order [] up k d le lt = absurd (omega arith)
in-order (x ∷ []) up k d le lt = absurd (omega arith)
in-order (x ∷ y ∷ es) up zero d le lt = ap is_lt (turned x.0 y.0 up.0.0)
in-order (x ∷ y ∷ es) up (suc k) d le lt =
    let step : suc k + 1 ≡ suc (k + 1) = omega arith in
    ap (λ n. is_lt (id_cmp (get_or (x ∷ y ∷ es) n d).0 (get_or (y ∷ es) k d).0)) step ∙ in-order (y ∷ es) up.1 k d (omega arith) (omega arith)

-- where it ends at an equal id
pub found-by_halves : (id : RecordId) (es : MapOf (Option Place)) (at : ℕ) (d : RecordId × Option Place) → IsStrictlySortedBy id_cmp (keys_of es)
    → at < length es → id_cmp (get_or es at d).0 id ≡ Equal → Some (get_or es at d).1 ≡ at_id es id
found-by_halves id es at d up below tie =
    let e = get_or es at d in
    sym (lookup_from_place (eq_by_cmp_equiv id_total) es at e.0 e.1 (IsDistinct-from_sorted id_cmp (keys_of es) up) (slice_get-get_or es at d below))
    ∙ ap (at_id es) (ids_apart e.0 id tie)

-- where it ends at a gap
pub missed-by_halves : (id : RecordId) (es : MapOf (Option Place)) (at : ℕ) → IsStrictlySortedBy id_cmp (keys_of es)
    → (IsNonDecreasingBy (λ (y : RecordId × Option Place). ordering_index (id_cmp y.0 id)) es
    → IsPartitionPoint (λ (y : RecordId × Option Place). id_cmp y.0 id ≡ Less) (λ (y : RecordId × Option Place). id_cmp y.0 id ≡ Greater) es at)
    → None ≡ at_id es id
missed-by_halves id es at up parts =
    let point = parts (searchable_from_sorted id_total (λ (y : RecordId × Option Place). y.0) es id (in-order es up)) in
    sym (lookup_at_gap id_total id es at up
    (λ j e below is. turned e.0 id (ap (λ (x : RecordId × Option Place). id_cmp x.0 id) (sym (get_or_from_slice_get es j e e is)) ∙ point.0 j e (omega arith) below))
    (λ e is. turned-back e.0 id (ap (λ (x : RecordId × Option Place). id_cmp x.0 id) (sym (get_or_from_slice_get es at e e is)) ∙ point.1 at e (omega arith) (slice_get_within es at e is))))

-- ---- from the list to a tree

-- some of the ids are in the tree, and the rest are to come
pub record Grows (es tree rest : MapOf (Option Place)) : Type 0 where
  pub up : IsStrictlySortedBy id_cmp (keys_of es)
  pub whole : tree ++ rest ≡ es

pub grows-next : {es tree rest : MapOf (Option Place)} → Grows es tree rest → (id : RecordId) (place : Option Place) (rest' tree' : MapOf (Option Place))
    → rest ≡ (id, place) ∷ rest' → tree' ≡ insert_entry id_cmp tree id place → Grows es tree' rest'
grows-next {es} {tree} {rest} g id place rest' tree' first inserted =
    let whole = ap (λ (xs : MapOf (Option Place)). tree ++ xs) (sym first) ∙ g.whole in
    let above = above-before tree id place rest' (subst (λ (xs : MapOf (Option Place)). IsStrictlySortedBy id_cmp (keys_of xs)) (sym whole) g.up) in
    record {
      up = g.up;
      whole = ap (λ (xs : MapOf (Option Place)). xs ++ rest') (inserted ∙ insert-last id place tree above) ∙ append_assoc tree ((id, place) ∷ []) rest' ∙ whole;
    }
