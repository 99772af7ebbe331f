-- The records that a batch names.
use Rattle.std.proofs.Common.{◌≡◌, ℕ, suc, ◌+◌, ◌<◌, ◌≤◌, Bool, true, false, cond, ◌||◌, List, [], ◌∷◌, ◌++◌, length, Contains, get_or, drop, refl, sym, ap, subst, ◌∙◌, add-one, inl, inr, arith}
use Rattle.std.proofs.Math.ListN.{drop_of_length-le}
use Rattle.std.proofs.Math.Seq.{drop-cons}
use Rattle.std.specs.Prelude.{Option, Some, None, is_some, fold}
use Rattle.std.specs.List.{list_any}
use Rattle.std.proofs.lemmas.List.Elements.{Contains-append_left, Contains-append_right, Contains-append_cases}
use Rattle.std.specs.List.Sorted.{IsStrictlySortedBy}
use Rattle.std.specs.Map.{remove_entry, keys_of, values_of}
use Rattle.union_base.specs.declared.record_id.RecordId.{RecordId}
use Rattle.union_base.specs.RecordIds.{id_cmp}
use Rattle.merge_laws.specs.Resolution.{IsResolution}
use Rattle.merge_laws.proofs.InsertingAll.{resolved-by_members}
use Rattle.merge_laws.proofs.Resolutions.{IsResolution-append}
use Rattle.swoosh_resolver.specs.Changes.{Fits, view_of}
use Rattle.turn_plans.specs.Histories.{MapOf, at_id, id_of, is_current, after_op, after_batch, outcome_of, outcomes}
use Rattle.turn_plans.specs.Homes.{Block}
use Rattle.catalogue_editions.specs.Ids.{least}
use Rattle.catalogue_editions.specs.Joining.{join}
use Rattle.catalogue_editions.specs.JoinLaws.{edition_join_laws}
use Rattle.turn_plans.specs.Keeping.{loaded}
use Rattle.catalogue_editions.specs.Matching.{match}
use Rattle.catalogue_editions.specs.MatchLaws.{edition_match_laws}
use Rattle.catalogue_editions.specs.Net.{net}
use Rattle.turn_plans.specs.Plans.{IsPlanned}
use Rattle.turn_plans.specs.Touches.{IsTouched}
use Rattle.turn_plans.specs.PreparedReaches.{leaves, without_named, without_all, IsReachOfLeaving}
use Rattle.turn_plans.specs.Reaches.{IsReachOfWithdrawal}
use Rattle.catalogue_editions.specs.declared.batch.Batch.{Batch}
use Rattle.catalogue_editions.specs.declared.edition.Edition.{Edition}
use Rattle.record_homes.specs.declared.home.Home.{Home}
use Rattle.catalogue_editions.specs.declared.op.Op.{Op}
use Rattle.catalogue_editions.specs.declared.op.Op.TheVariants.{Load, Withdraw}
use Rattle.catalogue_editions.specs.declared.outcome.Outcome.TheVariants.{Added, Replaced, Removed, Absent}
use Rattle.record_homes.specs.declared.place.Place.{Place}
use Rattle.record_homes.proofs.HomeLaws.{none-from_test, removed-absent}
use Rattle.record_homes.proofs.MapLaws.{same, one-id, at-inserted, at-removed, ordered-inserted, ordered-removed, id-of_value, value-of_id}

pub plan-unnamed : {all : List Batch} {homes : MapOf Home} {blocks : List (Option Block)} {now : MapOf Edition} {closed : List ℕ} {opened : List Block} {touched : MapOf (Option Place)}
    (p : IsPlanned all homes blocks now closed opened touched) (id : RecordId) → is_current now id ≡ false
    → IsPlanned all homes blocks (remove_entry (same id) now) closed opened touched
plan-unnamed {all} {homes} {blocks} {now} {closed} {opened} {touched} p id gone =
    subst (λ editions. IsPlanned all homes blocks editions closed opened touched) (sym (removed-absent now id (none-from_test (at_id now id) gone))) p

-- the records that some of the operations name are withdrawn, and the others are to come
pub record LeavesOn (all : List Batch) (homes : MapOf Home) (blocks : List (Option Block)) (library : List ℕ) (ops : List Op) (start : MapOf Edition) (closed : List ℕ) (opened : List Block) (touched : MapOf (Option Place)) (i begun steps : ℕ) : Type 0 where
  pub now : MapOf Edition
  pub planned : IsPlanned all homes blocks now closed opened touched
  pub left : without_all library now (drop i ops) ≡ without_all library start ops
  pub paid : (number : ℕ) → IsReachOfLeaving library start ops number → (rest : ℕ) × IsReachOfLeaving library now (drop i ops) rest × (steps + rest ≤ begun + number)

pub leaves-begin : (all : List Batch) (homes : MapOf Home) (blocks : List (Option Block)) (library : List ℕ) (ops : List Op) (start : MapOf Edition) (closed : List ℕ) (opened : List Block) (touched : MapOf (Option Place)) (begun : ℕ)
    → IsPlanned all homes blocks start closed opened touched → LeavesOn all homes blocks library ops start closed opened touched 0 begun begun
leaves-begin all homes blocks library ops start closed opened touched begun p = record {
  now = start;
  planned = p;
  left = refl;
  paid = λ number r. (number, r, omega arith);
}

module _ {all : List Batch} {homes : MapOf Home} {blocks : List (Option Block)} {library : List ℕ} {ops : List Op} {start : MapOf Edition} {closed : List ℕ} {opened : List Block} {touched : MapOf (Option Place)} {i begun steps : ℕ} (g : LeavesOn all homes blocks library ops start closed opened touched i begun steps) where
  module _ (op : Op) (id : RecordId) (named : id ≡ id_of library op) (below : i < length ops) (is : op ≡ get_or ops i op) (steps' : ℕ)
      (free : (now : MapOf Edition) → IsPlanned all homes blocks now closed opened touched → is_current now id ≡ false → steps' ≤ steps)
      (cost : (now : MapOf Edition) (number : ℕ) → IsPlanned all homes blocks now closed opened touched → is_current now id ≡ true → IsReachOfWithdrawal (values_of now) id number → steps' ≤ steps + number) where
    next-is : drop i ops ≡ op ∷ drop (suc i) ops
    next-is = drop-cons ops i op below ∙ ap (λ (x : Op). x ∷ drop (suc i) ops) (sym is)

    paid-next : (number : ℕ) → IsReachOfLeaving library start ops number → (rest : ℕ) × IsReachOfLeaving library (without_named library g.now op) (drop (suc i) ops) rest × (steps' + rest ≤ begun + number)
    paid-next number r =
        let (rest, reach, le) = g.paid number r in
        elim (subst (λ (xs : List Op). IsReachOfLeaving library g.now xs rest) next-is reach) [
          | inl none ↦
              (let gone : is_current g.now id ≡ false = ap (is_current g.now) named ∙ none.0 in
              let spent = free g.now g.planned gone in (
                rest,
                subst (λ (editions : MapOf Edition). IsReachOfLeaving library editions (drop (suc i) ops) rest) (sym (removed-absent g.now (id_of library op) (none-from_test (at_id g.now (id_of library op)) none.0))) none.1,
                omega arith,
              ))
          | inr there ↦
              (let (first, then', one, more, sum) = there.1 in
              let stands : is_current g.now id ≡ true = ap (is_current g.now) named ∙ there.0 in
              let spent = cost g.now first g.planned stands (subst (λ (key : RecordId). IsReachOfWithdrawal (values_of g.now) key first) (sym named) one) in
              (then', more, omega arith))
        ]

    pub leaves-paid : (number : ℕ) → IsReachOfLeaving library start ops number → steps' ≤ begun + number
    leaves-paid number r = let (rest, reach, le) = paid-next number r in omega arith

    pub leaves-next : (closed' : List ℕ) (opened' : List Block) (touched' : MapOf (Option Place))
        → ((now : MapOf Edition) → IsPlanned all homes blocks now closed opened touched → IsPlanned all homes blocks (remove_entry (same id) now) closed' opened' touched')
        → LeavesOn all homes blocks library ops start closed' opened' touched' (i + 1) begun steps'
    leaves-next closed' opened' touched' plans = rw add-one (record {
      now = without_named library g.now op;
      planned = subst (λ (key : RecordId). IsPlanned all homes blocks (remove_entry (same key) g.now) closed' opened' touched') named (plans g.now g.planned);
      left = sym (ap (without_all library g.now) next-is) ∙ g.left;
      paid = paid-next;
    })

  module _ (past : length ops ≤ i) where
    none-left : drop i ops ≡ []
    none-left = drop_of_length-le ops past

    pub leaves-all : IsPlanned all homes blocks (without_all library start ops) closed opened touched
    leaves-all = subst (λ now. IsPlanned all homes blocks now closed opened touched) (sym (ap (without_all library g.now) none-left) ∙ g.left) g.planned

    pub leaves-paid_all : (number : ℕ) → IsReachOfLeaving library start ops number → steps ≤ begun + number
    leaves-paid_all number r = let (rest, reach, le) = g.paid number r in omega arith

-- ---- what a batch leaves, told by its records

-- whether one of the operations names the id
abbrev pub is_named : List ℕ → List Op → RecordId → Bool
is_named library ops q = list_any (λ op. same (id_of library op) q) ops

ordered-op : (library : List ℕ) (all : MapOf Edition) (op : Op) → IsStrictlySortedBy id_cmp (keys_of all) → IsStrictlySortedBy id_cmp (keys_of (after_op library all op))
ordered-op library all (Load e) up = ordered-inserted all (least e) e up
ordered-op library all (Withdraw control) up = ordered-removed all (same (record { library = library; control = control })) up

pub ordered-ops : (library : List ℕ) (all : MapOf Edition) (ops : List Op) → IsStrictlySortedBy id_cmp (keys_of all) → IsStrictlySortedBy id_cmp (keys_of (fold (after_op library) all ops))
ordered-ops library all [] up = up
ordered-ops library all (op ∷ ops) up = ordered-ops library (after_op library all op) ops (ordered-op library all op up)

op-at : (library : List ℕ) (all : MapOf Edition) (op : Op) (q : RecordId) → IsStrictlySortedBy id_cmp (keys_of all)
    → at_id (after_op library all op) q ≡ cond (same (id_of library op) q) (loaded op) (at_id all q)
op-at library all (Load e) q up = at-inserted all (least e) e q
op-at library all (Withdraw control) q up = at-removed all (record { library = library; control = control }) q up

none_of : (a b : Bool) → (a || b) ≡ false → (a ≡ false) × (b ≡ false)
none_of true b h = cc
none_of false b h = (refl, h)

-- operations leave what they do not name
unnamed-at : (library : List ℕ) (all : MapOf Edition) (ops : List Op) (q : RecordId) → IsStrictlySortedBy id_cmp (keys_of all) → is_named library ops q ≡ false
    → at_id (fold (after_op library) all ops) q ≡ at_id all q
unnamed-at library all [] q up none = refl
unnamed-at library all (op ∷ ops) q up none =
    let (other, later) = none_of (same (id_of library op) q) (is_named library ops q) none in
    unnamed-at library (after_op library all op) ops q (ordered-op library all op up) later
    ∙ op-at library all op q up ∙ ap (λ t. cond t (loaded op) (at_id all q)) other

-- what they find under an id does not depend on the others
agreeing-at : (library : List ℕ) (all other : MapOf Edition) (ops : List Op) (q : RecordId) → IsStrictlySortedBy id_cmp (keys_of all) → IsStrictlySortedBy id_cmp (keys_of other)
    → at_id all q ≡ at_id other q → at_id (fold (after_op library) all ops) q ≡ at_id (fold (after_op library) other ops) q
agreeing-at library all other [] q up up' agree = agree
agreeing-at library all other (op ∷ ops) q up up' agree =
    agreeing-at library (after_op library all op) (after_op library other op) ops q (ordered-op library all op up) (ordered-op library other op up')
    (op-at library all op q up ∙ ap (cond (same (id_of library op) q) (loaded op)) agree ∙ sym (op-at library other op q up'))

-- what they name they leave as over any records
named-at : (library : List ℕ) (all other : MapOf Edition) (ops : List Op) (q : RecordId) → IsStrictlySortedBy id_cmp (keys_of all) → IsStrictlySortedBy id_cmp (keys_of other)
    → is_named library ops q ≡ true → at_id (fold (after_op library) all ops) q ≡ at_id (fold (after_op library) other ops) q
named-at library all other [] q up up' is = cc
named-at library all other (op ∷ ops) q up up' is =
    elim (same (id_of library op) q) as (λ t. same (id_of library op) q ≡ t → (t || is_named library ops q) ≡ true
    → at_id (fold (after_op library) (after_op library all op) ops) q ≡ at_id (fold (after_op library) (after_op library other op) ops) q) [
      | true ↦ λ here _. agreeing-at library (after_op library all op) (after_op library other op) ops q (ordered-op library all op up) (ordered-op library other op up')
          (op-at library all op q up ∙ ap (λ t. cond t (loaded op) (at_id all q)) here ∙ sym (op-at library other op q up' ∙ ap (λ t. cond t (loaded op) (at_id other q)) here))
      | false ↦ λ _ later. named-at library (after_op library all op) (after_op library other op) ops q (ordered-op library all op up) (ordered-op library other op up') later
    ] refl is

-- what is left without all that is named
rest-at : (library : List ℕ) (all : MapOf Edition) (ops : List Op) (q : RecordId) → IsStrictlySortedBy id_cmp (keys_of all)
    → at_id (without_all library all ops) q ≡ cond (is_named library ops q) None (at_id all q)
rest-at library all [] q up = refl
rest-at library all (op ∷ ops) q up =
    rest-at library (without_named library all op) ops q (ordered-removed all (same (id_of library op)) up)
    ∙ ap (cond (is_named library ops q) None) (at-removed all (id_of library op) q up)
    ∙ both (same (id_of library op) q) (is_named library ops q) (at_id all q)
  where
    both : (a b : Bool) (o : Option Edition) → cond b None (cond a None o) ≡ cond (a || b) None o
    both true true o = refl
    both true false o = refl
    both false b o = refl

ordered-rest : (library : List ℕ) (all : MapOf Edition) (ops : List Op) → IsStrictlySortedBy id_cmp (keys_of all) → IsStrictlySortedBy id_cmp (keys_of (without_all library all ops))
ordered-rest library all [] up = up
ordered-rest library all (op ∷ ops) up = ordered-rest library (without_named library all op) ops (ordered-removed all (same (id_of library op)) up)

-- a record leaves by an operation exactly where it is current
leaves-current : (library : List ℕ) (all : MapOf Edition) (op : Op) → leaves (outcome_of library all op) ≡ is_current all (id_of library op)
leaves-current library all (Load e) = elim (is_current all (least e)) as (λ b. leaves (cond b Replaced Added) ≡ b) [ true ↦ refl | false ↦ refl ]
leaves-current library all (Withdraw control) =
    elim (is_current all (record { library = library; control = control })) as (λ b. leaves (cond b Removed Absent) ≡ b) [ true ↦ refl | false ↦ refl ]

-- if no record leaves by operations over some records, the operations name none of these, and none of some of these
pub none-leaves : (library : List ℕ) (all more : MapOf Edition) (ops : List Op) → IsStrictlySortedBy id_cmp (keys_of more) → ((q : RecordId) → is_current all q ≡ true → is_current more q ≡ true)
    → list_any leaves (outcomes library more ops) ≡ false → without_all library all ops ≡ all
none-leaves library all more [] up within none = refl
none-leaves library all more (op ∷ ops) up within none =
    let (stays, later) = none_of (leaves (outcome_of library more op)) (list_any leaves (outcomes library (after_op library more op) ops)) none in
    let new : is_current more (id_of library op) ≡ false = sym (leaves-current library more op) ∙ stays in
    let gone : is_current all (id_of library op) ≡ false = absent (is_current all (id_of library op)) (λ is. sym (within (id_of library op) is) ∙ new) in
    ap (λ rest. without_all library rest ops) (removed-absent all (id_of library op) (none-from_test (at_id all (id_of library op)) gone))
    ∙ none-leaves library all (after_op library more op) ops (ordered-op library more op up)
    (λ q is. ap is_some (op-at library more op q up)
    ∙ elim (same (id_of library op) q) as (λ b. same (id_of library op) q ≡ b → is_some (cond b (loaded op) (at_id more q)) ≡ true) [
      | true ↦ λ here. (let clash : true ≡ false = sym is ∙ sym (ap (is_current all) (one-id (id_of library op) q here)) ∙ gone in cc)
      | false ↦ λ _. within q is
    ] refl) later
  where
    absent : (b : Bool) → (b ≡ true → true ≡ false) → b ≡ false
    absent true never = never refl
    absent false never = refl

-- the records after a batch are those that it does not name and those that it leaves of its loads
module _ (start : MapOf Edition) (batch : Batch) (up : IsStrictlySortedBy id_cmp (keys_of start)) where
  nothing : IsStrictlySortedBy id_cmp (keys_of {X = Edition} [])
  unfolding IsStrictlySortedBy
  nothing = tt

  abbrev rest : MapOf Edition
  rest = without_all batch.library start batch.ops

  pub there : (x : Edition) → Contains (values_of (after_batch start batch)) x → Contains (values_of rest ++ net batch) x
  there x c =
      let (id, at) = id-of_value (after_batch start batch) x (ordered-ops batch.library start batch.ops up) c in
      elim (is_named batch.library batch.ops id) as (λ t. is_named batch.library batch.ops id ≡ t → Contains (values_of rest ++ net batch) x) [
        | true ↦ λ is. Contains-append_right (values_of rest) (net batch) x
            (value-of_id (after_batch [] batch) id x (sym (named-at batch.library start [] batch.ops id up nothing is) ∙ at))
        | false ↦ λ is. Contains-append_left (values_of rest) (net batch) x
            (value-of_id rest id x (rest-at batch.library start batch.ops id up ∙ ap (λ t. cond t None (at_id start id)) is ∙ sym (unnamed-at batch.library start batch.ops id up is) ∙ at))
      ] refl

  pub back : (x : Edition) → Contains (values_of rest ++ net batch) x → Contains (values_of (after_batch start batch)) x
  back x c = elim (Contains-append_cases (values_of rest) (net batch) x c) [
    | inl old ↦
        (let (id, at) = id-of_value rest x (ordered-rest batch.library start batch.ops up) old in
        elim (is_named batch.library batch.ops id) as (λ t. is_named batch.library batch.ops id ≡ t → cond t None (at_id start id) ≡ Some x → Contains (values_of (after_batch start batch)) x) [
          | true ↦ λ is none. cc
          | false ↦ λ is stood. value-of_id (after_batch start batch) id x (unnamed-at batch.library start batch.ops id up is ∙ stood)
        ] refl (sym (rest-at batch.library start batch.ops id up) ∙ at))
    | inr new ↦
        (let (id, at) = id-of_value (after_batch [] batch) x (ordered-ops batch.library [] batch.ops nothing) new in
        elim (is_named batch.library batch.ops id) as (λ t. is_named batch.library batch.ops id ≡ t → Contains (values_of (after_batch start batch)) x) [
          | true ↦ λ is. value-of_id (after_batch start batch) id x (named-at batch.library start [] batch.ops id up nothing is ∙ at)
          | false ↦ λ is. (let none : None ≡ Some x = sym (unnamed-at batch.library [] batch.ops id nothing is) ∙ at in cc)
        ] refl)
  ]

  -- so a plan without what is named, and with what the loads come to, is a plan of the turn
  pub parts-planned : {all : List Batch} {homes : MapOf Home} {blocks : List (Option Block)} {closed : List ℕ} {opened : List Block} {touched : MapOf (Option Place)}
      (p : IsPlanned all homes blocks rest closed opened touched) (parts : List Edition) (closed' : List ℕ) (opened' : List Block) (touched' : MapOf (Option Place))
      → IsTouched all homes (after_batch start batch) touched' → Fits match blocks closed' opened' → IsResolution match join (net batch) parts
      → IsResolution match join (view_of blocks closed opened ++ parts) (view_of blocks closed' opened')
      → IsPlanned all homes blocks (after_batch start batch) closed' opened' touched'
  parts-planned {all} {homes} {blocks} {closed} {opened} {touched} p parts closed' opened' touched' t fits own r = record {
    stands = t.stands;
    ordered = t.ordered;
    single = t.single;
    touches = t.touches;
    fits = fits;
    resolved = resolved-by_members edition_join_laws edition_match_laws (values_of (after_batch start batch)) (values_of rest ++ net batch) (view_of blocks closed' opened') there back
        (IsResolution-append edition_join_laws edition_match_laws (values_of rest) (net batch) (view_of blocks closed opened) parts (view_of blocks closed' opened') p.resolved own r);
  }
