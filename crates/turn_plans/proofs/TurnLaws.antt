-- The operations of a turn, planned one after the other.
use Rattle.std.proofs.Common.{◌≡◌, ℕ, zero, suc, ◌+◌, ◌<◌, ◌≤◌, Bool, true, List, [], ◌∷◌, ◌++◌, length, get_or, drop, refl, sym, ap, subst, ◌∙◌, add-one, append_assoc, arith}
use Rattle.std.specs.Prelude.{fold, Option, Some, slice_get}
use Rattle.std.specs.Option.{option_map, option_and_then}
use Rattle.std.specs.List.{list_all}
use Rattle.std.specs.List.Sorted.{IsStrictlySortedBy}
use Rattle.std.specs.BTreeMap.{is_at}
use Rattle.std.specs.Map.{lookup, keys_of}
use Rattle.std.proofs.Math.ListN.{drop_of_length-le}
use Rattle.std.proofs.Math.Seq.{drop-cons}
use Rattle.std.proofs.lemmas.List.{append-nil}
use Rattle.std.proofs.lemmas.Option.{slice_get_read}
use Rattle.union_base.specs.Both.{both_true}
use Rattle.union_base.specs.declared.record_id.RecordId.{RecordId}
use Rattle.merge_laws.specs.Resolution.{IsResolution}
use Rattle.union_base.specs.RecordIds.{id_cmp}
use Rattle.swoosh_resolver.specs.Changes.{Fits, view_of}
use Rattle.swoosh_resolver.specs.Tables.{blocks_in, values_of}
use Rattle.catalogue_editions.specs.Batches.{is_own_op}
use Rattle.turn_plans.specs.Histories.{MapOf, at_id, after_op, after_batch, bases, current, outcome_of, outcomes}
use Rattle.turn_plans.specs.Homes.{Block, places_in}
use Rattle.record_homes.specs.Moves.{place_of}
use Rattle.catalogue_editions.specs.Joining.{join}
use Rattle.turn_plans.specs.Keeping.{batches, loaded, loaded_at, StandFor}
use Rattle.catalogue_editions.specs.Matching.{match}
use Rattle.turn_plans.specs.Plans.{IsPlanned}
use Rattle.turn_plans.specs.Reaches.{IsReachOf, IsReachOfOp}
use Rattle.catalogue_editions.specs.declared.batch.Batch.{Batch}
use Rattle.catalogue_editions.specs.declared.edition.Edition.{Edition}
use Rattle.catalogue_editions.specs.declared.history_entry.HistoryEntry.{HistoryEntry}
use Rattle.record_homes.specs.declared.home.Home.{Home}
use Rattle.catalogue_editions.specs.declared.op.Op.{Op}
use Rattle.catalogue_editions.specs.declared.op.Op.TheVariants.{Load, Withdraw}
use Rattle.catalogue_editions.specs.declared.outcome.Outcome.{Outcome}
use Rattle.record_homes.specs.declared.place.Place.{Place}
use Rattle.turn_plans.proofs.Contributors.{single-turns}
use Rattle.record_homes.proofs.MapLaws.{ordered-inserted, ordered-removed}
use Rattle.turn_plans.proofs.Placing.{lookup-values, batch-last, length-batches, stand-grown}

-- ---- the ids of a history are in order

ordered-op : (library : List ℕ) (all : MapOf Edition) (op : Op) → IsStrictlySortedBy id_cmp (keys_of all) → IsStrictlySortedBy id_cmp (keys_of (after_op library all op))
ordered-op library all (Load e) up = ordered-inserted all _ e up
ordered-op library all (Withdraw control) up = ordered-removed all _ up

ordered-ops : (library : List ℕ) (all : MapOf Edition) (ops : List Op) → IsStrictlySortedBy id_cmp (keys_of all) → IsStrictlySortedBy id_cmp (keys_of (fold (after_op library) all ops))
ordered-ops library all [] up = up
ordered-ops library all (op ∷ ops) up = ordered-ops library (after_op library all op) ops (ordered-op library all op up)

ordered-turns : (all : MapOf Edition) (history : List HistoryEntry) → IsStrictlySortedBy id_cmp (keys_of all) → IsStrictlySortedBy id_cmp (keys_of (fold (λ all entry. after_batch all entry.batch) all history))
ordered-turns all [] up = up
ordered-turns all (turn ∷ history) up = ordered-turns (after_batch all turn.batch) history (ordered-ops turn.batch.library all turn.batch.ops up)

ordered-none : (X : Type 0) → IsStrictlySortedBy id_cmp (keys_of {X = X} [])
unfolding IsStrictlySortedBy
ordered-none X = tt

pub ordered-current : (history : List HistoryEntry) → IsStrictlySortedBy id_cmp (keys_of (current history))
ordered-current history = ordered-turns [] history (ordered-none Edition)

-- ---- what a plan begins with

-- each current record is found at its home
pub found-home : (all : List Batch) (homes : MapOf Home) (editions : MapOf Edition) → StandFor all (places_in homes) editions → (id : RecordId)
    → option_map (loaded_at all) (option_map (λ home. home.place) (at_id homes id)) ≡ option_map Some (at_id editions id)
found-home all homes editions s id =
    ap (option_map (loaded_at all)) (sym (lookup-values (λ (home : Home). home.place) homes (is_at (id_cmp id))))
    ∙ sym (lookup-values (loaded_at all) (places_in homes) (is_at (id_cmp id)))
    ∙ ap (lookup (is_at (id_cmp id))) s.loads ∙ lookup-values Some editions (is_at (id_cmp id))

pub plan-begins : (history : List HistoryEntry) (batch : Batch) (homes : MapOf Home) (blocks : List (Option Block)) (closed : List ℕ) (opened : List Block) (touched : MapOf (Option Place))
    → closed ≡ [] → opened ≡ [] → touched ≡ [] → StandFor (batches history) (places_in homes) (current history) → IsResolution match join (bases history) (values_of (blocks_in blocks))
    → Fits match blocks closed opened → IsPlanned (batches history ++ batch ∷ []) homes blocks (current history) closed opened touched
plan-begins history batch homes blocks closed opened touched none none' none'' s r fits = record {
  stands = λ id.
      ap (λ (pairs : MapOf (Option Place)). option_map (loaded_at (batches history ++ batch ∷ [])) (place_of homes pairs id)) none''
      ∙ found-home (batches history ++ batch ∷ []) homes (current history) (stand-grown (batches history) (batch ∷ []) (places_in homes) (places_in homes) (current history) refl s) id;
  ordered = ordered-current history;
  single = single-turns [] history tt;
  touches = subst (λ (pairs : MapOf (Option Place)). IsStrictlySortedBy id_cmp (keys_of pairs)) (sym none'') (ordered-none (Option Place));
  fits = fits;
  resolved = subst (IsResolution match join (bases history)) (sym (ap (λ numbers. view_of blocks numbers opened) none ∙ ap (λ (more : List Block). values_of (blocks_in blocks ++ more)) none' ∙ ap values_of (append-nil (blocks_in blocks)))) r;
}

-- ---- the operations, one by one

pub record PlansOn (all : List Batch) (homes : MapOf Home) (blocks : List (Option Block)) (library : List ℕ) (ops : List Op) (start : MapOf Edition) (closed : List ℕ) (opened : List Block) (touched : MapOf (Option Place)) (found : List Outcome) (i begun steps : ℕ) : Type 0 where
  pub now : MapOf Edition
  pub planned : IsPlanned all homes blocks now closed opened touched
  pub left : fold (after_op library) now (drop i ops) ≡ fold (after_op library) start ops
  pub answers : found ++ outcomes library now (drop i ops) ≡ outcomes library start ops
  pub paid : (number : ℕ) → IsReachOf library start ops number → (rest : ℕ) × IsReachOf library now (drop i ops) rest × (steps + rest ≤ begun + number)

pub plans-begin : (all : List Batch) (homes : MapOf Home) (blocks : List (Option Block)) (library : List ℕ) (ops : List Op) (start : MapOf Edition) (closed : List ℕ) (opened : List Block) (touched : MapOf (Option Place)) (found : List Outcome) (begun : ℕ)
    → IsPlanned all homes blocks start closed opened touched → found ≡ [] → PlansOn all homes blocks library ops start closed opened touched found 0 begun begun
plans-begin all homes blocks library ops start closed opened touched found begun p none = record {
  now = start;
  planned = p;
  left = refl;
  answers = ap (λ xs. xs ++ outcomes library start ops) none;
  paid = λ number r. (number, r, omega arith);
}

module _ {all : List Batch} {homes : MapOf Home} {blocks : List (Option Block)} {library : List ℕ} {ops : List Op} {start : MapOf Edition} {closed : List ℕ} {opened : List Block} {touched : MapOf (Option Place)} {found : List Outcome} {i begun steps : ℕ} (g : PlansOn all homes blocks library ops start closed opened touched found i begun steps) where
  -- what the next operation costs
  module _ (op : Op) (below : i < length ops) (is : op ≡ get_or ops i op) (steps' : ℕ) (cost : (now : MapOf Edition) (number : ℕ) → IsPlanned all homes blocks now closed opened touched → IsReachOfOp library now op number → steps' ≤ steps + number) where
    next-is : drop i ops ≡ op ∷ drop (suc i) ops
    next-is = drop-cons ops i op below ∙ ap (λ (x : Op). x ∷ drop (suc i) ops) (sym is)

    paid-next : (number : ℕ) → IsReachOf library start ops number → (rest : ℕ) × IsReachOf library (after_op library g.now op) (drop (suc i) ops) rest × (steps' + rest ≤ begun + number)
    paid-next number r =
        let (rest, reach, le) = g.paid number r in
        let (first, then', one, more, sum) = subst (λ (xs : List Op). IsReachOf library g.now xs rest) next-is reach in
        let spent = cost g.now first g.planned one in
        (then', more, omega arith)

    pub plans-paid : (number : ℕ) → IsReachOf library start ops number → steps' ≤ begun + number
    plans-paid number r = let (rest, reach, le) = paid-next number r in omega arith

    pub plans-next : (closed' : List ℕ) (opened' : List Block) (touched' : MapOf (Option Place))
        → ((now : MapOf Edition) → IsPlanned all homes blocks now closed opened touched → IsPlanned all homes blocks (after_op library now op) closed' opened' touched')
        → (outcome : Outcome) → ((now : MapOf Edition) → IsPlanned all homes blocks now closed opened touched → outcome ≡ outcome_of library now op)
        → (found' : List Outcome) → found' ≡ found ++ outcome ∷ []
        → PlansOn all homes blocks library ops start closed' opened' touched' found' (i + 1) begun steps'
    plans-next closed' opened' touched' plans outcome came found' pushed = rw add-one (record {
      now = after_op library g.now op;
      planned = plans g.now g.planned;
      left = sym (ap (fold (after_op library) g.now) next-is) ∙ g.left;
      answers = ap (λ xs. xs ++ outcomes library (after_op library g.now op) (drop (suc i) ops)) pushed
          ∙ append_assoc found (outcome ∷ []) (outcomes library (after_op library g.now op) (drop (suc i) ops))
          ∙ ap (λ (o : Outcome). found ++ o ∷ outcomes library (after_op library g.now op) (drop (suc i) ops)) (came g.now g.planned)
          ∙ sym (ap (λ xs. found ++ outcomes library g.now xs) next-is)
          ∙ g.answers;
      paid = paid-next;
    })

  module _ (past : length ops ≤ i) where
    none-left : drop i ops ≡ []
    none-left = drop_of_length-le ops past

    pub plans-all : IsPlanned all homes blocks (fold (after_op library) start ops) closed opened touched
    plans-all = subst (λ now. IsPlanned all homes blocks now closed opened touched) (sym (ap (fold (after_op library) g.now) none-left) ∙ g.left) g.planned

    pub answers-all : found ≡ outcomes library start ops
    answers-all = sym (append-nil found) ∙ sym (ap (λ xs. found ++ outcomes library g.now xs) none-left) ∙ g.answers

    pub paid-all : (number : ℕ) → IsReachOf library start ops number → steps ≤ begun + number
    paid-all number r = let (rest, reach, le) = g.paid number r in omega arith

-- ---- an operation of a batch

pub op-loads : (history : List HistoryEntry) (batch : Batch) (i : ℕ) (op : Op) (turn : ℕ) → turn ≡ length history → i < length batch.ops → op ≡ get_or batch.ops i op
    → loaded_at (batches history ++ batch ∷ []) (record { turn = turn; op = i }) ≡ loaded op
op-loads history batch i op turn last below is =
    ap (option_and_then (λ (b : Batch). option_and_then loaded (slice_get b.ops i)))
    (ap (slice_get (batches history ++ batch ∷ [])) (last ∙ sym (length-batches history)) ∙ batch-last (batches history) batch)
    ∙ ap (option_and_then loaded) (slice_get_read batch.ops (length batch.ops) i op refl below is)

all-at : {A : Type 0} (p : A → Bool) (xs : List A) (i : ℕ) (x : A) → list_all p xs ≡ true → i < length xs → p (get_or xs i x) ≡ true
all-at p [] i x h below = absurd (omega arith)
all-at p (y ∷ xs) zero x h below = (both_true (p y) (list_all p xs) h).0
all-at p (y ∷ xs) (suc i) x h below = all-at p xs i x (both_true (p y) (list_all p xs) h).1 (omega arith)

pub op-own : (batch : Batch) (i : ℕ) (op : Op) → i < length batch.ops → op ≡ get_or batch.ops i op → is_own_op batch.library op ≡ true
op-own batch i op below is =
    ap (is_own_op batch.library) is ∙ all-at (is_own_op batch.library) batch.ops i op (both_true _ (list_all (is_own_op batch.library) batch.ops) batch.fits).1 below
