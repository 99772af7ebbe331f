-- What the current records say follows the operations of a history.
use Rattle.std.proofs.Common.{◌≡◌, ℕ, ◌+◌, true, false, cond, List, [], ◌∷◌, ◌++◌, take, refl, sym, ap, subst, ◌∙◌}
use Rattle.std.specs.Prelude.{fold, Some, None, slice_get}
use Rattle.std.specs.List.Sorted.{IsStrictlySortedBy}
use Rattle.std.specs.Map.{keys_of, remove_entry}
use Rattle.std.specs.Option.{option_map}
use Rattle.std.proofs.lemmas.List.{take_more}
use Rattle.std.proofs.lemmas.List.Sums.{fold-append}
use Rattle.std.proofs.lemmas.Option.{slice_get_within, get_or_from_slice_get}
use Rattle.union_base.specs.declared.record_id.RecordId.{RecordId}
use Rattle.union_base.specs.RecordIds.{id_cmp}
use Rattle.std.specs.BTreeMap.{is_at, insert_entry}
use Rattle.record_homes.proofs.MapLaws.{same, one-id, at-inserted, at-removed, ordered-inserted, ordered-removed}
use Rattle.field_merge.specs.declared.content.Content.{Content}
use Rattle.catalogue_editions.specs.Ids.{least}
use Rattle.catalogue_editions.specs.declared.edition.Edition.{Edition}
use Rattle.catalogue_editions.specs.declared.history_entry.HistoryEntry.{HistoryEntry}
use Rattle.catalogue_editions.specs.declared.op.Op.{Op}
use Rattle.catalogue_editions.specs.declared.op.Op.TheVariants.{Load, Withdraw}
use Rattle.turn_plans.specs.Histories.{MapOf, at_id, after_op, after_batch, current}
use Rattle.catalogue_export.specs.declared.holding.Holding.{Holding}
use Rattle.catalogue_export.specs.HeldRecords.{held, AreHeld}

-- the ids stay in order
ordered-op : (library : List ℕ) (all : MapOf Edition) (op : Op) → IsStrictlySortedBy id_cmp (keys_of all) → IsStrictlySortedBy id_cmp (keys_of (after_op library all op))
ordered-op library all (Load e) up = ordered-inserted all _ e up
ordered-op library all (Withdraw number) up = ordered-removed all _ up

pub ordered-ops : (library : List ℕ) (all : MapOf Edition) (ops : List Op) → IsStrictlySortedBy id_cmp (keys_of all) → IsStrictlySortedBy id_cmp (keys_of (fold (after_op library) all ops))
ordered-ops library all [] up = up
ordered-ops library all (op ∷ ops) up = ordered-ops library (after_op library all op) ops (ordered-op library all op up)

-- what an edition says is put under its id
pub put-next : (holdings holdings' : MapOf Holding) (editions : MapOf Edition) (e : Edition)
    → ((q : RecordId) → at_id holdings' q ≡ cond (same (least e) q) (Some (held (least e) e)) (at_id holdings q))
    → AreHeld holdings editions → AreHeld holdings' (insert_entry id_cmp editions (least e) e)
put-next holdings holdings' editions e set h = record {
  found = λ q.
      set q
      ∙ elim (same (least e) q) as (λ b. same (least e) q ≡ b → cond b (Some (held (least e) e)) (at_id holdings q) ≡ option_map (held q) (cond b (Some e) (at_id editions q))) [
        | true ↦ λ here. ap (λ (id : RecordId). Some (held id e)) (one-id (least e) q here)
        | false ↦ λ other. h.found q
      ] refl
      ∙ ap (option_map (held q)) (sym (at-inserted editions (least e) e q));
}

-- what stands under an id is taken away
pub taken-next : (holdings holdings' : MapOf Holding) (editions : MapOf Edition) (id : RecordId)
    → ((q : RecordId) → at_id holdings' q ≡ cond (same id q) None (at_id holdings q)) → IsStrictlySortedBy id_cmp (keys_of editions)
    → AreHeld holdings editions → AreHeld holdings' (remove_entry (is_at (id_cmp id)) editions)
taken-next holdings holdings' editions id set up h = record {
  found = λ q.
      set q
      ∙ elim (same id q) as (λ b. cond b None (at_id holdings q) ≡ option_map (held q) (cond b None (at_id editions q))) [
        | true ↦ refl
        | false ↦ h.found q
      ]
      ∙ ap (option_map (held q)) (sym (at-removed editions id q up));
}

-- what a record says
abbrev told : RecordId → Content → Holding
told id content = record { library = id.library; content = content }

-- the same where the id, its copy and the content are told one by one
pub loaded-next : (holdings holdings' : MapOf Holding) (editions : MapOf Edition) (e : Edition) (id key : RecordId) (content : Content)
    → id ≡ least e → key ≡ id → content ≡ e.content
    → ((q : RecordId) → at_id holdings' q ≡ cond (same key q) (Some (record { library = id.library; content = content })) (at_id holdings q))
    → AreHeld holdings editions → AreHeld holdings' (insert_entry id_cmp editions (least e) e)
loaded-next holdings holdings' editions e id key content first copied says set h =
    put-next holdings holdings' editions e
    (λ q.
    set q
    ∙ ap (λ (k : RecordId). cond (same k q) (Some (told id content)) (at_id holdings q)) (copied ∙ first)
    ∙ ap (λ (i : RecordId). cond (same (least e) q) (Some (told i content)) (at_id holdings q)) first
    ∙ ap (λ (c : Content). cond (same (least e) q) (Some (told (least e) c)) (at_id holdings q)) says)
    h

pub withdrawn-next : (holdings holdings' : MapOf Holding) (editions : MapOf Edition) (library : List ℕ) (op : Op) (number copy : List ℕ) (key : RecordId)
    → op ≡ Withdraw number → copy ≡ number → key ≡ record { library = library; control = copy }
    → ((q : RecordId) → at_id holdings' q ≡ cond (same key q) None (at_id holdings q)) → IsStrictlySortedBy id_cmp (keys_of editions)
    → AreHeld holdings editions → AreHeld holdings' (after_op library editions op)
withdrawn-next holdings holdings' editions library op number copy key is copied named set up h =
    subst (λ (o : Op). AreHeld holdings' (after_op library editions o)) (sym is)
    (taken-next holdings holdings' editions (record { library = library; control = number })
    (λ q.
    set q
    ∙ ap (λ (k : RecordId). cond (same k q) None (at_id holdings q)) named
    ∙ ap (λ (n : List ℕ). cond (same (record { library = library; control = n }) q) None (at_id holdings q)) copied)
    up h)

-- nothing is found where nothing was loaded
pub none-loaded : (holdings : MapOf Holding) → holdings ≡ [] → AreHeld holdings []
none-loaded holdings none = subst (λ (hs : MapOf Holding). AreHeld hs []) (sym none) (record { found = λ id. refl })

-- one more of a list
fold-more : {X A : Type 0} (f : A → X → A) (start : A) (xs : List X) (place : ℕ) (x : X) → slice_get xs place ≡ Some x
    → fold f start (take (place + 1) xs) ≡ f (fold f start (take place xs)) x
fold-more f start xs place x at =
    ap (fold f start) (take_more xs place x (slice_get_within xs place x at) ∙ ap (λ y. take place xs ++ y ∷ []) (get_or_from_slice_get xs place x x at))
    ∙ fold-append f start (take place xs) (x ∷ [])

-- what they say follows one operation more of a batch
pub ops-next : (library : List ℕ) (ops : List Op) (at : ℕ) (op : Op) (holdings : MapOf Holding) (editions : MapOf Edition) → slice_get ops at ≡ Some op
    → AreHeld holdings (after_op library (fold (after_op library) editions (take at ops)) op)
    → AreHeld holdings (fold (after_op library) editions (take (at + 1) ops))
ops-next library ops at op holdings editions there h = subst (AreHeld holdings) (sym (fold-more (after_op library) editions ops at op there)) h

-- what they say follows one turn more
pub turn-next : (history : List HistoryEntry) (turn : ℕ) (entry : HistoryEntry) (holdings : MapOf Holding) → slice_get history turn ≡ Some entry
    → AreHeld holdings (after_batch (current (take turn history)) entry.batch) → AreHeld holdings (current (take (turn + 1) history))
turn-next history turn entry holdings at h =
    subst (AreHeld holdings) (sym (fold-more (λ (all : MapOf Edition) (e : HistoryEntry). after_batch all e.batch) [] history turn entry at)) h
