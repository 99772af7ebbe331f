-- Which ids the editions of current records, and what these resolve to, have as contributors.
use Rattle.std.proofs.Common.{◌≡◌, ℕ, Bool, true, false, cond, ◌||◌, ◌↔◌, IsTrue, List, [], ◌∷◌, Contains, refl, sym, ap, subst, ◌∙◌, inl, inr, arith}
use Rattle.std.specs.Prelude.{◌⊎◌, fold, Option, Some, None, is_some}
use Rattle.std.specs.Option.{option_map, option_and_then, option_flatten}
use Rattle.std.specs.List.{list_all, list_any}
use Rattle.std.specs.declared.cmp.Ordering.TheVariants.{Less, Equal, Greater}
use Rattle.std.specs.Ordering.{match_ordering, is_eq}
use Rattle.std.specs.BTreeMap.{is_at, insert_entry}
use Rattle.std.specs.Map.{lookup, remove_entry, values_of}
use Rattle.std.specs.Cmp.{both_ways}
use Rattle.union_base.specs.Both.{both_true}
use Rattle.union_base.specs.SortedLists.{has}
use Rattle.union_base.specs.IdLaws.{ids_apart}
use Rattle.union_base.proofs.SortedListLaws.{has-union}
use Rattle.union_base.specs.declared.record_id.RecordId.{RecordId}
use Rattle.merge_laws.specs.Resolution.{member, IsResolution}
use Rattle.merge_laws.proofs.Places.{Contains-head, Contains-tail, Contains-cases}
use Rattle.merge_laws.proofs.Tags.{tag-from_dominated, member-from_tag}
use Rattle.union_base.specs.RecordIds.{id_cmp}
use Rattle.field_merge.specs.KeptLaws.{id_total}
use Rattle.catalogue_editions.specs.Batches.{is_one_of, has_one_level, is_own_op}
use Rattle.catalogue_editions.specs.Ids.{first_id, least}
use Rattle.catalogue_editions.specs.Joining.{join}
use Rattle.catalogue_editions.specs.JoinLaws.{edition_join_laws}
use Rattle.catalogue_editions.specs.Matching.{match}
use Rattle.catalogue_editions.specs.MatchLaws.{edition_match_laws}
use Rattle.turn_plans.specs.Histories.{MapOf, is_current, after_op, after_batch, current}
use Rattle.turn_plans.specs.Plans.{AreSingle}
use Rattle.catalogue_editions.specs.declared.edition.Edition.{Edition}
use Rattle.catalogue_editions.specs.declared.op.Op.{Op}
use Rattle.catalogue_editions.specs.declared.op.Op.TheVariants.{Load, Withdraw}
use Rattle.catalogue_editions.specs.declared.history_entry.HistoryEntry.{HistoryEntry}

-- ---- some value passes

pub any-from_member : {A : Type 0} (p : A → Bool) (xs : List A) (x : A) → Contains xs x → p x ≡ true → list_any p xs ≡ true
any-from_member p [] x (k, kl, e) h = absurd (omega arith)
any-from_member p (y ∷ ys) x c h =
    elim (Contains-cases y ys x c) [
      | inl same ↦ ap (λ b. b || list_any p ys) (ap p same ∙ h)
      | inr later ↦ (let rest = any-from_member p ys x later h in
          elim (p y) as (λ b. (b || list_any p ys) ≡ true) [ true ↦ refl | false ↦ rest ])
    ]

pub member-from_any : {A : Type 0} (p : A → Bool) (xs : List A) → list_any p xs ≡ true → (x : A) × Contains xs x × (p x ≡ true)
member-from_any p [] h = absurd (let clash : false ≡ true = h in cc)
member-from_any {A} p (y ∷ ys) h =
    elim (p y) as (λ b. p y ≡ b → (b || list_any p ys) ≡ true → (x : A) × Contains (y ∷ ys) x × (p x ≡ true)) [
      | true ↦ λ e some. (y, Contains-head y ys, e)
      | false ↦ λ e some. (let (x, c, q) = member-from_any p ys some in (x, Contains-tail y ys x c, q))
    ] refl h

-- ---- contributors

-- whether the edition has that contributor
abbrev pub bears : RecordId → Edition → Bool
bears id e = has id_cmp e.content.contributors id

pub either : (a b : Bool) → IsTrue (a || b) ↔ (IsTrue a ⊎ IsTrue b)
either true b = (λ h. inl refl, λ h. refl)
either false b = (λ h. inr h, λ h. elim h [ inl l ↦ absurd (let clash : false ≡ true = l in cc) | inr r ↦ r ])

pub tags : (x y : Edition) (id : RecordId) → IsTrue (bears id (join x y)) ↔ (IsTrue (bears id x) ⊎ IsTrue (bears id y))
tags x y id =
    subst (λ b. IsTrue b ↔ (IsTrue (bears id x) ⊎ IsTrue (bears id y))) (sym (has-union id_total x.content.contributors y.content.contributors id))
    (either (bears id x) (bears id y))

-- a resolution has the contributors of its list
pub bears-resolution : (list resolution : List Edition) → IsResolution match join list resolution → (id : RecordId) → list_any (bears id) resolution ≡ list_any (bears id) list
bears-resolution list resolution r id =
    both_ways (list_any (bears id) resolution) (list_any (bears id) list)
    (λ h. let (e, c, b) = member-from_any (bears id) resolution h in
    let (x, cx, bx, d) = member-from_tag {has = λ e id. IsTrue (bears id e)} edition_join_laws edition_match_laws tags list e id (r.derived e c) b in
    any-from_member (bears id) list x cx bx)
    (λ h. let (x, c, b) = member-from_any (bears id) list h in
    let (s, cs, d) = r.covered x (member c) in
    any-from_member (bears id) resolution s cs (tag-from_dominated {has = λ e id. IsTrue (bears id e)} edition_join_laws edition_match_laws tags x s id d b))

-- ---- current records

pub single-insert : (all : MapOf Edition) (id : RecordId) (e : Edition) → AreSingle all → e.content.contributors ≡ id ∷ [] → AreSingle (insert_entry id_cmp all id e)
single-insert [] id e s one = (one, tt)
single-insert (p ∷ all) id e s one =
    elim (id_cmp id p.0) as (λ r. id_cmp id p.0 ≡ r → AreSingle (match_ordering r ((id, e) ∷ p ∷ all) ((p.0, e) ∷ all) (p ∷ insert_entry id_cmp all id e))) [
      | Less ↦ λ is. (one, s)
      | Equal ↦ λ is. (one ∙ ap (λ (i : RecordId). i ∷ []) (ids_apart id p.0 is), s.1)
      | Greater ↦ λ is. (s.0, single-insert all id e s.1 one)
    ] refl

pub single-remove : (all : MapOf Edition) (test : RecordId → Bool) → AreSingle all → AreSingle (remove_entry test all)
single-remove [] test s = tt
single-remove (p ∷ all) test s =
    elim (test p.0) as (λ b. AreSingle (cond b all (p ∷ remove_entry test all))) [ true ↦ s.1 | false ↦ (s.0, single-remove all test s.1) ]

one-from_own : (library : List ℕ) (ids : List RecordId) → is_one_of library ids ≡ true → ids ≡ first_id ids ∷ []
one-from_own library [] h = cc
one-from_own library (id ∷ []) h = refl
one-from_own library (id ∷ more ∷ rest) h = cc

pub single-op : (library : List ℕ) (all : MapOf Edition) (op : Op) → AreSingle all → is_own_op library op ≡ true → AreSingle (after_op library all op)
single-op library all (Load e) s own =
    single-insert all (least e) e s
    (one-from_own library e.content.contributors (both_true (is_one_of library e.content.contributors) (has_one_level e.content) own).0)
single-op library all (Withdraw number) s own = single-remove all (is_at (id_cmp (record { library = library; control = number }))) s

single-ops : (library : List ℕ) (all : MapOf Edition) (ops : List Op) → AreSingle all → list_all (is_own_op library) ops ≡ true → AreSingle (fold (after_op library) all ops)
single-ops library all [] s own = s
single-ops library all (op ∷ ops) s own =
    let parts = both_true (is_own_op library op) (list_all (is_own_op library) ops) own in
    single-ops library (after_op library all op) ops (single-op library all op s parts.0) parts.1

pub single-turns : (all : MapOf Edition) (history : List HistoryEntry) → AreSingle all → AreSingle (fold (λ all entry. after_batch all entry.batch) all history)
single-turns all [] s = s
single-turns all (turn ∷ history) s =
    single-turns (after_batch all turn.batch) history
    (single-ops turn.batch.library all turn.batch.ops s (both_true _ (list_all (is_own_op turn.batch.library) turn.batch.ops) turn.batch.fits).1)

pub bears-current : (all : MapOf Edition) → AreSingle all → (id : RecordId) → list_any (bears id) (values_of all) ≡ is_current all id
bears-current [] s id = refl
bears-current (p ∷ all) s id =
    ap (λ ids. has id_cmp ids id || list_any (bears id) (values_of all)) s.0
    ∙ elim (is_eq (id_cmp id p.0)) as (λ b. ((b || false) || list_any (bears id) (values_of all)) ≡ is_some (cond b (Some p.1) (lookup (is_at (id_cmp id)) all))) [
      | true ↦ refl
      | false ↦ bears-current all s.1 id
    ]

-- the base under an id
pub flat-then : {A B : Type 0} (f : A → Option B) (o : Option A) → option_flatten (option_map f o) ≡ option_and_then f o
flat-then f None = refl
flat-then f (Some x) = refl

pub flat-some : {A : Type 0} (o : Option A) → option_flatten (option_map Some o) ≡ o
flat-some None = refl
flat-some (Some x) = refl
