-- A notice is a function of the delta: where a contributor stands on the other side, it stands in an edition of the delta.
use Rattle.std.proofs.Common.{◌≡◌, ℕ, ◌+◌, ◌<◌, Bool, true, false, cond, ◌||◌, List, [], ◌∷◌, ◌++◌, length, take, get_or, map, Contains, AllPairs, refl, sym, ap, subst, ◌∙◌, inl, inr, arith, append_assoc}
use Rattle.std.specs.Prelude.{Option, Some, None, find, fold, codes}
use Rattle.std.specs.Option.{option_map, option_or}
use Rattle.std.specs.List.{flat_map}
use Rattle.std.specs.BTreeMap.{is_at}
use Rattle.std.specs.declared.cmp.Ordering.{Ordering}
use Rattle.std.specs.declared.cmp.Ordering.TheVariants.{Less, Equal, Greater}
use Rattle.std.specs.Ordering.{is_eq, ordering_reverse, eq_by_cmp}
use Rattle.std.proofs.lemmas.List.{map-append, take_more}
use Rattle.std.proofs.lemmas.List.Folds.{list_any-append}
use Rattle.std.proofs.lemmas.List.Sums.{fold_push}
use Rattle.union_base.specs.IdLaws.{ids_apart}
use Rattle.union_base.specs.SortedLists.{has}
use Rattle.union_base.specs.declared.record_id.RecordId.{RecordId}
use Rattle.merge_laws.proofs.Places.{Contains-head, Contains-tail, Contains-cases, AllPairs-first, AllPairs-rest}
use Rattle.match_features.proofs.MemberLaws.{member-from_has, has-from_member}
use Rattle.union_base.specs.RecordIds.{id_cmp}
use Rattle.field_merge.specs.KeptLaws.{id_total}
use Rattle.workset_keys.specs.WorkKeys.{own_name}
use Rattle.catalogue_editions.specs.Ids.{least}
use Rattle.catalogue_editions.specs.declared.edition.Edition.{Edition}
use Rattle.edition_blocks.specs.Deltas.{AreOnlyIn}
use Rattle.change_notices.specs.Followers.{share_contributor, AreHeld}
use Rattle.change_notices.specs.Naming.{last_name}
use Rattle.change_notices.specs.Notices.{name_in, end_by, edition_lines}
use Rattle.change_notices.proofs.FollowerLaws.{one-held, pairs-held}
use Rattle.change_notices.proofs.DoubleLaws.{bears}

-- ---- names that are put into a map

either-name : {A : Type 0} (b h : Bool) (one other : A) → cond b one (cond h one other) ≡ cond (h || (b || false)) one other
either-name true true one other = refl
either-name true false one other = refl
either-name false true one other = refl
either-name false false one other = refl

eq-reverse : (r : Ordering) → is_eq (ordering_reverse r) ≡ is_eq r
eq-reverse Less = refl
eq-reverse Equal = refl
eq-reverse Greater = refl

pub named-more : (now old first : Option RecordId) (ids : List RecordId) (i : ℕ) (id key q name kept : RecordId) → now ≡ cond (is_at (id_cmp key) q) (Some kept) old → key ≡ id → kept ≡ name
    → old ≡ cond (has id_cmp (take i ids) q) (Some name) first → i < length ids → id ≡ get_or ids i id → now ≡ cond (has id_cmp (take (i + 1) ids) q) (Some name) first
named-more now old first ids i id key q name kept is same called so_far il at =
    let test : is_at (id_cmp key) q ≡ eq_by_cmp id_cmp q id =
    ap (λ k. is_eq (id_cmp k q)) same ∙ ap is_eq (id_total.antisymm id q) ∙ eq-reverse (id_cmp q id) in
    is ∙ ap (λ b. cond b (Some kept) old) test ∙ ap (λ (n : RecordId). cond (eq_by_cmp id_cmp q id) (Some n) old) called
    ∙ ap (λ b. cond (eq_by_cmp id_cmp q id) (Some name) b) so_far
    ∙ either-name (eq_by_cmp id_cmp q id) (has id_cmp (take i ids) q) (Some name) first
    ∙ ap (λ b. cond b (Some name) first) (sym (list_any-append (eq_by_cmp id_cmp q) (take i ids) (id ∷ [])))
    ∙ ap (λ (xs : List RecordId). cond (has id_cmp xs q) (Some name) first) (ap (λ (x : RecordId). take i ids ++ x ∷ []) at ∙ sym (take_more ids i id il))

pub last-more : (xs : List Edition) (i : ℕ) (x : Edition) (q : RecordId) → i < length xs → x ≡ get_or xs i x
    → last_name (take (i + 1) xs) q ≡ cond (bears q x) (Some (least x)) (last_name (take i xs) q)
last-more xs i x q il at =
    ap (λ (ys : List Edition). last_name ys q) (take_more xs i x il ∙ ap (λ (y : Edition). take i xs ++ y ∷ []) (sym at))
    ∙ fold_push (λ (found : Option RecordId) (e : Edition). cond (bears q e) (Some (least e)) found) None (take i xs) x

-- ---- the first that passes a test

module _ {A : Type 0} (p : A → Bool) where
  pub found-member : (xs : List A) (x : A) → find p xs ≡ Some x → Contains xs x × (p x ≡ true)
  found-member [] x is = cc
  found-member (y ∷ ys) x is =
      elim (p y) as (λ b. p y ≡ b → cond b (Some y) (find p ys) ≡ Some x → Contains (y ∷ ys) x × (p x ≡ true)) [
        | true ↦ λ t e. (let same : y ≡ x = cc in (subst (Contains (y ∷ ys)) same (Contains-head y ys), ap p (sym same) ∙ t))
        | false ↦ λ t e. (let (c, h) = found-member ys x e in (Contains-tail y ys x c, h))
      ] refl is

  pub missed-member : (xs : List A) → find p xs ≡ None → (x : A) → Contains xs x → p x ≡ true → ⊥
  missed-member [] is x (k, kl, e) h = omega arith
  missed-member (y ∷ ys) is x c h =
      elim (p y) as (λ b. p y ≡ b → cond b (Some y) (find p ys) ≡ None → ⊥) [
        | true ↦ λ t e. cc
        | false ↦ λ t e. elim (Contains-cases y ys x c) [
          | inl same ↦ (let clash : true ≡ false = sym h ∙ ap p (sym same) ∙ t in cc)
          | inr later ↦ missed-member ys e x later h
        ]
      ] refl is

  pub missed : (xs : List A) → ((x : A) → Contains xs x → p x ≡ true → ⊥) → find p xs ≡ None
  missed [] none = refl
  missed (y ∷ ys) none =
      elim (p y) as (λ b. p y ≡ b → cond b (Some y) (find p ys) ≡ None) [
        | true ↦ λ t. absurd (none y (Contains-head y ys) t)
        | false ↦ λ t. missed ys (λ x c. none x (Contains-tail y ys x c))
      ] refl

  -- two lists in which the same one passes
  pub found-same : (xs ys : List A) → ((x : A) → Contains ys x → Contains xs x) → ((x : A) → Contains xs x → p x ≡ true → Contains ys x)
      → ((x y : A) → Contains xs x → Contains xs y → p x ≡ true → p y ≡ true → x ≡ y) → find p xs ≡ find p ys
  found-same xs ys within there one =
      elim (find p xs) as (λ o. find p xs ≡ o → o ≡ find p ys) [
        | Some x ↦ λ is. (let (cx, px) = found-member xs x is in
            elim (find p ys) as (λ o. find p ys ≡ o → Some x ≡ o) [
              | Some y ↦ λ at. (let (cy, py) = found-member ys y at in ap Some (one x y cx (within y cy) px py))
              | None ↦ λ at. absurd (missed-member ys at x (there x cx px) px)
            ] refl)
        | None ↦ λ is. sym (missed ys (λ y cy py. missed-member xs is y (within y cy) py))
      ] refl

-- ---- names in lists of editions

shares : (q : RecordId) (x y : Edition) → bears q x ≡ true → bears q y ≡ true → share_contributor x y
shares q x y p r = (q, member-from_has id_total ids_apart x.content.contributors q p, member-from_has id_total ids_apart y.content.contributors q r)

last-found : (q : RecordId) (xs : List Edition) (found : Option RecordId) → AllPairs (λ x y. share_contributor x y → ⊥) xs
    → fold (λ (found : Option RecordId) (e : Edition). cond (bears q e) (Some (least e)) found) found xs ≡ option_or (option_map least (find (bears q) xs)) found
last-found q [] found apart = refl
last-found q (x ∷ xs) found apart =
    let rest = AllPairs-rest (λ x y. share_contributor x y → ⊥) x xs apart in
    elim (bears q x) as (λ b. bears q x ≡ b → fold (λ (found : Option RecordId) (e : Edition). cond (bears q e) (Some (least e)) found) (cond b (Some (least x)) found) xs
    ≡ option_or (option_map least (cond b (Some x) (find (bears q) xs))) found) [
      | true ↦ λ t. last-found q xs (Some (least x)) rest
          ∙ ap (λ (o : Option Edition). option_or (option_map least o) (Some (least x)))
          (missed (bears q) xs (λ y c h. AllPairs-first (λ x y. share_contributor x y → ⊥) x xs apart y c (shares q x y t h)))
      | false ↦ λ t. last-found q xs found rest
    ] refl

or-none : (o : Option RecordId) → option_or o None ≡ o
or-none None = refl
or-none (Some x) = refl

last-is_first : (xs : List Edition) → AllPairs (λ x y. share_contributor x y → ⊥) xs → (q : RecordId) → last_name xs q ≡ name_in xs q
last-is_first xs apart q = last-found q xs None apart ∙ or-none (name_in xs q)

-- a contributor of an edition of one side stands on the other side in an edition of the delta, or nowhere
other-side : (one other mine theirs : List Edition) → AreHeld one → AreHeld other → AreOnlyIn one other mine → AreOnlyIn other one theirs
    → (e : Edition) → Contains mine e → (id : RecordId) → Contains e.content.contributors id → name_in other id ≡ name_in theirs id
other-side one other mine theirs held next only back e ce id c =
    let (there, out) = (only.members e).0 ce in
    let own : bears id e ≡ true = has-from_member id_total ids_apart e.content.contributors id c in
    ap (option_map least)
    (found-same (bears id) other theirs (λ x cx. ((back.members x).0 cx).0)
    (λ x cx px. (back.members x).1 (cx, λ stood. let same : x ≡ e = one-held one held.apart x e stood there (shares id x e px own) in out (subst (Contains other) same cx)))
    (λ x y cx cy px py. one-held other next.apart x y cx cy (shares id x y px py)))

-- ---- lines

map-same : {A B : Type 0} (f g : A → B) (xs : List A) → ((x : A) → Contains xs x → f x ≡ g x) → map f xs ≡ map g xs
map-same f g [] same = refl
map-same f g (x ∷ xs) same = ap (λ y. y ∷ map f xs) (same x (Contains-head x xs)) ∙ ap (λ ys. g x ∷ ys) (map-same f g xs (λ y c. same y (Contains-tail x xs y c)))

flat-same : {A B : Type 0} (f g : A → List B) (xs : List A) → ((x : A) → Contains xs x → f x ≡ g x) → flat_map f xs ≡ flat_map g xs
flat-same f g [] same = refl
flat-same f g (x ∷ xs) same = ap (λ ys. ys ++ flat_map f xs) (same x (Contains-head x xs)) ∙ ap (λ ys. g x ++ ys) (flat-same f g xs (λ y c. same y (Contains-tail x xs y c)))

pub side-told : (head word alone : List ℕ) (named : RecordId → Option RecordId) (one other mine theirs : List Edition) → AreHeld one → AreHeld other → AreOnlyIn one other mine
    → AreOnlyIn other one theirs → ((q : RecordId) → named q ≡ last_name theirs q)
    → flat_map (edition_lines head word alone named) mine ≡ flat_map (edition_lines head word alone (name_in other)) mine
side-told head word alone named one other mine theirs held next only back names =
    flat-same (edition_lines head word alone named) (edition_lines head word alone (name_in other)) mine (λ e ce.
    ap (λ ls. (head ++ own_name (least e)) ∷ ls)
    (map-same (λ (id : RecordId). codes " " ++ own_name id ++ end_by word alone (named id)) (λ (id : RecordId). codes " " ++ own_name id ++ end_by word alone (name_in other id))
    e.content.contributors (λ id c. ap (λ (n : Option RecordId). codes " " ++ own_name id ++ end_by word alone n)
    (names id ∙ last-is_first theirs (pairs-held other theirs next back.ascending (λ x cx. ((back.members x).0 cx).0)) id
    ∙ sym (other-side one other mine theirs held next only back e ce id c)))))

-- with the line of one more
pub pushed-more : {A B : Type 0} (f : A → B) (ids : List A) (i : ℕ) (x : A) (first so_far now : List B) (y : B) → i < length ids → x ≡ get_or ids i x → y ≡ f x
    → so_far ≡ first ++ map f (take i ids) → now ≡ so_far ++ y ∷ [] → now ≡ first ++ map f (take (i + 1) ids)
pushed-more {A} {B} f ids i x first so_far now y il at line before pushed =
    pushed ∙ ap (λ xs. xs ++ y ∷ []) before ∙ ap (λ (z : B). (first ++ map f (take i ids)) ++ z ∷ []) line
    ∙ append_assoc first (map f (take i ids)) (f x ∷ [])
    ∙ ap (λ ys. first ++ ys) (sym (map-append f (take i ids) (x ∷ [])) ∙ ap (map f) (ap (λ (z : A). take i ids ++ z ∷ []) at ∙ sym (take_more ids i x il)))
