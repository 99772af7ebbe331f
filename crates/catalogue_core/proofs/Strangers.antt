-- A record that shares no index key with any other.
use Rattle.std.proofs.Common.{◌≡◌, ℕ, ◌+◌, ◌*◌, Bool, true, false, IsTrue, List, [], ◌∷◌, ◌++◌, length, Contains, sym, ap, ◌∙◌, inl, inr, arith}
use Rattle.std.specs.Prelude.{◌⊎◌, count_by}
use Rattle.std.proofs.lemmas.List.Elements.{Contains-append_cases}
use Rattle.std.proofs.lemmas.List.Sums.{length-filter}
use Rattle.union_base.specs.declared.record_id.RecordId.{RecordId}
use Rattle.merge_laws.specs.Reach.{near}
use Rattle.merge_laws.specs.Resolution.{Derives, member, merged}
use Rattle.merge_laws.proofs.Places.{Contains-cases}
use Rattle.merge_laws.proofs.Resolutions.{IsResolution-push}
use Rattle.match_features.proofs.MemberLaws.{member-from_has}
use Rattle.union_base.specs.IdLaws.{ids_apart}
use Rattle.field_merge.specs.KeptLaws.{id_total}
use Rattle.catalogue_editions.specs.Joining.{join}
use Rattle.catalogue_editions.specs.JoinLaws.{edition_join_laws}
use Rattle.catalogue_editions.specs.Matching.{match, share, is_found}
use Rattle.catalogue_editions.specs.MatchLaws.{edition_match_laws, edition_key_laws, edition_seeking_laws, edition_finding_laws}
use Rattle.turn_plans.specs.Reaches.{IsReachOfInsertion, IsReachOfWithdrawal}
use Rattle.catalogue_editions.specs.declared.edition.Edition.{Edition}
use Rattle.catalogue_editions.proofs.Apart.{match-from_contributor}
use Rattle.catalogue_core.proofs.Holders.{none-left}
use Rattle.turn_plans.proofs.Housing.{false-from_never}
use Rattle.turn_plans.proofs.PlanLaws.{bears-own}

clash : (b : Bool) → b ≡ true → b ≡ false → ⊥
clash b p q = let both : true ≡ false = sym p ∙ q in cc

share-from_match : (x y : Edition) → IsTrue (match x y) → IsTrue (share x y)
share-from_match x y m = (edition_key_laws.shared x y).1 (edition_key_laws.matching x y m)

-- what shares no key is not found
unfound : (w e : Edition) → share w e ≡ false → is_found w e ≡ false
unfound w e none =
    false-from_never (is_found w e) (λ f. let (key, sought, posted) = (edition_finding_laws.found w e).0 f in clash (share w e) (edition_seeking_laws.near e w key sought posted) none)

share-joined : (x y e : Edition) → share x e ≡ false → share y e ≡ false → share (join x y) e ≡ false
share-joined x y e p q =
    false-from_never (share (join x y) e) (λ s.
    let (key, mine, its) = (edition_key_laws.shared (join x y) e).0 s in
    elim ((edition_key_laws.merged x y key).0 mine) [
      | inl here ↦ clash (share x e) ((edition_key_laws.shared x e).1 (key, here, its)) p
      | inr there ↦ clash (share y e) ((edition_key_laws.shared y e).1 (key, there, its)) q
    ])

share-turned : (x y : Edition) → share x y ≡ false → share y x ≡ false
share-turned x y p =
    false-from_never (share y x) (λ s. let (key, mine, its) = (edition_key_laws.shared y x).0 s in clash (share x y) ((edition_key_laws.shared x y).1 (key, its, mine)) p)

-- what derives is the stranger itself, or shares no key with it
alone-derived : (list : List Edition) (e : Edition) → ((x : Edition) → Contains list x → (x ≡ e) ⊎ (share x e ≡ false)) → (r : Edition) → Derives match join list r → (r ≡ e) ⊎ (share r e ≡ false)
alone-derived list e only r (member c) = only r c
alone-derived list e only _ (merged {a = a} {b = b} p q m) =
    elim (alone-derived list e only a p) [
      | inl mine ↦ elim (alone-derived list e only b q) [
        | inl its ↦ inl (ap (λ x. join x b) mine ∙ ap (join e) its ∙ edition_join_laws.idempotent e)
        | inr apart ↦ absurd (clash (share b e) (ap (share b) (sym mine) ∙ share-from_match b a (edition_match_laws.symmetric a b m)) apart)
      ]
      | inr apart ↦ elim (alone-derived list e only b q) [
        | inl its ↦ absurd (clash (share a e) (ap (share a) (sym its) ∙ share-from_match a b m) apart)
        | inr apart' ↦ inr (share-joined a b e apart apart')
      ]
    ]

apart-derived : (list : List Edition) (e : Edition) → ((x : Edition) → Contains list x → share x e ≡ false) → (r : Edition) → Derives match join list r → share r e ≡ false
apart-derived list e only r (member c) = only r c
apart-derived list e only _ (merged {a = a} {b = b} p q m) = share-joined a b e (apart-derived list e only a p) (apart-derived list e only b q)

count-none : (test : Edition → Bool) (xs : List Edition) → ((x : Edition) → Contains xs x → test x ≡ false) → count_by test xs ≡ 0
count-none test xs none = sym (length-filter test xs) ∙ ap length (none-left test xs (λ x c h. clash (test x) h (none x c)))

pub stranger-comes : (list : List Edition) (e : Edition) (number : ℕ) → ((x : Edition) → Contains list x → share x e ≡ false) → IsReachOfInsertion list e number → number ≡ 0
stranger-comes list e number only r =
    let whole = IsResolution-push edition_join_laws edition_match_laws list r.before r.after e r.resolved r.grown in
    let by-is : (r.by ≡ e) ⊎ (share r.by e ≡ false) = alone-derived (list ++ e ∷ []) e
    (λ x c. elim (Contains-append_cases list (e ∷ []) x c) [
      | inl old ↦ inr (only x old)
      | inr new ↦ elim (Contains-cases e [] x new) [ inl is ↦ inl (sym is) | inr (k, kl, is) ↦ absurd (omega arith) ]
    ]) r.by (whole.derived r.by r.stands) in
    elim by-is [
      | inl is ↦ (let none : near is_found r.before r.by ≡ 0 =
          ap (near is_found r.before) is ∙ count-none (λ w. is_found w e) r.before (λ w c. unfound w e (apart-derived list e only w (r.resolved.derived w c))) in
          r.is ∙ ap (λ n. (count_by (λ w. match w r.by) r.before + 1) * n) none ∙ omega arith)
      | inr apart ↦ absurd (clash (share e r.by) (share-from_match e r.by r.dominates.matches) (share-turned r.by e apart))
    ]

pub stranger-goes : (list : List Edition) (e : Edition) (id : RecordId) (number : ℕ) → ((x : Edition) → Contains list x → (x ≡ e) ⊎ (share x e ≡ false)) → e.content.contributors ≡ id ∷ []
    → IsReachOfWithdrawal list id number → number ≡ 1
stranger-goes list e id number only own r =
    elim (alone-derived list e only r.from (r.resolved.derived r.from r.stands)) [
      | inl is ↦ r.is ∙ ap (λ (x : Edition). length x.content.contributors * length x.content.contributors) is ∙ ap (λ (ids : List RecordId). length ids * length ids) own
      | inr apart ↦ absurd (clash (share r.from e) (share-from_match r.from e
          (match-from_contributor r.from e id (member-from_has id_total ids_apart r.from.content.contributors id r.contributor) (member-from_has id_total ids_apart e.content.contributors id (bears-own id e own)))) apart)
    ]
