-- What the editions become where one comes and none goes.
use Rattle.std.proofs.Common.{◌≡◌, Bool, true, false, cond, List, [], ◌∷◌, Contains, refl, ap, subst, inl, inr, arith}
use Rattle.std.specs.Prelude.{◌⊎◌, Some, is_some}
use Rattle.std.specs.declared.cmp.Ordering.TheVariants.{Less, Equal, Greater}
use Rattle.std.specs.Ordering.{match_ordering, is_eq}
use Rattle.std.specs.BTreeMap.{is_at, insert_entry}
use Rattle.std.specs.Map.{lookup, remove_entry, values_of}
use Rattle.std.proofs.lemmas.List.Elements.{Contains-append_left, Contains-append_cases}
use Rattle.union_base.specs.declared.record_id.RecordId.{RecordId}
use Rattle.merge_laws.proofs.Places.{Contains-head, Contains-tail, Contains-cases}
use Rattle.union_base.specs.RecordIds.{id_cmp}
use Rattle.turn_plans.specs.Histories.{MapOf, is_current}
use Rattle.catalogue_editions.specs.declared.edition.Edition.{Edition}

-- the list next has the members of the list before, and those that came
pub record IsGrown (before came next : List Edition) : Type 0 where
  pub stays : (x : Edition) → Contains before x → Contains next x
  pub comes : (x : Edition) → Contains came x → Contains next x
  pub only : (x : Edition) → Contains next x → Contains before x ⊎ Contains came x

-- under a new id comes one edition
pub grown-insert : (all : MapOf Edition) (id : RecordId) (e : Edition) → is_current all id ≡ false → IsGrown (values_of all) (e ∷ []) (values_of (insert_entry id_cmp all id e))
grown-insert [] id e new = record {
  stays = λ x (k, kl, h). absurd (omega arith);
  comes = λ x c. c;
  only = λ x c. inr c;
}
grown-insert (p ∷ all) id e new =
    elim (id_cmp id p.0) as (λ r. is_some (cond (is_eq r) (Some p.1) (lookup (is_at (id_cmp id)) all)) ≡ false
    → IsGrown (p.1 ∷ values_of all) (e ∷ []) (values_of (match_ordering r ((id, e) ∷ p ∷ all) ((p.0, e) ∷ all) (p ∷ insert_entry id_cmp all id e)))) [
      | Less ↦ λ h. record {
        stays = λ x c. Contains-tail e (p.1 ∷ values_of all) x c;
        comes = λ x c. Contains-append_left (e ∷ []) (p.1 ∷ values_of all) x c;
        only = λ x c. elim (Contains-append_cases (e ∷ []) (p.1 ∷ values_of all) x c) [ inl mine ↦ inr mine | inr old ↦ inl old ];
      }
      | Equal ↦ λ h. absurd (let clash : true ≡ false = h in cc)
      | Greater ↦ λ h. (let rest = grown-insert all id e h in
          let more = values_of (insert_entry id_cmp all id e) in
          record {
            stays = λ x c. elim (Contains-cases p.1 (values_of all) x c) [
              | inl same ↦ subst (Contains (p.1 ∷ more)) same (Contains-head p.1 more)
              | inr later ↦ Contains-tail p.1 more x (rest.stays x later)
            ];
            comes = λ x c. Contains-tail p.1 more x (rest.comes x c);
            only = λ x c. elim (Contains-cases p.1 more x c) [
              | inl same ↦ inl (subst (Contains (p.1 ∷ values_of all)) same (Contains-head p.1 (values_of all)))
              | inr later ↦ elim (rest.only x later) [ inl old ↦ inl (Contains-tail p.1 (values_of all) x old) | inr mine ↦ inr mine ]
            ];
          })
    ] new

-- where nothing is under an id, nothing goes
pub remove-none : (all : MapOf Edition) (test : RecordId → Bool) → is_some (lookup test all) ≡ false → remove_entry test all ≡ all
remove-none [] test none = refl
remove-none (p ∷ all) test none =
    elim (test p.0) as (λ b. is_some (cond b (Some p.1) (lookup test all)) ≡ false → cond b all (p ∷ remove_entry test all) ≡ p ∷ all) [
      | true ↦ λ h. absurd (let clash : true ≡ false = h in cc)
      | false ↦ λ h. ap (λ (pairs : MapOf Edition). p ∷ pairs) (remove-none all test h)
    ] none
