-- One edition of a catalogue at most has a contributor.
use Rattle.std.proofs.Common.{◌≡◌, Bool, true, false, cond, Some, List, [], ◌∷◌, get_or, Contains, AllPairs, filter, refl, ap}
use Rattle.std.specs.Prelude.{find}
use Rattle.std.specs.Option.{option_to_list}
use Rattle.union_base.specs.SortedLists.{has}
use Rattle.union_base.specs.declared.record_id.RecordId.{RecordId}
use Rattle.union_base.specs.IdLaws.{ids_apart}
use Rattle.merge_laws.specs.Resolution.{DoNotMatch}
use Rattle.merge_laws.proofs.Places.{Contains-head, Contains-tail, AllPairs-first, AllPairs-rest}
use Rattle.merge_laws.proofs.Resolutions.{apart-from_resolution}
use Rattle.match_features.proofs.MemberLaws.{member-from_has}
use Rattle.union_base.specs.RecordIds.{id_cmp}
use Rattle.field_merge.specs.KeptLaws.{id_total}
use Rattle.catalogue_editions.specs.JoinLaws.{edition_join_laws}
use Rattle.catalogue_editions.specs.Matching.{match}
use Rattle.catalogue_editions.specs.MatchLaws.{edition_match_laws}
use Rattle.turn_plans.specs.Histories.{bases, AreEditionsOf}
use Rattle.catalogue_core.specs.Walks.{holder_of}
use Rattle.catalogue_editions.specs.declared.edition.Edition.{Edition}
use Rattle.catalogue_editions.specs.declared.history_entry.HistoryEntry.{HistoryEntry}
use Rattle.catalogue_editions.proofs.Apart.{match-from_contributor}

module _ {A : Type 0} (p : A → Bool) where
  -- where none passes, none is left
  pub none-left : (xs : List A) → ((x : A) → Contains xs x → p x ≡ true → ⊥) → filter p xs ≡ []
  none-left [] none = refl
  none-left (x ∷ xs) none =
      elim (p x) as (λ b. p x ≡ b → cond b (x ∷ filter p xs) (filter p xs) ≡ []) [
        | true ↦ λ is. absurd (none x (Contains-head x xs) is)
        | false ↦ λ is. none-left xs (λ y c. none y (Contains-tail x xs y c))
      ] refl

  -- where one passes at most, the ones that pass are the first that does
  pub one-left : (xs : List A) → AllPairs (λ x y. p x ≡ true → p y ≡ true → ⊥) xs → filter p xs ≡ option_to_list (find p xs)
  one-left [] apart = refl
  one-left (x ∷ xs) apart =
      elim (p x) as (λ b. p x ≡ b → cond b (x ∷ filter p xs) (filter p xs) ≡ option_to_list (cond b (Some x) (find p xs))) [
        | true ↦ λ is. ap (λ rest. x ∷ rest) (none-left xs (λ y c. AllPairs-first (λ x y. p x ≡ true → p y ≡ true → ⊥) x xs apart y c is))
        | false ↦ λ is. one-left xs (AllPairs-rest (λ x y. p x ≡ true → p y ≡ true → ⊥) x xs apart)
      ] refl

-- has the contributor
abbrev pub has_contributor : RecordId → Edition → Bool
has_contributor id e = has id_cmp e.content.contributors id

stands : (id : RecordId) (e : Edition) → has_contributor id e ≡ true → Contains e.content.contributors id
stands id e h = member-from_has id_total ids_apart e.content.contributors id h

-- the editions that have a contributor are the one that is found
pub one-holder : (history : List HistoryEntry) (all : List Edition) (id : RecordId) → AreEditionsOf history all
    → filter (has_contributor id) all ≡ option_to_list (holder_of all id)
one-holder history all id are =
    let apart : AllPairs (DoNotMatch match) all = apart-from_resolution edition_join_laws edition_match_laws (bases history) all are.resolved in
    one-left (has_contributor id) all
    (λ i j d ij jl x y.
    let one = get_or all i d in
    let other = get_or all j d in
    (apart i j d ij jl).0 (match-from_contributor one other id (stands id one x) (stands id other y)))
