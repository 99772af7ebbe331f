-- Editions and the records that match them: each resolves from these.
use Rattle.std.proofs.Common.{◌≡◌, ℕ, ◌+◌, ◌<◌, List, [], ◌∷◌, ◌++◌, length, get_or, take, sym, ap, ◌∙◌}
use Rattle.std.proofs.lemmas.List.{take_more, map-append}
use Rattle.std.specs.Prelude.{Contains}
use Rattle.merge_laws.specs.Resolution.{IsResolution}
use Rattle.merge_laws.proofs.Places.{Contains-head, Contains-tail}
use Rattle.catalogue_editions.specs.Joining.{join}
use Rattle.catalogue_editions.specs.JoinLaws.{edition_join_laws}
use Rattle.catalogue_editions.specs.Matching.{match}
use Rattle.catalogue_editions.specs.MatchLaws.{edition_match_laws}
use Rattle.catalogue_editions.specs.declared.edition.Edition.{Edition}
use Rattle.edition_derivations.specs.Steps.{IsEditionOf}
use Rattle.edition_derivations.proofs.OneEdition.{one-edition}
use Rattle.edition_sources.specs.Members.{members}
use Rattle.edition_doubts.specs.Groups.{pairs_of, gathered, AreEditions}
use Rattle.edition_doubts.specs.declared.groups.Group.{Group}

-- an edition is one to which its records resolve
alone : (records editions : List Edition) (e : Edition) → IsResolution match join records editions → Contains editions e
    → IsEditionOf (members records e) e
alone records editions e resolved among = record {
  editions = e ∷ [];
  resolved = one-edition edition_join_laws edition_match_laws records editions e resolved among;
  among = Contains-head e [];
}

-- each of some editions of a resolution is
pub are-editions : (records editions : List Edition) → IsResolution match join records editions → (some : List Edition)
    → ((e : Edition) → Contains some e → Contains editions e) → AreEditions (gathered records some)
are-editions records editions resolved [] among = tt
are-editions records editions resolved (e ∷ some) among = (
  alone records editions e resolved (among e (Contains-head e some)),
  are-editions records editions resolved some (λ x c. among x (Contains-tail e some x c)),
)

-- the group of one more edition was pushed
pub pushed : (records editions : List Edition) (groups : List Group) (i : ℕ) (e : Edition) (g : Group) → i < length editions
    → get_or editions i e ≡ e → g.edition ≡ e → g.members.items ≡ members records e → pairs_of groups ≡ gathered records (take i editions)
    → pairs_of (groups ++ g ∷ []) ≡ gathered records (take (i + 1) editions)
pushed records editions groups i e g within is edition its before =
    map-append (λ g. (g.edition, g.members.items)) groups (g ∷ [])
    ∙ ap (λ ps. ps ++ (g.edition, g.members.items) ∷ []) before
    ∙ ap (λ x. gathered records (take i editions) ++ (x, g.members.items) ∷ []) edition
    ∙ ap (λ rs. gathered records (take i editions) ++ (e, rs) ∷ []) its
    ∙ sym (map-append (λ x. (x, members records x)) (take i editions) (e ∷ []))
    ∙ sym (ap (gathered records) (take_more editions i e within ∙ ap (λ x. take i editions ++ x ∷ []) is))
