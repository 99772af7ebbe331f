-- The fields of an edition are those of its members.
use Rattle.std.proofs.Common.{◌≡◌, List, [], ◌⊎◌, inl, inr, ap, ◌∙◌, sym, refl, subst}
use Rattle.std.specs.Prelude.{Contains}
use Rattle.std.specs.Option.{option_cmp}
use Rattle.union_base.specs.FieldLaws.{field_cmp-IsAntisymmetric}
use Rattle.union_base.specs.declared.field.Field.{Field}
use Rattle.field_merge.specs.KeptLaws.{field_total}
use Rattle.field_merge.specs.Orders.{slot_cmp, fixed_cmp}
use Rattle.field_merge.specs.declared.content.Content.{Content}
use Rattle.field_merge.proofs.GreaterParts.{greater-either}
use Rattle.field_merge.proofs.Members.{members-union}
use Rattle.merge_laws.specs.Resolution.{Derives, member, merged}
use Rattle.merge_laws.proofs.Places.{Contains-head}
use Rattle.merge_laws.proofs.Resolutions.{dominated-from_match}
use Rattle.match_features.proofs.MemberLaws.{member-from_filter}
use Rattle.catalogue_editions.specs.Joining.{join}
use Rattle.catalogue_editions.specs.JoinLaws.{edition_join_laws}
use Rattle.catalogue_editions.specs.Matching.{match}
use Rattle.catalogue_editions.specs.MatchLaws.{edition_match_laws}
use Rattle.catalogue_editions.specs.declared.edition.Edition.{Edition}
use Rattle.edition_derivations.specs.Steps.{IsEditionOf}
use Rattle.edition_derivations.proofs.OneEdition.{one-edition}
use Rattle.edition_sources.specs.Members.{members, IsOfRecords, IsShownIn, SomeHas}

-- what holds of a derived value, and of a merge only where it holds of one of its sides, holds of a record
from-record : (P : Edition → Type 0) → ((a b : Edition) → P (join a b) → P a ⊎ P b) → (records : List Edition) → (e : Edition)
    → Derives match join records e → P e → (r : Edition) × Contains records r × P r
from-record P split records e (member c) p = (e, c, p)
from-record P split records _ (merged {a = a} {b = b} left right m) p = elim (split a b p) [
  | inl q ↦ from-record P split records a left q
  | inr q ↦ from-record P split records b right q
]

-- the same of a part of the content that is one of the two sides'
from-part : {K : Type 0} (part : Content → K)
    → ((a b : Edition) → (part (join a b).content ≡ part a.content) ⊎ (part (join a b).content ≡ part b.content))
    → (records : List Edition) (e : Edition) → Derives match join records e → (v : K) → part e.content ≡ v → SomeHas records (λ c. part c ≡ v)
from-part part either records e d v is =
    from-record (λ x. part x.content ≡ v)
    (λ a b same. elim (either a b) [ inl left ↦ inl (sym left ∙ same) | inr right ↦ inr (sym right ∙ same) ])
    records e d is

pub of-records : (records : List Edition) (e : Edition) → Derives match join records e → IsOfRecords records e.content
of-records records e d =
    let slot = option_cmp slot_cmp in
    record {
      fixed = from-part (λ c. c.fixed) (λ a b. greater-either fixed_cmp a.content.fixed b.content.fixed) records e d e.content.fixed refl;
      f005 = from-part (λ c. c.f005) (λ a b. greater-either slot a.content.f005 b.content.f005) records e d e.content.f005 refl;
      f010 = from-part (λ c. c.f010) (λ a b. greater-either slot a.content.f010 b.content.f010) records e d e.content.f010 refl;
      f040 = from-part (λ c. c.f040) (λ a b. greater-either slot a.content.f040 b.content.f040) records e d e.content.f040 refl;
      f1xx = from-part (λ c. c.f1xx) (λ a b. greater-either slot a.content.f1xx b.content.f1xx) records e d e.content.f1xx refl;
      f240 = from-part (λ c. c.f240) (λ a b. greater-either slot a.content.f240 b.content.f240) records e d e.content.f240 refl;
      f245 = from-part (λ c. c.f245) (λ a b. greater-either slot_cmp a.content.f245 b.content.f245) records e d e.content.f245 refl;
      united = λ f c. from-record (λ x. Contains x.content.united f)
          (λ a b. (members-union field_total field_cmp-IsAntisymmetric a.content.united b.content.united f).0) records e d c;
    }

-- the edition derives from the records that match it
pub of-members : (records : List Edition) (e : Edition) → IsEditionOf records e → IsOfRecords (members records e) e.content
of-members records e is =
    let alone = one-edition edition_join_laws edition_match_laws records is.editions e is.resolved is.among in
    of-records (members records e) e (alone.derived e (Contains-head e []))

-- a record that matches the edition changes nothing of it
pub shown-in : (records : List Edition) (e r : Edition) → IsEditionOf records e → Contains (members records e) r → IsShownIn e.content r.content
shown-in records e r is c =
    let among = member-from_filter (λ x. match x e) records r c in
    let absorbed = (dominated-from_match edition_join_laws edition_match_laws records is.editions is.resolved r e among.0 is.among among.1).absorbed in
    record {
      fixed = ap (λ (x : Edition). x.content.fixed) absorbed;
      f005 = ap (λ (x : Edition). x.content.f005) absorbed;
      f010 = ap (λ (x : Edition). x.content.f010) absorbed;
      f040 = ap (λ (x : Edition). x.content.f040) absorbed;
      f1xx = ap (λ (x : Edition). x.content.f1xx) absorbed;
      f240 = ap (λ (x : Edition). x.content.f240) absorbed;
      f245 = ap (λ (x : Edition). x.content.f245) absorbed;
      united = λ f there. subst (λ (x : Edition). Contains x.content.united f) absorbed
          ((members-union field_total field_cmp-IsAntisymmetric r.content.united e.content.united f).1 (inl there));
    }
