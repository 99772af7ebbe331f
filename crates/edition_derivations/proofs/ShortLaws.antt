-- Steps that are cut short, and records that are left out.
use Rattle.std.proofs.Common.{◌≡◌, ℕ, ◌+◌, ◌<◌, IsTrue, List, [], ◌∷◌, ◌++◌, length, get_or, take, drop, sym, ap, ◌∙◌, subst, inl, inr}
use Rattle.std.specs.Prelude.{Contains, filter}
use Rattle.std.proofs.lemmas.List.{take-append-drop, take_more}
use Rattle.std.proofs.lemmas.List.Elements.{Contains-append_left, Contains-append_right, Contains-append_cases}
use Rattle.union_base.specs.declared.record_id.RecordId.{RecordId}
use Rattle.match_features.proofs.MemberLaws.{member-from_filter}
use Rattle.catalogue_editions.specs.Matching.{match}
use Rattle.catalogue_editions.specs.declared.edition.Edition.{Edition}
use Rattle.edition_derivations.specs.declared.step.Step.{Step}
use Rattle.edition_derivations.specs.Steps.{merged, holds, AreLater, AreSteps, EndsWith, IsDerivation}
use Rattle.edition_derivations.specs.Shortened.{Brings, IsShortened}
use Rattle.edition_derivations.proofs.StepLaws.{later-front, last-push, derivation-among}

ends-push : (records : List Edition) (front : List Step) (s : Step) (e : Edition) → e ≡ merged s → EndsWith records (front ++ s ∷ []) e
ends-push records [] s e is = is
ends-push records (t ∷ front) s e is = last-push (λ last. e ≡ merged last) (t ∷ front) s is

-- the steps up to one of them are a derivation of what it merges to
pub cut-brings : (records : List Edition) (one other : RecordId) (steps cut : List Step) (at : ℕ) (s : Step) (e : Edition) → at < length steps
    → get_or steps at s ≡ s → cut ≡ take (at + 1) steps → e ≡ merged s → IsTrue (holds (merged s) one) → IsTrue (holds (merged s) other)
    → AreSteps records steps → Brings records one other cut e
cut-brings records one other steps cut at s e within place is same has_one has_other all =
    let more : take (at + 1) steps ≡ take at steps ++ s ∷ [] = take_more steps at s within ∙ ap (λ x. take at steps ++ x ∷ []) place in
    let whole : take (at + 1) steps ++ drop (at + 1) steps ≡ steps = take-append-drop (at + 1) steps in
    record {
      derived = record {
        by = subst (AreLater records []) (sym is)
            (later-front records [] (take (at + 1) steps) (drop (at + 1) steps) (subst (AreLater records []) (sym whole) all));
        ends = subst (λ all. EndsWith records all e) (sym (is ∙ more)) (ends-push records (take at steps) s e same);
      };
      has_one = subst (λ x. IsTrue (holds x one)) (sym same) has_one;
      has_other = subst (λ x. IsTrue (holds x other)) (sym same) has_other;
    }

-- what is left of a list without some that stand beside one another is of the list
pub among-without : (records : List Edition) (start end : ℕ) (r : Edition) → Contains (take start records ++ drop end records) r → Contains records r
among-without records start end r c =
    elim (Contains-append_cases (take start records) (drop end records) r c) [
      | inl front ↦ subst (λ xs. Contains xs r) (take-append-drop start records) (Contains-append_left (take start records) (drop start records) r front)
      | inr back ↦ subst (λ xs. Contains xs r) (take-append-drop end records) (Contains-append_right (take end records) (drop end records) r back)
    ]

pub brings-among : (some records : List Edition) (one other : RecordId) (steps : List Step) (e : Edition)
    → ((r : Edition) → Contains some r → Contains records r) → Brings some one other steps e → Brings records one other steps e
brings-among some records one other steps e all b = record {
  derived = derivation-among some records all steps e b.derived;
  has_one = b.has_one;
  has_other = b.has_other;
}

-- fewer records bring the two together
pub shortened-by : (records : List Edition) (one other : RecordId) (kept fewer tried : List Edition) (steps now : List Step) (e new : Edition) (start end : ℕ)
    → fewer ≡ take start kept ++ drop end kept → tried ≡ take start kept ++ drop end kept → Brings tried one other now new
    → IsShortened records one other kept steps e → IsShortened records one other fewer now new
shortened-by records one other kept fewer tried steps now e new start end is same brings s =
    let among : (r : Edition) → Contains (take start kept ++ drop end kept) r → Contains records r =
    λ r c. s.among r (among-without kept start end r c)
    in
    record {
      among = subst (λ xs. (r : Edition) → Contains xs r → Contains records r) (sym is) among;
      brings = brings-among tried records one other now new (subst (λ xs. (r : Edition) → Contains xs r → Contains records r) (sym same) among) brings;
    }

-- at first all records of the edition are kept
pub shortened-begun : (records members : List Edition) (whole : Edition) (one other : RecordId) (steps : List Step)
    → members ≡ filter (λ r. match r whole) records → IsDerivation records steps whole → IsTrue (holds whole one) → IsTrue (holds whole other)
    → IsShortened records one other members steps whole
shortened-begun records members whole one other steps is d has_one has_other = record {
  among = subst (λ xs. (r : Edition) → Contains xs r → Contains records r) (sym is) (λ r c. (member-from_filter (λ r. match r whole) records r c).0);
  brings = record { derived = d; has_one = has_one; has_other = has_other };
}
