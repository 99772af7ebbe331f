-- What holds of steps: of more of them, of fewer, and over more records; and what they merge to derives from the records.
use Rattle.std.proofs.Common.{List, [], ◌∷◌, ◌++◌, append_assoc, append-nil, sym, subst, inl, inr, arith}
use Rattle.std.specs.Prelude.{Contains}
use Rattle.std.proofs.lemmas.List.Elements.{Contains-append_left, Contains-push_cases}
use Rattle.merge_laws.specs.Resolution.{Derives, member, merged as merges}
use Rattle.merge_laws.proofs.Places.{Contains-cases}
use Rattle.catalogue_editions.specs.Joining.{join}
use Rattle.catalogue_editions.specs.Matching.{match}
use Rattle.catalogue_editions.specs.declared.edition.Edition.{Edition}
use Rattle.edition_derivations.specs.declared.step.Step.{Step}
use Rattle.edition_derivations.specs.Steps.{merged, IsKnown, IsStep, AreLater, AreSteps, LastHas, IsDerivation}

-- what is known stays known after more steps
pub known-later : (records : List Edition) (steps more : List Step) (e : Edition) → IsKnown records steps e → IsKnown records (steps ++ more) e
known-later records steps more e (inl c) = inl c
known-later records steps more e (inr (s, c, is)) = inr (s, Contains-append_left steps more s c, is)

-- one step more
pub later-push : (records : List Edition) (earlier later : List Step) (s : Step) → AreLater records earlier later → IsStep records (earlier ++ later) s
    → AreLater records earlier (later ++ s ∷ [])
later-push records earlier [] s all is = (subst (λ steps. IsStep records steps s) (append-nil earlier) is, tt)
later-push records earlier (t ∷ later) s all is =
    (all.0, later-push records (earlier ++ t ∷ []) later s all.1 (subst (λ steps. IsStep records steps s) (sym (append_assoc earlier (t ∷ []) later)) is))

-- the first of the steps alone
pub later-front : (records : List Edition) (earlier later more : List Step) → AreLater records earlier (later ++ more) → AreLater records earlier later
later-front records earlier [] more all = tt
later-front records earlier (t ∷ later) more all = (all.0, later-front records (earlier ++ t ∷ []) later more all.1)

-- over more records
known-among : (some records : List Edition) → ((e : Edition) → Contains some e → Contains records e) → (steps : List Step) (e : Edition)
    → IsKnown some steps e → IsKnown records steps e
known-among some records all steps e (inl c) = inl (all e c)
known-among some records all steps e (inr found) = inr found

pub later-among : (some records : List Edition) → ((e : Edition) → Contains some e → Contains records e) → (earlier later : List Step)
    → AreLater some earlier later → AreLater records earlier later
later-among some records all earlier [] steps = tt
later-among some records all earlier (s ∷ later) steps = (
  record {
    left = known-among some records all earlier s.left steps.0.left;
    right = known-among some records all earlier s.right steps.0.right;
    matching = steps.0.matching;
  },
  later-among some records all (earlier ++ s ∷ []) later steps.1,
)

-- the last of some steps
pub last-push : (P : Step → Type 0) (steps : List Step) (s : Step) → P s → LastHas P (steps ++ s ∷ [])
last-push P [] s p = p
last-push P (t ∷ []) s p = p
last-push P (t ∷ u ∷ rest) s p = last-push P (u ∷ rest) s p

pub last-weaker : (P Q : Step → Type 0) → ((s : Step) → P s → Q s) → (steps : List Step) → LastHas P steps → LastHas Q steps
last-weaker P Q weaker [] p = tt
last-weaker P Q weaker (s ∷ []) p = weaker s p
last-weaker P Q weaker (s ∷ t ∷ rest) p = last-weaker P Q weaker (t ∷ rest) p

pub derivation-among : (some records : List Edition) → ((e : Edition) → Contains some e → Contains records e) → (steps : List Step) (e : Edition)
    → IsDerivation some steps e → IsDerivation records steps e
derivation-among some records all [] e d = record { by = tt; ends = all e d.ends }
derivation-among some records all (s ∷ rest) e d = record { by = later-among some records all [] (s ∷ rest) d.by; ends = d.ends }

-- a value that is known derives from the records
known-derives : (records : List Edition) (steps : List Step) → ((s : Step) → Contains steps s → Derives match join records (merged s))
    → (e : Edition) → IsKnown records steps e → Derives match join records e
known-derives records steps all e (inl c) = member c
known-derives records steps all e (inr (s, c, is)) = subst (Derives match join records) (sym is) (all s c)

later-derives : (records : List Edition) (earlier later : List Step) → ((s : Step) → Contains earlier s → Derives match join records (merged s))
    → AreLater records earlier later → (s : Step) → Contains later s → Derives match join records (merged s)
later-derives records earlier [] before all s (k, kl, e) = absurd (omega arith)
later-derives records earlier (t ∷ later) before all s c =
    let this : Derives match join records (merged t) =
    merges (known-derives records earlier before t.left all.0.left) (known-derives records earlier before t.right all.0.right) all.0.matching
    in
    let now : (u : Step) → Contains (earlier ++ t ∷ []) u → Derives match join records (merged u) =
    λ u cu. elim (Contains-push_cases earlier t u cu) [
      | inl old ↦ before u old
      | inr same ↦ subst (λ v. Derives match join records (merged v)) same this
    ]
    in
    elim (Contains-cases t later s c) [
      | inl same ↦ subst (λ v. Derives match join records (merged v)) same this
      | inr rest ↦ later-derives records (earlier ++ t ∷ []) later now all.1 s rest
    ]

pub steps-derive : (records : List Edition) (steps : List Step) → AreSteps records steps → (e : Edition) → IsKnown records steps e
    → Derives match join records e
steps-derive records steps all e known =
    known-derives records steps (later-derives records [] steps (λ s c. let (k, kl, is) = c in absurd (omega arith)) all) e known
