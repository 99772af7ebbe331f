-- Lines that are added one after the other.
use Rattle.std.proofs.Common.{◌≡◌, ℕ, ◌+◌, ◌<◌, ◌≤◌, List, ◌∷◌, ◌++◌, length, get_or, drop, append_assoc, append-nil, sym, ap, ◌∙◌}
use Rattle.std.proofs.lemmas.List.{drop_more}
use Rattle.std.proofs.Math.ListN.{drop_of_length-le}
use Rattle.catalogue_editions.specs.declared.edition.Edition.{Edition}
use Rattle.edition_derivations.specs.declared.step.Step.{Step}
use Rattle.why_texts.specs.Steps.{told_step, steps_text}

-- a text that was added, and one that was added behind it
pub behind : (old mid new a b : List ℕ) → mid ≡ old ++ a → new ≡ mid ++ b → new ≡ old ++ (a ++ b)
behind old mid new a b first second = second ∙ ap (λ t. t ++ b) first ∙ append_assoc old a b

-- the line of the step at hand was added
pub steps-next : (records : List Edition) (text now whole : List ℕ) (steps : List Step) (i : ℕ) (s : Step) → i < length steps → get_or steps i s ≡ s
    → now ≡ text ++ told_step records (i + 1) s → text ++ steps_text records (i + 1) (drop i steps) ≡ whole → now ++ steps_text records (i + 1 + 1) (drop (i + 1) steps) ≡ whole
steps-next records text now whole steps i s within is added before =
    let first : drop i steps ≡ s ∷ drop (i + 1) steps = drop_more steps i s within ∙ ap (λ x. x ∷ drop (i + 1) steps) is in
    ap (λ t. t ++ steps_text records (i + 1 + 1) (drop (i + 1) steps)) added
    ∙ append_assoc text (told_step records (i + 1) s) (steps_text records (i + 1 + 1) (drop (i + 1) steps))
    ∙ sym (ap (λ all. text ++ steps_text records (i + 1) all) first)
    ∙ before

-- all were added
pub steps-ended : (records : List Edition) (text whole : List ℕ) (steps : List Step) (i n : ℕ) → length steps ≤ i → text ++ steps_text records n (drop i steps) ≡ whole → text ≡ whole
steps-ended records text whole steps i n over before =
    sym (append-nil text) ∙ sym (ap (λ all. text ++ steps_text records n all) (drop_of_length-le steps over)) ∙ before
