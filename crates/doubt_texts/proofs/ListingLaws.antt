-- Editions that are added one after the other.
use Rattle.std.proofs.Common.{◌≡◌, ℕ, ◌+◌, ◌<◌, ◌≤◌, List, [], ◌∷◌, ◌++◌, length, get_or, drop, append_assoc, append-nil, refl, sym, ap, ◌∙◌, subst, arith}
use Rattle.std.specs.Prelude.{find}
use Rattle.std.proofs.lemmas.List.{drop_more}
use Rattle.std.proofs.Math.ListN.{drop_of_length-le}
use Rattle.catalogue_editions.specs.declared.edition.Edition.{Edition}
use Rattle.edition_derivations.specs.Steps.{IsDerivation, IsEditionOf}
use Rattle.edition_derivations.specs.declared.step.Step.{Step}
use Rattle.edition_doubts.specs.DoubtfulSteps.{is_doubtful_step}
use Rattle.edition_doubts.specs.Groups.{pairs_of, AreEditions}
use Rattle.edition_doubts.specs.declared.doubts.Doubt.{Doubt}
use Rattle.edition_doubts.specs.declared.groups.Group.{Group}
use Rattle.doubt_texts.specs.Editions.{told_doubts, doubts_in, told_line, AddsEdition, AddsEach}
use Rattle.doubt_texts.specs.declared.form.Form.{Form}

-- an edition of which a reason stands was added
pub edition-added : (form : Form) (e : Edition) (members : List Edition) (doubts : List Doubt) → 0 < length doubts → (steps : List Step)
    → IsDerivation members steps e → (before after : List ℕ)
    → after ≡ before ++ told_line form e doubts (find (is_doubtful_step members) steps) → AddsEdition form e members doubts before after
edition-added form e members [] some steps derived before after added = absurd (omega arith)
edition-added form e members (d ∷ doubts) some steps derived before after added = (steps, derived, added)

-- one of which none stands was not
pub edition-left : (form : Form) (e : Edition) (members : List Edition) (doubts : List Doubt) → length doubts ≡ 0 → (text : List ℕ)
    → AddsEdition form e members doubts text text
edition-left form e members [] none text = refl
edition-left form e members (d ∷ doubts) none text = absurd (omega arith)

-- the group at hand is the first of those that are left
pub first-left : (groups : List Group) (i : ℕ) (g : Group) → i < length groups → get_or groups i g ≡ g → drop i groups ≡ g ∷ drop (i + 1) groups
first-left groups i g within is = drop_more groups i g within ∙ ap (λ x. x ∷ drop (i + 1) groups) is

-- the edition at hand was added
pub adds-next : (form : Form) (groups : List Group) (i : ℕ) (g : Group) → drop i groups ≡ g ∷ drop (i + 1) groups → (start before after : List ℕ)
    → AddsEdition form g.edition g.members.items (told_doubts g.edition g.members.items) before after
    → ((end : List ℕ) → AddsEach form (pairs_of (drop i groups)) before end → AddsEach form (pairs_of groups) start end)
    → (end : List ℕ) → AddsEach form (pairs_of (drop (i + 1) groups)) after end → AddsEach form (pairs_of groups) start end
adds-next form groups i g first start before after adds so_far end rest =
    so_far end (subst (λ gs. AddsEach form (pairs_of gs) before end) (sym first) (after, adds, rest))

-- its reasons were added
pub doubts-next : (groups : List Group) (i : ℕ) (g : Group) → drop i groups ≡ g ∷ drop (i + 1) groups → (before after whole : List Doubt)
    → after ≡ before ++ told_doubts g.edition g.members.items → before ++ doubts_in (pairs_of (drop i groups)) ≡ whole
    → after ++ doubts_in (pairs_of (drop (i + 1) groups)) ≡ whole
doubts-next groups i g first before after whole added so_far =
    ap (λ ds. ds ++ doubts_in (pairs_of (drop (i + 1) groups))) added
    ∙ append_assoc before (told_doubts g.edition g.members.items) (doubts_in (pairs_of (drop (i + 1) groups)))
    ∙ sym (ap (λ gs. before ++ doubts_in (pairs_of gs)) first)
    ∙ so_far

-- it is one to which its records resolve, and so are those that are left
pub editions-left : (groups : List Group) (i : ℕ) (g : Group) → drop i groups ≡ g ∷ drop (i + 1) groups → AreEditions (pairs_of (drop i groups))
    → IsEditionOf g.members.items g.edition × AreEditions (pairs_of (drop (i + 1) groups))
editions-left groups i g first are = subst (λ gs. AreEditions (pairs_of gs)) first are

-- all were added
pub adds-ended : (form : Form) (groups : List Group) (i : ℕ) → length groups ≤ i → (text : List ℕ) → AddsEach form (pairs_of (drop i groups)) text text
adds-ended form groups i over text = subst (λ gs. AddsEach form (pairs_of gs) text text) (sym (drop_of_length-le groups over)) refl

pub doubts-ended : (groups : List Group) (i : ℕ) → length groups ≤ i → (doubts whole : List Doubt)
    → doubts ++ doubts_in (pairs_of (drop i groups)) ≡ whole → doubts ≡ whole
doubts-ended groups i over doubts whole so_far =
    sym (append-nil doubts) ∙ sym (ap (λ gs. doubts ++ doubts_in (pairs_of gs)) (drop_of_length-le groups over)) ∙ so_far
