-- Where a record goes among editions to which records resolve: to the one that it matches, and to no other.
use Rattle.std.proofs.Common.{◌≡◌, ℕ, zero, suc, ◌<◌, ◌≤◌, Bool, true, false, IsTrue, cond, List, [], ◌∷◌, ◌++◌, length, get_or, append-nil, refl, sym, ap, ◌∙◌, arith}
use Rattle.std.specs.Prelude.{Contains, All}
use Rattle.std.proofs.Math.ListN.{set}
use Rattle.std.proofs.lemmas.Bool.{true≢false}
use Rattle.std.proofs.lemmas.List.{get_or_default}
use Rattle.std.proofs.lemmas.List.Elements.{filter-append}
use Rattle.merge_laws.specs.Resolution.{IsResolution}
use Rattle.merge_laws.proofs.Resolutions.{once-from_resolution, dominated-from_match}
use Rattle.catalogue_editions.specs.Joining.{join}
use Rattle.catalogue_editions.specs.JoinLaws.{edition_join_laws}
use Rattle.catalogue_editions.specs.Matching.{match}
use Rattle.catalogue_editions.specs.MatchLaws.{edition_match_laws}
use Rattle.catalogue_editions.specs.declared.edition.Edition.{Edition}
use Rattle.edition_sources.specs.Members.{members}
use Rattle.edition_doubts.specs.Groups.{pairs_of, gathered}
use Rattle.edition_doubts.specs.Placing.{with_member}
use Rattle.edition_doubts.specs.declared.groups.Group.{Group}

-- the group at a place was written
pub pairs-set : (groups : List Group) (i : ℕ) (g : Group) (r : Edition) → i < length groups → g.edition ≡ (get_or groups i g).edition
    → g.members.items ≡ (get_or groups i g).members.items ++ r ∷ [] → pairs_of (set groups i g) ≡ with_member i r (pairs_of groups)
pairs-set [] i g r within edition added = absurd (omega arith)
pairs-set (x ∷ xs) zero g r within edition added =
    ap (λ e. (e, g.members.items) ∷ pairs_of xs) edition ∙ ap (λ m. (x.edition, m) ∷ pairs_of xs) added
pairs-set (x ∷ xs) (suc i) g r within edition added =
    ap (λ ps. (x.edition, x.members.items) ∷ ps) (pairs-set xs i g r (omega arith) edition added)

-- the same, where the group that stood there is known
pub pairs-put : (groups : List Group) (i : ℕ) (old g : Group) (r : Edition) → i < length groups → old ≡ get_or groups i old → g.edition ≡ old.edition
    → g.members.items ≡ old.members.items ++ r ∷ [] → pairs_of (set groups i g) ≡ with_member i r (pairs_of groups)
pairs-put groups i old g r within is edition added =
    let same = is ∙ get_or_default groups i old g within in
    pairs-set groups i g r within (edition ∙ ap (λ x. x.edition) same) (added ∙ ap (λ x. x.members.items ++ r ∷ []) same)

-- there is no group at a place
pub pairs-past : (groups : List Group) (i : ℕ) (r : Edition) → length groups ≤ i → pairs_of groups ≡ with_member i r (pairs_of groups)
pairs-past [] i r past = refl
pairs-past (x ∷ xs) zero r past = absurd (omega arith)
pairs-past (x ∷ xs) (suc i) r past = ap (λ ps. (x.edition, x.members.items) ∷ ps) (pairs-past xs i r (omega arith))

not-true : (b : Bool) → (IsTrue b → ⊥) → b ≡ false
not-true true h = absurd (h refl)
not-true false h = refl

members-with : (before : List Edition) (e r : Edition) → IsTrue (match r e) → members (before ++ r ∷ []) e ≡ members before e ++ r ∷ []
members-with before e r m =
    filter-append (λ x. match x e) before (r ∷ []) ∙ ap (λ b. members before e ++ cond b (r ∷ []) []) m

members-without : (before : List Edition) (e r : Edition) → match r e ≡ false → members (before ++ r ∷ []) e ≡ members before e
members-without before e r m =
    filter-append (λ x. match x e) before (r ∷ []) ∙ ap (λ b. members before e ++ cond b (r ∷ []) []) m ∙ append-nil (members before e)

-- a record that matches none of some editions
pub gathered-none : (before editions : List Edition) (r : Edition)
    → ((j : ℕ) (d : Edition) → j < length editions → IsTrue (match r (get_or editions j d)) → ⊥)
    → gathered (before ++ r ∷ []) editions ≡ gathered before editions
gathered-none before [] r none = refl
gathered-none before (e ∷ es) r none =
    ap (λ m. (e, m) ∷ gathered (before ++ r ∷ []) es) (members-without before e r (not-true (match r e) (none 0 e (omega arith))))
    ∙ ap (λ ps. (e, members before e) ∷ ps) (gathered-none before es r (λ j d jl. none (suc j) d (omega arith)))

-- the same, where that is told of each edition
pub gathered-no : (before editions : List Edition) (r : Edition) → All (λ e. match r e ≡ false) editions
    → gathered (before ++ r ∷ []) editions ≡ gathered before editions
gathered-no before editions r none =
    gathered-none before editions r (λ j d jl m. absurd (true≢false (sym m ∙ none j d jl)))

-- a record that matches the edition at one place alone
pub gathered-one : (before editions : List Edition) (r : Edition) (i : ℕ) → i < length editions
    → ((d : Edition) → IsTrue (match r (get_or editions i d)))
    → ((j : ℕ) (d : Edition) → j < length editions → IsTrue (match r (get_or editions j d)) → j ≡ i)
    → gathered (before ++ r ∷ []) editions ≡ with_member i r (gathered before editions)
gathered-one before [] r i within found only = absurd (omega arith)
gathered-one before (e ∷ es) r zero within found only =
    ap (λ m. (e, m) ∷ gathered (before ++ r ∷ []) es) (members-with before e r (found e))
    ∙ ap (λ ps. (e, members before e ++ r ∷ []) ∷ ps)
    (gathered-none before es r (λ j d jl m. let same : suc j ≡ 0 = only (suc j) d (omega arith) m in omega arith))
gathered-one before (e ∷ es) r (suc i) within found only =
    ap (λ m. (e, m) ∷ gathered (before ++ r ∷ []) es)
    (members-without before e r (not-true (match r e) (λ m. let same : 0 ≡ suc i = only 0 e (omega arith) m in omega arith)))
    ∙ ap (λ ps. (e, members before e) ∷ ps)
    (gathered-one before es r i (omega arith) found
    (λ j d jl m. let same : suc j ≡ suc i = only (suc j) d (omega arith) m in omega arith))

-- a record matches the edition of a resolution at one place alone
pub only-place : (records editions : List Edition) → IsResolution match join records editions → (r : Edition) → Contains records r
    → (i : ℕ) → i < length editions → ((d : Edition) → IsTrue (match r (get_or editions i d)))
    → (j : ℕ) (d : Edition) → j < length editions → IsTrue (match r (get_or editions j d)) → j ≡ i
only-place records editions resolved r c i il found j d jl m =
    let once = once-from_resolution edition_join_laws edition_match_laws records editions resolved r c in
    let x = get_or editions i r in
    let y = get_or editions j d in
    let here : get_or editions i x ≡ x = get_or_default editions i x r il in
    let there : get_or editions j y ≡ y = get_or_default editions j y d jl in
    let first : i ≡ once.place =
    once.only i x il here (dominated-from_match edition_join_laws edition_match_laws records editions resolved r x c (i, il, here) (found r)) in
    let second : j ≡ once.place =
    once.only j y jl there (dominated-from_match edition_join_laws edition_match_laws records editions resolved r y c (j, jl, there) m) in
    second ∙ sym first
