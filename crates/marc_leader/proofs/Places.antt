-- A text by its places, and the places of a leader.
use Rattle.std.proofs.Common.{◌≡◌, ℕ, zero, suc, ◌+◌, ◌<◌, ◌≤◌, Bool, true, false, cond, List, [], ◌∷◌, length, get_or, drop, Option, Some, None, refl, ◌∙◌, ap, arith, add-zero}
use Rattle.std.proofs.Math.Seq.{drop-cons}
use Rattle.std.proofs.Math.ListN.{drop_of_length-le}
use Rattle.marc_leader.specs.Leader.{may_stand, misfit_from}

-- so many bytes of the text, from a place on
abbrev pub reads : ℕ → ℕ → List ℕ → List ℕ
reads zero at text = []
reads (suc n) at text = get_or text at 0 ∷ reads n (suc at) text

-- what is left of a text is all its bytes
pub drop-reads : (n at : ℕ) (text : List ℕ) → length text ≡ at + n → drop at text ≡ reads n at text
drop-reads zero at text h = let le : length text ≤ at = omega arith in drop_of_length-le text le
drop-reads (suc n) at text h =
    let lt : at < length text = omega arith in
    let e : length text ≡ suc at + n = omega arith in
    drop-cons text at 0 lt ∙ ap (λ rest. get_or text at 0 ∷ rest) (drop-reads n (suc at) text e)

-- a test that leads to no place was passed
passed : (test : Bool) (o : Option ℕ) (at : ℕ) → cond test o (Some at) ≡ None → (test ≡ true) × (o ≡ None)
passed true o at h = (refl, h)
passed false o at h = cc

-- where no byte is a misfit, each may stand at its place
pub stands_from : (text : List ℕ) (at i : ℕ) → misfit_from at text ≡ None → i < length text
    → may_stand (at + i) (get_or text i 0) ≡ true
stands_from [] at i h lt = absurd (omega arith)
stands_from (b ∷ rest) at zero h lt = rw add-zero (passed (may_stand at b) (misfit_from (suc at) rest) at h).0
stands_from (b ∷ rest) at (suc i) h lt =
    let later = (passed (may_stand at b) (misfit_from (suc at) rest) at h).1 in
    let e : at + suc i ≡ suc at + i = omega arith in
    let below : i < length rest = omega arith in
    rw e (stands_from rest (suc at) i later below)

-- each byte may stand at its place
abbrev pub AllStand : ℕ → List ℕ → Type 0
AllStand at [] = Unit {0}
AllStand at (b ∷ rest) = (may_stand at b ≡ true) × AllStand (suc at) rest

-- where each byte may stand at its place, none is a misfit
pub misfit-AllStand : (at : ℕ) (text : List ℕ) → AllStand at text → misfit_from at text ≡ None
misfit-AllStand at [] h = refl
misfit-AllStand at (b ∷ rest) h =
    ap (λ test. cond test (misfit_from (suc at) rest) (Some at)) h.0 ∙ misfit-AllStand (suc at) rest h.1
