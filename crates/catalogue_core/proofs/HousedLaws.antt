-- Homes once blocks are numbered: what is found under an id then.
use Rattle.std.proofs.Common.{◌≡◌, ℕ, zero, suc, ◌≤◌, Bool, true, false, cond, IsTrue, List, [], ◌∷◌, length, Contains, refl, sym, ap, ◌∙◌, inl, inr, arith}
use Rattle.std.specs.Prelude.{◌⊎◌, Option, Some, None, slice_get}
use Rattle.std.specs.Option.{option_map}
use Rattle.std.specs.List.Sorted.{IsStrictlySortedBy}
use Rattle.std.specs.Map.{keys_of}
use Rattle.union_base.specs.SortedLists.{has}
use Rattle.union_base.specs.declared.record_id.RecordId.{RecordId}
use Rattle.union_base.specs.RecordIds.{id_cmp}
use Rattle.merge_laws.proofs.Places.{Contains-cases}
use Rattle.record_homes.specs.Moves.{housed}
use Rattle.record_homes.specs.declared.home.Home.{Home}
use Rattle.record_homes.proofs.HomeLaws.{at-housed, ordered-housed}
use Rattle.turn_plans.specs.Histories.{MapOf, at_id}
use Rattle.turn_plans.specs.Homes.{Block}
use Rattle.catalogue_editions.specs.Ids.{has_contributor}
use Rattle.catalogue_core.specs.Housing.{housed_all}

pub ordered-housed_all : (opened : List Block) (numbers : List ℕ) (homes : MapOf Home) → IsStrictlySortedBy id_cmp (keys_of homes) → IsStrictlySortedBy id_cmp (keys_of (housed_all homes opened numbers))
ordered-housed_all [] numbers homes up = up
ordered-housed_all (e ∷ opened) [] homes up = up
ordered-housed_all (e ∷ opened) (n ∷ numbers) homes up = ordered-housed_all opened numbers (housed n homes e.value.content.contributors) (ordered-housed n e.value.content.contributors homes up)

-- the places stay
pub place-housed_all : (opened : List Block) (numbers : List ℕ) (homes : MapOf Home) (q : RecordId)
    → option_map (λ (h : Home). h.place) (at_id (housed_all homes opened numbers) q) ≡ option_map (λ (h : Home). h.place) (at_id homes q)
place-housed_all [] numbers homes q = refl
place-housed_all (e ∷ opened) [] homes q = refl
place-housed_all (e ∷ opened) (n ∷ numbers) homes q =
    place-housed_all opened numbers (housed n homes e.value.content.contributors) q
    ∙ ap (option_map (λ (h : Home). h.place)) (at-housed n e.value.content.contributors homes q)
    ∙ stays (has id_cmp e.value.content.contributors q) (at_id homes q)
  where
    stays : (b : Bool) (o : Option Home) → option_map (λ (h : Home). h.place) (cond b (option_map (λ (h : Home). record { place = h.place; block = n }) o) o) ≡ option_map (λ (h : Home). h.place) o
    stays true None = refl
    stays true (Some h) = refl
    stays false o = refl

-- the number is that of an opened block that has the contributor, or the old one where none has it
pub block-housed_all : (opened : List Block) (numbers : List ℕ) (homes : MapOf Home) (q : RecordId) (h : Home) → length opened ≤ length numbers → at_id (housed_all homes opened numbers) q ≡ Some h
    → ((i : ℕ) × (e : Block) × (slice_get opened i ≡ Some e) × IsTrue (has_contributor q e.value) × (slice_get numbers i ≡ Some h.block))
    ⊎ ((h₀ : Home) × (at_id homes q ≡ Some h₀) × (h.block ≡ h₀.block) × ((e : Block) → Contains opened e → IsTrue (has_contributor q e.value) → ⊥))
block-housed_all [] numbers homes q h le at = inr (h, at, refl, λ e (k, kl, is) b. omega arith)
block-housed_all (e ∷ opened) [] homes q h le at = absurd (omega arith)
block-housed_all (e ∷ opened) (n ∷ numbers) homes q h le at =
    elim (block-housed_all opened numbers (housed n homes e.value.content.contributors) q h (omega arith) at) [
      | inl (i, f, is, b, num) ↦ inl (suc i, f, is, b, num)
      | inr (h₀, at₀, block, none) ↦ first (has_contributor q e.value) refl (at_id homes q) refl h₀ (sym (at-housed n e.value.content.contributors homes q) ∙ at₀) block none
    ]
  where
    first : (b : Bool) → has_contributor q e.value ≡ b → (o : Option Home) → at_id homes q ≡ o → (h₀ : Home) → cond b (option_map (λ (h : Home). record { place = h.place; block = n }) o) o ≡ Some h₀ → h.block ≡ h₀.block
        → ((f : Block) → Contains opened f → IsTrue (has_contributor q f.value) → ⊥)
        → ((i : ℕ) × (f : Block) × (slice_get (e ∷ opened) i ≡ Some f) × IsTrue (has_contributor q f.value) × (slice_get (n ∷ numbers) i ≡ Some h.block))
        ⊎ ((h₀ : Home) × (at_id homes q ≡ Some h₀) × (h.block ≡ h₀.block) × ((f : Block) → Contains (e ∷ opened) f → IsTrue (has_contributor q f.value) → ⊥))
    first true b None is h₀ found block none = cc
    first true b (Some x) is h₀ found block none =
        (let written : ◌≡◌ {A = Home} (record { place = x.place; block = n }) h₀ = cc in
        inl (zero, e, refl, b, ap Some (ap (λ (h : Home). h.block) written ∙ sym block)))
    first false b o is h₀ found block none =
        inr (
          h₀,
          is ∙ found,
          block,
          λ f c has'. elim (Contains-cases e opened f c) [
            | inl same' ↦ (let clash : true ≡ false = sym has' ∙ ap (λ (x : Block). has_contributor q x.value) (sym same') ∙ b in cc)
            | inr later ↦ none f later has'
          ],
        )
