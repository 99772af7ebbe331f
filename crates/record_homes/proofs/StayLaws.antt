-- Homes that have the number of their block already, and are passed over when blocks are numbered.
use Rattle.std.proofs.Common.{◌≡◌, ℕ, Bool, true, false, cond, ◌||◌, IsTrue, List, [], ◌∷◌, refl, sym, ap, subst, ◌∙◌}
use Rattle.std.specs.Prelude.{Option, Some, None}
use Rattle.std.specs.Option.{option_map}
use Rattle.std.specs.declared.cmp.Ordering.TheVariants.{Equal}
use Rattle.std.specs.Ordering.{is_eq}
use Rattle.union_base.specs.SortedLists.{has}
use Rattle.union_base.specs.declared.record_id.RecordId.{RecordId}
use Rattle.union_base.specs.RecordIds.{id_cmp}
use Rattle.record_homes.specs.Maps.{MapOf, at_id, change_at}
use Rattle.record_homes.specs.Moves.{housed, StayAt}
use Rattle.record_homes.specs.declared.home.Home.{Home}
use Rattle.record_homes.proofs.MapLaws.{same, same-itself, at-changed}

or_left : (a b : Bool) → a ≡ true → (a || b) ≡ true
or_left a b h = ap (λ t. t || b) h

or_right : (a b : Bool) → b ≡ true → (a || b) ≡ true
or_right true b h = refl
or_right false b h = h

-- a home that has the number is set to what it is
set-again : (number : ℕ) (id : RecordId) (homes : MapOf Home) → ((home : Home) → at_id homes id ≡ Some home → home.block ≡ number)
    → change_at id (λ (h : Home). record { place = h.place; block = number }) homes ≡ homes
set-again number id [] stays = refl
set-again number id (p ∷ homes) stays =
    elim (same id p.0) as (λ b. ((home : Home) → cond b (Some p.1) (at_id homes id) ≡ Some home → home.block ≡ number)
    → cond {A = MapOf Home} b ((p.0, record { place = p.1.place; block = number }) ∷ homes) (p ∷ change_at id (λ (h : Home). record { place = h.place; block = number }) homes) ≡ p ∷ homes) [
      | true ↦ λ stays. let has-it : number ≡ p.1.block = sym (stays p.1 refl) in λ i. (p.0, record { place = p.1.place; block = has-it i }) ∷ homes
      | false ↦ λ stays. ap (λ (rest : MapOf Home). p ∷ rest) (set-again number id homes stays)
    ] stays

-- a home that has the number has it also once some home was set to it
set-stays : (number : ℕ) (b : Bool) (o : Option Home) → ((x : Home) → o ≡ Some x → x.block ≡ number)
    → (home : Home) → cond b (option_map (λ (h : Home). record { place = h.place; block = number }) o) o ≡ Some home → home.block ≡ number
set-stays number true None stays home at = cc
set-stays number true (Some x) stays home at = let written : ◌≡◌ {A = Home} (record { place = x.place; block = number }) home = cc in ap (λ (h : Home). h.block) (sym written)
set-stays number false o stays home at = stays home at

has-more : (id : RecordId) (ids : List RecordId) (q : RecordId) → IsTrue (has id_cmp ids q) → IsTrue (has id_cmp (id ∷ ids) q)
has-more id ids q h = or_right (same q id) (has id_cmp ids q) h

-- once the ids that are left are housed, all are; and those of them that are also left of the other list stay
pub record Houses (number : ℕ) (start : MapOf Home) (ids : List RecordId) (homes : MapOf Home) (left right : List RecordId) : Type 0 where
  pub stay : StayAt number homes right left
  pub rest : housed number homes left ≡ housed number start ids

module _ {number : ℕ} {start : MapOf Home} {ids : List RecordId} {homes : MapOf Home} {left right : List RecordId} (g : Houses number start ids homes left right) where
  -- the first id that is left is housed
  pub houses-set : (id : RecordId) (lefts : List RecordId) → left ≡ id ∷ lefts
      → (homes' : MapOf Home) → homes' ≡ change_at id (λ (h : Home). record { place = h.place; block = number }) homes → Houses number start ids homes' lefts right
  houses-set id lefts first homes' sets = record {
    stay = record {
      each = λ q home before in-rest at.
          set-stays number (same id q) (at_id homes q)
          (λ x found. g.stay.each q x before (subst (λ (xs : List RecordId). IsTrue (has id_cmp xs q)) (sym first) (has-more id lefts q in-rest)) found) home
          (sym (ap (λ (all : MapOf Home). at_id all q) sets ∙ at-changed homes id (λ (h : Home). record { place = h.place; block = number }) q) ∙ at);
    };
    rest = ap (λ (all : MapOf Home). housed number all lefts) sets ∙ sym (ap (housed number homes) first) ∙ g.rest;
  }

  -- the first id that is left is the first of the other list too, and is passed over
  pub houses-passed : (id other : RecordId) (lefts rights : List RecordId) → left ≡ id ∷ lefts → right ≡ other ∷ rights → id_cmp id other ≡ Equal → Houses number start ids homes lefts rights
  houses-passed id other lefts rights first first' tie = record {
    stay = record {
      each = λ q home before in-rest at.
          g.stay.each q home (subst (λ (xs : List RecordId). IsTrue (has id_cmp xs q)) (sym first') (has-more other rights q before))
          (subst (λ (xs : List RecordId). IsTrue (has id_cmp xs q)) (sym first) (has-more id lefts q in-rest)) at;
    };
    rest = sym (ap (λ (all : MapOf Home). housed number all lefts) (set-again number id homes (λ home at.
        g.stay.each id home
        (subst (λ (xs : List RecordId). IsTrue (has id_cmp xs id)) (sym first') (or_left (same id other) (has id_cmp rights id) (ap is_eq tie)))
        (subst (λ (xs : List RecordId). IsTrue (has id_cmp xs id)) (sym first) (or_left (same id id) (has id_cmp lefts id) (same-itself id))) at)))
        ∙ sym (ap (housed number homes) first) ∙ g.rest;
  }

  -- the first id of the other list is not looked for any more
  pub houses-next : (other : RecordId) (rights : List RecordId) → right ≡ other ∷ rights → Houses number start ids homes left rights
  houses-next other rights first = record {
    stay = record {
      each = λ q home before in-rest at.
          g.stay.each q home (subst (λ (xs : List RecordId). IsTrue (has id_cmp xs q)) (sym first) (has-more other rights q before)) in-rest at;
    };
    rest = g.rest;
  }
