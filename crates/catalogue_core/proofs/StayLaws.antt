-- Homes that have the number of their block already, as blocks are numbered one after the other.
use Rattle.std.proofs.Common.{◌≡◌, ℕ, ◌+◌, ◌<◌, ◌≤◌, false, cond, IsTrue, List, [], ◌∷◌, ◌++◌, length, get_or, drop, Contains, refl, sym, ap, subst, ◌∙◌, arith}
use Rattle.std.specs.Prelude.{Option, Some, None, unwrap_or}
use Rattle.std.specs.Option.{option_map}
use Rattle.std.proofs.lemmas.List.{drop_more, at_drop_all}
use Rattle.union_base.specs.SortedLists.{has}
use Rattle.union_base.specs.IdLaws.{ids_apart}
use Rattle.union_base.specs.declared.record_id.RecordId.{RecordId}
use Rattle.merge_laws.specs.Resolution.{AreApart, DoNotMatch}
use Rattle.merge_laws.proofs.Places.{Contains-head, Contains-tail, AllPairs-first, AllPairs-rest}
use Rattle.match_features.proofs.MemberLaws.{member-from_has}
use Rattle.union_base.specs.RecordIds.{id_cmp}
use Rattle.field_merge.specs.KeptLaws.{id_total}
use Rattle.swoosh_resolver.specs.Tables.{block_at, values_of}
use Rattle.record_homes.specs.Moves.{housed, StayAt}
use Rattle.record_homes.specs.declared.home.Home.{Home}
use Rattle.record_homes.proofs.HomeLaws.{at-housed}
use Rattle.catalogue_editions.specs.Matching.{match}
use Rattle.catalogue_editions.specs.declared.edition.Edition.{Edition}
use Rattle.catalogue_editions.proofs.Apart.{match-from_contributor}
use Rattle.edition_blocks.proofs.BlockLaws.{value-in}
use Rattle.turn_plans.specs.Histories.{MapOf, at_id}
use Rattle.turn_plans.specs.Homes.{Block}
use Rattle.catalogue_editions.specs.Ids.{has_contributor}
use Rattle.catalogue_core.specs.Housing.{housed_all, contributors_at, AreStillHoused}
use Rattle.turn_plans.proofs.Housing.{false-from_never}

-- ---- the contributors of a block

-- the contributors by what a look-up answers
pub contributors-answered : (o : Option Block) (v : Option Edition) → v ≡ option_map (λ (e : Block). e.value) o
    → unwrap_or (option_map (λ (e : Edition). e.content.contributors) v) [] ≡ unwrap_or (option_map (λ (e : Block). e.value.content.contributors) o) []
contributors-answered None v is = ap (λ (v : Option Edition). unwrap_or (option_map (λ (e : Edition). e.content.contributors) v) []) is
contributors-answered (Some e) v is = ap (λ (v : Option Edition). unwrap_or (option_map (λ (e : Edition). e.content.contributors) v) []) is

-- what has a contributor is a block
block-before : (o : Option Block) (id : RecordId) → IsTrue (has id_cmp (unwrap_or (option_map (λ (e : Block). e.value.content.contributors) o) []) id)
    → (old : Block) × (o ≡ Some old) × IsTrue (has_contributor id old.value)
block-before (Some old) id h = (old, refl, h)
block-before None id h = absurd cc

-- ---- all opened blocks

-- of those opened values of a view no two match
pub apart-opened : (kept opened : List Block) → AreApart match (values_of (kept ++ opened)) → AreApart match (values_of opened)
apart-opened [] opened apart = apart
apart-opened (e ∷ kept) opened apart = apart-opened kept opened (AllPairs-rest (DoNotMatch match) e.value (values_of (kept ++ opened)) apart)

-- the contributors that each opened block has in common with the block under its number stay, when it is their turn
abbrev pub AllStay : List (Option Block) → MapOf Home → List Block → List ℕ → Type 0
AllStay blocks homes [] numbers = Unit {0}
AllStay blocks homes (e ∷ opened) [] = Unit {0}
AllStay blocks homes (e ∷ opened) (n ∷ numbers) =
    StayAt n homes (contributors_at blocks n) e.value.content.contributors × AllStay blocks (housed n homes e.value.content.contributors) opened numbers

module _ (blocks : List (Option Block)) where
  -- each contributor of an opened block that still has a home has it in its block
  abbrev StillFor : List Block → MapOf Home → Type 0
  StillFor opened homes = (n : ℕ) (old : Block) (id : RecordId) (home : Home) → block_at blocks n ≡ Some old → IsTrue (has_contributor id old.value)
      → (e : Block) → Contains opened e → IsTrue (has_contributor id e.value) → at_id homes id ≡ Some home → home.block ≡ n

  -- a contributor of a later block is none of the first
  still-later : (e : Block) (opened : List Block) (n : ℕ) (homes : MapOf Home) → AreApart match (values_of (e ∷ opened)) → StillFor (e ∷ opened) homes → StillFor opened (housed n homes e.value.content.contributors)
  still-later e opened n homes apart still = λ m old id home stands bears f cf has-it at.
      let other : has id_cmp e.value.content.contributors id ≡ false = false-from_never (has id_cmp e.value.content.contributors id) (λ both.
      (AllPairs-first (DoNotMatch match) e.value (values_of opened) apart f.value (value-in opened f cf)).0
      (match-from_contributor e.value f.value id (member-from_has id_total ids_apart e.value.content.contributors id both) (member-from_has id_total ids_apart f.value.content.contributors id has-it))) in
      still m old id home stands bears f (Contains-tail e opened f cf) has-it
      (sym (at-housed n e.value.content.contributors homes id
      ∙ ap (λ b. cond b (option_map (λ (h : Home). record { place = h.place; block = n }) (at_id homes id)) (at_id homes id)) other) ∙ at)

  all-stay : (opened : List Block) (numbers : List ℕ) (homes : MapOf Home) → AreApart match (values_of opened) → StillFor opened homes → AllStay blocks homes opened numbers
  all-stay [] numbers homes apart still = tt
  all-stay (e ∷ opened) [] homes apart still = tt
  all-stay (e ∷ opened) (n ∷ numbers) homes apart still = (
    record {
      each = λ id home before has-it at.
          let (old, stands, bears) = block-before (block_at blocks n) id before in
          still n old id home stands bears e (Contains-head e opened) has-it at;
    },
    all-stay opened numbers (housed n homes e.value.content.contributors) (AllPairs-rest (DoNotMatch match) e.value (values_of opened) apart) (still-later e opened n homes apart still),
  )

-- once the blocks from a place on are housed, all are; and what is to stay does so
pub record HousesAll (blocks : List (Option Block)) (start : MapOf Home) (opened : List Block) (numbers : List ℕ) (homes : MapOf Home) (i : ℕ) : Type 0 where
  pub stay : AllStay blocks homes (drop i opened) (drop i numbers)
  pub rest : housed_all homes (drop i opened) (drop i numbers) ≡ housed_all start opened numbers

pub houses_all-begin : (blocks : List (Option Block)) (start : MapOf Home) (opened : List Block) (numbers : List ℕ) → AreApart match (values_of opened) → AreStillHoused blocks start → HousesAll blocks start opened numbers start 0
houses_all-begin blocks start opened numbers apart still = record {
  stay = all-stay blocks opened numbers start apart (λ n old id home stands bears e ce has-it at. still.each n old id home stands bears at);
  rest = refl;
}

module _ {blocks : List (Option Block)} {start : MapOf Home} {opened : List Block} {numbers : List ℕ} {homes : MapOf Home} {i : ℕ} (g : HousesAll blocks start opened numbers homes i) where
  module _ (e : Block) (below : i < length opened) (is : e ≡ get_or opened i e) (numbered : length opened ≤ length numbers) where
    opened-from : drop i opened ≡ e ∷ drop (i + 1) opened
    opened-from = drop_more opened i e below ∙ ap (λ (x : Block). x ∷ drop (i + 1) opened) (sym is)

    numbers-from : drop i numbers ≡ get_or numbers i 0 ∷ drop (i + 1) numbers
    numbers-from = drop_more numbers i 0 (omega (arith, below, numbered))

    stay-from : AllStay blocks homes (e ∷ drop (i + 1) opened) (get_or numbers i 0 ∷ drop (i + 1) numbers)
    stay-from =
        subst (λ (ns : List ℕ). AllStay blocks homes (e ∷ drop (i + 1) opened) ns) numbers-from
        (subst (λ (es : List Block). AllStay blocks homes es (drop i numbers)) opened-from g.stay)

    -- what the block at the place shares with the one under its number stays
    pub houses_all-now : StayAt (get_or numbers i 0) homes (contributors_at blocks (get_or numbers i 0)) e.value.content.contributors
    houses_all-now = stay-from.0

    -- the block at the place is housed
    pub houses_all-next : (homes' : MapOf Home) → homes' ≡ housed (get_or numbers i 0) homes e.value.content.contributors → HousesAll blocks start opened numbers homes' (i + 1)
    houses_all-next homes' houses = record {
      stay = subst (λ (all : MapOf Home). AllStay blocks all (drop (i + 1) opened) (drop (i + 1) numbers)) (sym houses) stay-from.1;
      rest = ap (λ (all : MapOf Home). housed_all all (drop (i + 1) opened) (drop (i + 1) numbers)) houses
          ∙ sym (ap (λ (ns : List ℕ). housed_all homes (e ∷ drop (i + 1) opened) ns) numbers-from)
          ∙ sym (ap (λ (es : List Block). housed_all homes es (drop i numbers)) opened-from)
          ∙ g.rest;
    }

  pub houses_all-end : length opened ≤ i → homes ≡ housed_all start opened numbers
  houses_all-end past = sym (at_drop_all (λ (es : List Block). housed_all homes es (drop i numbers)) opened i past) ∙ g.rest
