-- What the calls of a pass answer, by the views that it had before and has after.
use Rattle.std.specs.Prelude.{◌≡◌, ◌≢◌, ◌⊎◌, ℕ, ◌+◌, ◌%◌, ◌<◌, ◌≤◌, List, [], ◌∷◌, ◌++◌, length}
use Rattle.catalogue_lock.specs.History.{IsPrefix}
use Rattle.catalogue_lock.specs.declared.view.View.{View}
use Rattle.catalogue_lock.specs.declared.desk.TryRefusal.{TryRefusal}
use Rattle.catalogue_lock.specs.declared.desk.TryRefusal.TheVariants.{Busy, Memory}

-- the change stands in the history, as the last entry that the pass has seen, after all that it had seen
pub record IsTurn {S C O : Type 0} (yields : S → List (ℕ × C) → ℕ → C → O → Type 0) (v w : View S C) (change : C) (turn : ℕ) (outcome : O) : Type 0 where
  pub before : List (ℕ × C)
  pub seen : w.seen ≡ before ++ (v.number, change) ∷ []
  pub own : w.own ≡ v.own ++ change ∷ []
  pub follows : IsPrefix v.seen before
  pub turn_is : turn ≡ length before + 1
  pub later : v.floor < turn
  pub floor : w.floor ≡ turn
  pub outcome_is : yields v.setting before v.number change outcome

-- the pass has no entry more, and it knows at least what it knew
pub record IsRefused {S C : Type 0} (v w : View S C) : Type 0 where
  pub own : w.own ≡ v.own
  pub seen : IsPrefix v.seen w.seen
  pub floor : v.floor ≤ w.floor

-- the answer is given over all entries of `turns` turns, at least those that were known to be finished
pub record IsAnswer {S C Q A : Type 0} (answers : S → List (ℕ × C) → Q → A → Type 0) (v w : View S C) (question : Q) (turns : ℕ) (answer : A) : Type 0 where
  pub own : w.own ≡ v.own
  pub seen : IsPrefix v.seen w.seen
  pub turns_is : turns ≡ length w.seen
  pub later : v.floor ≤ turns
  pub floor : w.floor ≡ turns
  pub answer_is : answers v.setting w.seen question answer

-- these two words were read by this call: an odd one by its load, and then it made no compare and exchange; or an even one by its load, and another by its one compare and exchange
pub record IsBusy {S C : Type 0} (v w : View S C) (loaded found : ℕ) : Type 0 where
  pub own : w.own ≡ v.own
  pub seen : w.seen ≡ v.seen
  pub floor : v.floor ≤ w.floor
  pub loaded_is : w.loaded ≡ loaded
  pub words : ((loaded % 2 ≡ 1) × (found ≡ loaded) × (w.tries ≡ v.tries)) ⊎ ((loaded % 2 ≡ 0) × (found ≢ loaded) × (w.found ≡ found) × (w.tries ≡ v.tries + 1))

-- why a turn was not taken: memory is wanted only after one compare and exchange
abbrev pub IsRefusal : {S C : Type 0} → View S C → View S C → C → TryRefusal C → Type 0
IsRefusal v w change (Busy loaded found back) = IsBusy v w loaded found × (back ≡ change)
IsRefusal v w change Memory = IsRefused v w × (w.tries ≡ v.tries + 1)
