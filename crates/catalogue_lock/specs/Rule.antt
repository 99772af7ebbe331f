-- The rule of a desk: what is true of its word, of its machine and of the views of all its seats, between any two steps.
use Rattle.std.specs.Prelude.{◌≡◌, ℕ, ◌+◌, ◌*◌, ◌<◌, ◌≤◌, ◌==◌, Bool, true, cond, ◌&&◌, List, [], ◌∷◌, length, All, count_by, nat_lt, MatchBool, Option, Some}
use mathlib.Core.Option.{some, none}
use lib.ListN.{get_elem?}
use Rattle.atomic_table.specs.Table.{State}
use Rattle.catalogue_lock.specs.History.{changes_of, IsPrefix}
use Rattle.catalogue_lock.specs.Ended.{Ended, is_pass}
use Rattle.catalogue_lock.specs.Ended.Role.{AsRoot, AsPass}
use Rattle.catalogue_lock.specs.declared.view.View.{View}

-- 1 where it is true, else 0
abbrev pub one_if : Bool → ℕ
one_if b = cond b 1 0

module _ {S C : Type 0} where
  -- the seat is a live pass's
  abbrev pub lives : View S C → Bool
  lives v = is_pass v.role

  -- it is the live pass of this number
  abbrev pub lives_as : ℕ → View S C → Bool
  lives_as n v = is_pass v.role && (v.number == n)

  -- it holds the turn
  abbrev pub has_turn : View S C → Bool
  has_turn v = v.holds

-- it was the pass of this number
abbrev pub ended_as : {C : Type 0} → ℕ → Ended C → Bool
ended_as n e = e.number == n

-- the root knows how many passes were made, and which were ended with what
pub record RootOk {S C : Type 0} (chosen : S) (history : List (ℕ × C)) (made : ℕ) (ended : List (Ended C)) (j : ℕ) (v : View S C) : Type 0 where
  pub first : j ≡ 0
  pub setting : v.setting ≡ chosen
  pub made_is : v.made ≡ made
  pub ended_is : v.ended ≡ ended
  pub floor : v.floor ≤ length history

-- a pass knows its own entries, and a beginning of the history
pub record PassOk {S C : Type 0} (chosen : S) (history : List (ℕ × C)) (v : View S C) : Type 0 where
  pub setting : v.setting ≡ chosen
  pub own : changes_of v.number history ≡ v.own
  pub own_seen : changes_of v.number v.seen ≡ v.own
  pub seen : IsPrefix v.seen history
  pub floor_seen : length v.seen ≤ v.floor
  pub floor : v.floor ≤ length history
  pub base : v.holds ≡ true → v.base ≡ history

-- what is true of the view v of the j-th seat. Of a spent seat nothing is said but that it doesn't hold the turn
pub record SeatOk {S C : Type 0} (chosen : S) (history : List (ℕ × C)) (made : ℕ) (ended : List (Ended C)) (j : ℕ) (v : View S C) : Type 0 where
  pub root : v.role ≡ AsRoot → RootOk chosen history made ended j v
  pub pass : v.role ≡ AsPass → PassOk chosen history v
  pub holder : v.holds ≡ true → v.role ≡ AsPass

-- what an ended pass left is all that the history has of it
pub record EndedOk {C : Type 0} (history : List (ℕ × C)) (e : Ended C) : Type 0 where
  pub own : changes_of e.number history ≡ e.own
  pub own_seen : changes_of e.number e.seen ≡ e.own
  pub seen : IsPrefix e.seen history

-- the word, the machine at home and the views of all seats stand for one history, of which the desk keeps no other record
pub record Ruled {M S C : Type 0} (of_setting : M → S) (of_entries : M → List (ℕ × C)) (s : State (Option M) (View S C)) : Type 0 where
  pub history : List (ℕ × C)
  -- the one setting
  pub chosen : S
  -- how many passes were made, and what each ended one left
  pub made : ℕ
  pub ended : List (Ended C)
  -- some pass holds the turn
  pub held : Bool
  -- the word is twice the number of finished turns, and 1 more while a pass holds the turn
  pub word : s.words ≡ (2 * length history + one_if held) ∷ []
  -- the machine is at home exactly while no pass holds the turn, and then it has the history and the setting
  pub home : MatchBool held (s.homes ≡ none ∷ []) ((x : M) × (s.homes ≡ some (Some x) ∷ []) × (of_entries x ≡ history) × (of_setting x ≡ chosen))
  -- then exactly one does, else none
  pub holders : count_by has_turn s.views ≡ one_if held
  pub each : (j : ℕ) (v : View S C) → get_elem? s.views j ≡ some v → SeatOk chosen history made ended j v
  -- each number below `made` is that of one pass, live or ended, and no other number is
  pub numbers : (n : ℕ) → count_by (lives_as n) s.views + count_by (ended_as n) ended ≡ one_if (nat_lt n made)
  -- live and ended passes are all that were made
  pub count : count_by lives s.views + length ended ≡ made
  -- each entry is of a pass that was made
  pub below : All (λ (e : ℕ × C). e.0 < made) history
  pub each_ended : (k : ℕ) (e : Ended C) → get_elem? ended k ≡ some e → EndedOk history e
