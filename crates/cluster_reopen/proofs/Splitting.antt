-- A view of which one block is split, by places.
use Rattle.std.proofs.Common.{◌≡◌, ℕ, ◌<◌, Bool, List, length, get_or, sym}
use Rattle.std.specs.Prelude.{◌↔◌, remove, Contains}
use Rattle.std.proofs.lemmas.List.Sorted.{IsPermutation-remove}
use Rattle.merge_laws.specs.Resolution.{IsDominated, IsResolution}
use Rattle.merge_laws.specs.Withdrawal.{IsWithdrawn}

-- what is removed at a place, and the rest, are the list in another order
pub withdrawn-from_places : {A : Type 0} {match : A → A → Bool} {merge : A → A → A} (list view : List A) (at place : ℕ) (withdrawn block : A) (kept parts : List A) → IsResolution match merge list view → at < length list → get_or list at withdrawn ≡ withdrawn → place < length view → get_or view place block ≡ block → IsDominated match merge withdrawn block → ((x : A) → Contains kept x ↔ (Contains (remove list at) x × IsDominated match merge x block)) → IsResolution match merge kept parts → IsWithdrawn match merge list view withdrawn (remove list at) block (remove view place) kept parts
withdrawn-from_places list view at place withdrawn block kept parts resolved at_below is_withdrawn place_below is_block dominated keeps resolved_parts = record {
  resolved = resolved;
  in_list = IsPermutation-remove list at withdrawn at_below (sym is_withdrawn);
  in_resolution = IsPermutation-remove view place block place_below (sym is_block);
  dominated = dominated;
  keeps = keeps;
  resolved_parts = resolved_parts;
}
