-- What is left of a resolution when one value is withdrawn from the list that was resolved.
use Rattle.std.specs.Prelude.{◌↔◌, Bool, List, ◌∷◌, Contains}
use Rattle.std.specs.List.Sorted.{IsPermutation}
use Rattle.merge_laws.specs.Resolution.{IsDominated, IsResolution}

-- The list is, in some order, the withdrawn value and the rest. Its resolution is, in some order, the block that
-- dominates the withdrawn value and the other blocks. Of the rest, the block keeps those that it dominates, and they
-- resolve to the parts.
pub record IsWithdrawn {A : Type 0} (match : A → A → Bool) (merge : A → A → A) (list resolution : List A) (withdrawn : A) (rest : List A) (block : A) (others kept parts : List A) : Type 0 where
  pub resolved : IsResolution match merge list resolution
  pub in_list : IsPermutation list (withdrawn ∷ rest)
  pub in_resolution : IsPermutation resolution (block ∷ others)
  pub dominated : IsDominated match merge withdrawn block
  pub keeps : (x : A) → Contains kept x ↔ (Contains rest x × IsDominated match merge x block)
  pub resolved_parts : IsResolution match merge kept parts
