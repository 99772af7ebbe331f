-- Blocks in a row that is made longer.
use Rattle.std.proofs.Common.{◌≡◌, ℕ, zero, suc, List, [], ◌∷◌, ◌++◌, Option, None, refl}
use Rattle.swoosh_resolver.specs.Tables.{block_at}

-- no block stands at a place more
pub none-pushed : {X : Type 0} (blocks : List (Option X)) (n : ℕ) → block_at (blocks ++ None ∷ []) n ≡ block_at blocks n
none-pushed [] zero = refl
none-pushed [] (suc n) = refl
none-pushed (b ∷ bs) zero = refl
none-pushed (b ∷ bs) (suc n) = none-pushed bs n
