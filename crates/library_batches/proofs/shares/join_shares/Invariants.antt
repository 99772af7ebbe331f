use Rattle.std.proofs.Common.{ℕ, List}
use Rattle.library_batches.specs.Streams.{Frame}
use Rattle.library_batches.specs.Shares.{AreShares}
use Rattle.library_batches.proofs.ShareLaws.{IsJoined}
use Rattle.library_batches.proofs.shares.join_shares.Given as goal

-- the shares so far were put together
abbrev pub invariant-loop-made : goal.invariant-loop-made
invariant-loop-made l =
    (prefer : List (List ℕ)) (library : List ℕ) (size start : ℕ) (frames : List Frame) → AreShares prefer library size start frames l.fn.parts.items
    → IsJoined prefer library size start frames l.made-iterator.rest.items l.ops.items l.initial.refused.items l.refused.items
