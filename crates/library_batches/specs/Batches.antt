-- The batches of a stream: the operations of its accepted frames, block by block.
use Rattle.std.specs.Prelude.{◌≡◌, ℕ, zero, suc, Bool, List, [], ◌∷◌, length, take, drop, filter, Some}
use Rattle.std.specs.List.{AllZip, list_any}
use Rattle.marc_fields.specs.Spelling.{Spells}
use Rattle.marc_parts.specs.declared.marc_record.Record.{Record}
use Rattle.record_editions.specs.Ops.{op}
use Rattle.catalogue_editions.specs.declared.op.Op.{Op}
use Rattle.catalogue_editions.specs.declared.batch.Batch.{Batch}
use Rattle.library_batches.specs.Streams.{Frame, is_accepted, accepted}

-- the operation is what the record asks for that the frame spells, by a preference among libraries: the list of its codes, the best
-- first
abbrev pub IsOpOf : List (List ℕ) → List ℕ → List ℕ → Op → Type 0
IsOpOf prefer library frame done = (r : Record) × Spells frame r × (op prefer library r ≡ Some done)

-- how many frames a block has
abbrev pub block_size : ℕ
block_size = 256

-- how many frames a round of several workers has: 16 blocks
abbrev pub round_size : ℕ
round_size = 4096

-- the frames in blocks of 256, the last of which may be shorter; at most this many blocks
abbrev pub blocks_within : ℕ → List Frame → List (List Frame)
blocks_within zero frames = []
blocks_within (suc n) [] = []
blocks_within (suc n) (frame ∷ frames) = take block_size (frame ∷ frames) ∷ blocks_within n (drop block_size (frame ∷ frames))

-- the frames in blocks of 256, the last one of what is left
abbrev pub blocks : List Frame → List (List Frame)
blocks frames = blocks_within (length frames) frames

-- a block of which some frame is accepted
abbrev pub has_accepted : List Frame → Bool
has_accepted block = list_any is_accepted block

-- the batch has the library's operations of the accepted frames of the block, in their order
pub record IsBatchOf (prefer : List (List ℕ)) (library : List ℕ) (block : List Frame) (batch : Batch) : Type 0 where
  pub library_is : batch.library ≡ library
  pub ops : AllZip (IsOpOf prefer library) (accepted block) batch.ops

-- the batches are those of the frames, in their order: one for each block of which some frame is accepted
abbrev pub AreBatches : List (List ℕ) → List ℕ → List Frame → List Batch → Type 0
AreBatches prefer library frames batches = AllZip (IsBatchOf prefer library) (filter has_accepted (blocks frames)) batches

-- the batches are the first ones of the frames, as many as there are
abbrev pub AreFirstBatches : List (List ℕ) → List ℕ → List Frame → List Batch → Type 0
AreFirstBatches prefer library frames batches =
    AllZip (IsBatchOf prefer library) (take (length batches) (filter has_accepted (blocks frames))) batches
