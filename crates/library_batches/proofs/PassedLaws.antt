-- What a reader that passed blocks without a batch answers next.
use Rattle.std.proofs.Common.{◌≡◌, ℕ, ◌+◌, ◌≤◌, ◌<◌, Bool, true, false, List, [], ◌∷◌, ◌++◌, length, append_assoc, inl, inr, refl, sym, ap, subst, ◌∙◌, arith, add-zero, append-nil, length-append}
use Rattle.std.specs.Prelude.{Option, Some, None, Ok, Err, IsTrue, filter}
use Rattle.std.proofs.lemmas.Bool.{le-leb}
use Rattle.std.proofs.lemmas.List.{length-map}
use Rattle.std.proofs.lemmas.List.Sums.{length-filter, count_by-le-length}
use Rattle.std.proofs.lemmas.Slice.Zip.{AllZip-long}
use Rattle.std.specs.List.{AllZip}
use Rattle.library_stream.specs.Streaming.{frames_on, passes, is_too_long, stopped}
use Rattle.catalogue_editions.specs.declared.batch.Batch.{Batch}
use Rattle.catalogue_editions.specs.Batches.{is_batch}
use Rattle.catalogue_editions.specs.declared.op.Op.{Op}
use Rattle.library_batches.specs.Streams.{Frame, is_accepted, accepted}
use Rattle.library_batches.specs.Refused.{refused_from}
use Rattle.library_batches.specs.Batches.{AreBatches, AreFirstBatches, IsBatchOf, IsOpOf, block_size}
use Rattle.library_batches.specs.Reading.{Batching, AnswersBatch, KeepsFrames, Losses, ahead}
use Rattle.library_batches.specs.Passing.{Passes}
use Rattle.library_batches.specs.Blocks.{IsBlock, IsChecked, IsFull, StopsBlock, BlockAnswers}
use Rattle.library_batches.specs.declared.block.Block.{Block}
use Rattle.library_batches.specs.declared.refused.RefusedFrame.{RefusedFrame}
use Rattle.library_batches.specs.declared.stop.Stop.{Stop}
use Rattle.library_batches.specs.declared.stop.Stop.TheVariants.{TooLong, Failed, Memory}
use Rattle.library_batches.proofs.CheckedLaws.{refused_from-append}
use Rattle.library_batches.proofs.BlockLaws.{IsBlockBefore, some_in, AreBatches-block, AreFirstBatches-block, AreBatches-none, AreFirstBatches-none}

-- what holds of one reader's preference and library holds of those of another reader of the same ones
pub to_reader : (P : List (List ℕ) → List ℕ → Type 0) (a b : Batching) → b.prefer ≡ a.prefer → b.library ≡ a.library → P a.prefer a.library
    → P b.prefer b.library
to_reader P a b prefer library is = subst (λ l. P b.prefer l) (sym library) (subst (λ p. P p a.library) (sym prefer) is)

pub from_reader : (P : List (List ℕ) → List ℕ → Type 0) (a b : Batching) → b.prefer ≡ a.prefer → b.library ≡ a.library → P b.prefer b.library
    → P a.prefer a.library
from_reader P a b prefer library is = subst (λ l. P a.prefer l) library (subst (λ p. P p b.library) prefer is)

-- nothing is passed at first
pub Passes-none : (a : Batching) (left : Option (List ℕ)) → Passes a left a left
Passes-none a None = tt
Passes-none a (Some bytes) = (
  record {
    keeps = record { prefer = refl; library = refl; frames = refl; refused = refl };
    passed = [];
    are = refl;
    place = sym (add-zero a.frames);
    refused = sym (append-nil a.refused);
    all = λ later all. all;
    first = λ later first. first;
  },
  refl,
)

-- the refused ones of frames, and of more frames after them
pub refused-more : (a b c : Batching) (xs ys : List Frame) → b.frames ≡ a.frames + length xs → b.refused ≡ a.refused ++ refused_from (a.frames + 1) xs
    → c.refused ≡ b.refused ++ refused_from (b.frames + 1) ys → c.refused ≡ a.refused ++ refused_from (a.frames + 1) (xs ++ ys)
refused-more a b c xs ys place first second =
    let moved : b.frames + 1 ≡ (a.frames + 1) + length xs = omega arith in
    second
    ∙ (ap (λ r. r ++ refused_from (b.frames + 1) ys) first
    ∙ (append_assoc a.refused (refused_from (a.frames + 1) xs) (refused_from (b.frames + 1) ys)
    ∙ ap (λ r. a.refused ++ r) (ap (λ k. refused_from (a.frames + 1) xs ++ refused_from k ys) moved ∙ sym (refused_from-append (a.frames + 1) xs ys))))

-- the frames that a block takes are kept
KeepsFrames-block : (a b c : Batching) (coming between still : List Frame) (taken : List Frame) → KeepsFrames a coming b between → between ≡ taken ++ still
    → c.prefer ≡ b.prefer → c.library ≡ b.library → c.frames ≡ b.frames + length taken → c.refused ≡ b.refused ++ refused_from (b.frames + 1) taken → KeepsFrames a coming c still
KeepsFrames-block a b c coming between still taken keeps takes prefer library frames refused =
    let place : c.frames + 1 ≡ (b.frames + 1) + length taken = omega arith in
    record {
      prefer = prefer ∙ keeps.prefer;
      library = library ∙ keeps.library;
      frames = omega (arith, keeps.frames, frames, ap length takes, length-append taken still);
      refused = ap (λ xs. xs ++ refused_from (c.frames + 1) still) refused
          ∙ (append_assoc b.refused (refused_from (b.frames + 1) taken) (refused_from (c.frames + 1) still)
          ∙ (ap (λ k. b.refused ++ (refused_from (b.frames + 1) taken ++ refused_from k still)) place
          ∙ (ap (λ xs. b.refused ++ xs) (sym (refused_from-append (b.frames + 1) taken still) ∙ sym (ap (refused_from (b.frames + 1)) takes))
          ∙ keeps.refused)));
    }

-- where the source ended within a block, nothing is after it
is_before : (ended : Bool) (c : Batching) (rest : List ℕ) (taken : List Frame) → IsFull ended c.stream (length taken) → length taken ≤ block_size
    → IsBlockBefore taken (ahead c rest)
is_before true c rest taken full most = inr (ap (λ course. frames_on course c.stream.pending c.stream.unread rest) full, most)
is_before false c rest taken full most = inl full

-- a block without a batch is passed
pub Passes-block : (a b c : Batching) (one two three : Option (List ℕ)) (block : Block) → Passes a one b two → IsBlock b two c three block
    → c.prefer ≡ b.prefer → c.library ≡ b.library → some_in block.ops.items ≡ false → Passes a one c three
Passes-block a b c None two three block passes is prefer library none = tt
Passes-block a b c (Some x) None three block passes is prefer library none = absurd passes
Passes-block a b c (Some x) (Some y) None block passes is prefer library none = absurd is.takes
Passes-block a b c (Some x) (Some y) (Some z) block passes is prefer library none =
    let before : IsBlockBefore is.taken (ahead c z) = is_before block.ended c z is.taken is.full is.most in (
      record {
        keeps = KeepsFrames-block a b c (ahead a x) (ahead b y) (ahead c z) is.taken passes.0.keeps is.takes.0 prefer library is.frames is.checked.refused;
        passed = passes.0.passed ++ is.taken;
        are = passes.0.are ∙ (ap (λ fs. passes.0.passed ++ fs) is.takes.0 ∙ sym (append_assoc passes.0.passed is.taken (ahead c z)));
        place = omega (arith, passes.0.place, is.frames, length-append passes.0.passed is.taken);
        refused = refused-more a b c passes.0.passed is.taken passes.0.place passes.0.refused is.checked.refused;
        all = λ later all. passes.0.all later (subst (λ fs. AreBatches a.prefer a.library fs later) (sym is.takes.0)
            (from_reader (λ p l. AreBatches p l (is.taken ++ ahead c z) later) a b passes.0.keeps.prefer passes.0.keeps.library
            (AreBatches-none b.prefer b.library is.taken (ahead c z) block.ops.items later before none is.checked.asked
            (to_reader (λ p l. AreBatches p l (ahead c z) later) a b passes.0.keeps.prefer passes.0.keeps.library all))));
        first = λ later all. passes.0.first later (subst (λ fs. AreFirstBatches a.prefer a.library fs later) (sym is.takes.0)
            (from_reader (λ p l. AreFirstBatches p l (is.taken ++ ahead c z) later) a b passes.0.keeps.prefer passes.0.keeps.library
            (AreFirstBatches-none b.prefer b.library is.taken (ahead c z) block.ops.items later before none is.checked.asked
            (to_reader (λ p l. AreFirstBatches p l (ahead c z) later) a b passes.0.keeps.prefer passes.0.keeps.library all))));
      },
      sym is.takes.1 ∙ passes.1,
    )

-- a block with a batch is answered
pub Answers-batch : (a b c : Batching) (one two three : Option (List ℕ)) (block : Block) (batch : Batch) → Passes a one b two → IsBlock b two c three block
    → c.prefer ≡ b.prefer → c.library ≡ b.library → batch.library ≡ b.library → batch.ops ≡ block.ops.items → some_in block.ops.items ≡ true
    → AnswersBatch (Ok (Some batch)) a one c three
Answers-batch a b c None two three block batch passes is prefer library code ops some = tt
Answers-batch a b c (Some x) None three block batch passes is prefer library code ops some = absurd passes
Answers-batch a b c (Some x) (Some y) None block batch passes is prefer library code ops some = absurd is.takes
Answers-batch a b c (Some x) (Some y) (Some z) block batch passes is prefer library code ops some =
    let before : IsBlockBefore is.taken (ahead c z) = is_before block.ended c z is.taken is.full is.most in
    let is_batch : IsBatchOf a.prefer a.library is.taken batch = record {
      library_is = code ∙ passes.0.keeps.library;
      ops = rw ops (from_reader (λ p l. AllZip (IsOpOf p l) (accepted is.taken) block.ops.items) a b passes.0.keeps.prefer passes.0.keeps.library is.checked.asked);
    } in (
      record {
        keeps = KeepsFrames-block a b c (ahead a x) (ahead b y) (ahead c z) is.taken passes.0.keeps is.takes.0 prefer library is.frames is.checked.refused;
        all = λ later all. passes.0.all (batch ∷ later) (subst (λ fs. AreBatches a.prefer a.library fs (batch ∷ later)) (sym is.takes.0)
            (AreBatches-block a.prefer a.library is.taken (ahead c z) batch later before (ap some_in ops ∙ some) is_batch all));
        first = λ later all. passes.0.first (batch ∷ later) (subst (λ fs. AreFirstBatches a.prefer a.library fs (batch ∷ later)) (sym is.takes.0)
            (AreFirstBatches-block a.prefer a.library is.taken (ahead c z) batch later before (ap some_in ops ∙ some) is_batch all));
      },
      sym is.takes.1 ∙ passes.1,
    )

-- at the end of the source every batch was handed out
pub Answers-end : (a b c : Batching) (one two three : Option (List ℕ)) (block : Block) → Passes a one b two → IsBlock b two c three block
    → c.prefer ≡ b.prefer → c.library ≡ b.library → some_in block.ops.items ≡ false → block.ended ≡ true → AnswersBatch (Ok None) a one c three
Answers-end a b c None two three block passed is prefer library none ended = tt
Answers-end a b c (Some x) None three block passed is prefer library none ended = absurd passed
Answers-end a b c (Some x) (Some y) None block passed is prefer library none ended = absurd is.takes
Answers-end a b c (Some x) (Some y) (Some z) block passed is prefer library none ended =
    let all = Passes-block a b c (Some x) (Some y) (Some z) block passed is prefer library none in
    let full = subst (λ e. IsFull e c.stream (length is.taken)) ended is.full in
    let nothing : ahead c z ≡ [] = ap (λ course. frames_on course c.stream.pending c.stream.unread z) full in (
      subst (λ fs. AreBatches a.prefer a.library fs [] → AreBatches a.prefer a.library (ahead a x) []) nothing (all.0.all []) tt,
      subst (λ fs. KeepsFrames a (ahead a x) c fs) nothing all.0.keeps,
      sym all.1 ∙ ap (λ course. passes course z) full,
    )

-- the source is too long
pub Answers-long : (Is : List Frame → Type 0) (a b c : Batching) (one two three : Option (List ℕ)) → Passes a one b two → StopsBlock Is b two c three → c.stream ≡ stopped
    → AnswersBatch (Err TooLong) a one c three
Answers-long Is a b c None two three passes stops stands = tt
Answers-long Is a b c (Some x) None three passes stops stands = absurd passes
Answers-long Is a b c (Some x) (Some y) None passes stops stands = absurd stops.takes
Answers-long Is a b c (Some x) (Some y) (Some z) passes stops stands =
    sym passes.1 ∙ stops.takes.1 ∙ ap (λ stream. is_too_long stream z) stands

-- the reading failed, or memory ran out
pub Answers-failed : (Is : List Frame → Type 0) (a b c : Batching) (one two three : Option (List ℕ)) → Passes a one b two → StopsBlock Is b two c three
    → AnswersBatch (Err Failed) a one c three
Answers-failed Is a b c None two three passes stops = tt
Answers-failed Is a b c (Some x) None three passes stops = absurd passes
Answers-failed Is a b c (Some x) (Some y) None passes stops = absurd stops.takes
Answers-failed Is a b c (Some x) (Some y) (Some z) passes stops = tt

pub Answers-memory : (Is : List Frame → Type 0) (a b c : Batching) (one two three : Option (List ℕ)) → Passes a one b two → StopsBlock Is b two c three
    → AnswersBatch (Err Memory) a one c three
Answers-memory Is a b c None two three passes stops = tt
Answers-memory Is a b c (Some x) None three passes stops = absurd passes
Answers-memory Is a b c (Some x) (Some y) None passes stops = absurd stops.takes
Answers-memory Is a b c (Some x) (Some y) (Some z) passes stops = tt

-- the reading of a block stopped
pub Answers-stopped : (Are : Losses) (stop : Stop) (a b c : Batching) (one two three : Option (List ℕ)) → Passes a one b two
    → BlockAnswers Are (Err stop) b two c three → AnswersBatch (Err stop) a one c three
Answers-stopped Are TooLong a b c one two three passed stops = Answers-long (Are TooLong) a b c one two three passed stops.0 stops.1
Answers-stopped Are Failed a b c one two three passed stops = Answers-failed (Are Failed) a b c one two three passed stops
Answers-stopped Are Memory a b c one two three passed stops = Answers-memory (Are Memory) a b c one two three passed stops

-- no fewer operations than one and no more than frames: they fit a batch
pub is_batch-block : (prefer : List (List ℕ)) (library : List ℕ) (start : ℕ) (taken : List Frame) (ops : List Op) (before now : List RefusedFrame)
    → IsChecked prefer library start taken ops before now → length taken ≤ block_size → 0 < length ops → IsTrue (is_batch library ops)
is_batch-block prefer library start taken ops before now checked most some =
    let long = AllZip-long (IsOpOf prefer library) (accepted taken) ops checked.asked in
    let few : length ops ≤ block_size = omega (arith, long, length-map (filter is_accepted taken) (λ (f : Frame). f.1), length-filter is_accepted taken, count_by-le-length is_accepted taken, most) in
    rw (le-leb 1 (length ops) some, le-leb (length ops) block_size few) checked.own
