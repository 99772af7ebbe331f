-- The batches that the blocks of a round give.
use Rattle.std.proofs.Common.{◌≡◌, ℕ, ◌+◌, ◌≤◌, ◌<◌, Bool, List, [], ◌∷◌, ◌++◌, length, append_assoc, append-nil, refl, sym, ap, subst, ◌∙◌, arith, add-zero, length-append}
use Rattle.std.specs.Prelude.{Option, Some, Ok, true, false, filter}
use Rattle.std.proofs.lemmas.List.{length-map}
use Rattle.std.proofs.lemmas.List.Sums.{length-filter, count_by-le-length}
use Rattle.std.proofs.lemmas.Slice.Zip.{AllZip-long}
use Rattle.library_stream.specs.Streaming.{Streaming}
use Rattle.catalogue_editions.specs.declared.batch.Batch.{Batch}
use Rattle.catalogue_editions.specs.declared.op.Op.{Op}
use Rattle.library_batches.specs.Streams.{Frame, is_accepted, accepted}
use Rattle.library_batches.specs.Refused.{refused_from}
use Rattle.library_batches.specs.Batches.{IsOpOf}
use Rattle.library_batches.specs.Reading.{Batching, AnswersBatch, AnswersEach}
use Rattle.library_batches.specs.Blocks.{IsBlock, IsChecked}
use Rattle.library_batches.specs.Shares.{KeepsFront}
use Rattle.library_batches.specs.Works.{AreCut, AreNumbered, CutsRound, frames_of}
use Rattle.library_batches.specs.Rounds.{AreGiven, HandsRound, IsRound, reader_at}
use Rattle.library_batches.specs.declared.block.Block.{Block}
use Rattle.library_batches.specs.declared.refused.RefusedFrame.{RefusedFrame}
use Rattle.library_batches.specs.declared.several.Round.{Round}
use Rattle.library_batches.specs.declared.work.Work.{Work}
use Rattle.library_batches.proofs.BlockLaws.{some_in, some_in-more}
use Rattle.library_batches.proofs.CheckedLaws.{refused_from-append}
use Rattle.library_batches.proofs.PassedLaws.{Passes-none, Passes-block, Answers-batch}
use Rattle.library_batches.proofs.WorkLaws.{AreCut-last, IsLastCut, cut-ended, numbered-front, numbered-end, numbered-at, numbered-part, frames-count, frames-more, frames-parts}

-- one more batch is answered
pub AnswersEach-more : (batches : List Batch) (batch : Batch) (a b c : Batching) (l k r : Option (List ℕ)) → AnswersEach batches a l b k
    → AnswersBatch (Ok (Some batch)) b k c r → AnswersEach (batches ++ batch ∷ []) a l c r
AnswersEach-more [] batch a b c l k r none answers = (
  c,
  r,
  subst (λ x. AnswersBatch (Ok (Some batch)) x l c r) none.0 (subst (λ x. AnswersBatch (Ok (Some batch)) b x c r) none.1 answers),
  (refl, refl),
)
AnswersEach-more (x ∷ batches) batch a b c l k r (m, t, first, rest) answers = (m, t, first, AnswersEach-more batches batch m b c t k r rest answers)

pub HandsRound-none : (a : Batching) (left : Option (List ℕ)) → HandsRound a left a left []
HandsRound-none a left = record { between = a; told = left; each = (refl, refl); passes = Passes-none a left }

-- a block without a batch
HandsRound-block : (a b c : Batching) (one two three : Option (List ℕ)) (batches : List Batch) (block : Block) → HandsRound a one b two batches
    → IsBlock b two c three block → c.prefer ≡ b.prefer → c.library ≡ b.library → some_in block.ops.items ≡ false → HandsRound a one c three batches
HandsRound-block a b c one two three batches block hands is prefer library none = record {
  between = hands.between;
  told = hands.told;
  each = hands.each;
  passes = Passes-block hands.between b c hands.told two three block hands.passes is prefer library none;
}

-- a block with one
HandsRound-batch : (a b c : Batching) (one two three : Option (List ℕ)) (batches : List Batch) (batch : Batch) (block : Block) → HandsRound a one b two batches
    → IsBlock b two c three block → c.prefer ≡ b.prefer → c.library ≡ b.library → batch.library ≡ b.library → batch.ops ≡ block.ops.items → some_in block.ops.items ≡ true
    → HandsRound a one c three (batches ++ batch ∷ [])
HandsRound-batch a b c one two three batches batch block hands is prefer library code ops some = record {
  between = c;
  told = three;
  each = AnswersEach-more batches batch a hands.between c one hands.told three hands.each
      (Answers-batch hands.between b c hands.told two three block batch hands.passes is prefer library code ops some);
  passes = Passes-none c three;
}

-- the refused frames of the blocks were added, wherever these are numbered from
abbrev pub Refuses : List Work → List RefusedFrame → List RefusedFrame → Type 0
Refuses works refused later = (start : ℕ) → AreNumbered start works → later ≡ refused ++ refused_from start (frames_of works)

pub given-none : (prefer : List (List ℕ)) (library : List ℕ) (refused : List RefusedFrame) → AreGiven prefer library [] refused refused []
given-none prefer library refused = record {
  given = λ frames before now left left' numbered cut.
      subst (λ n. HandsRound (reader_at prefer library before frames refused) left (reader_at prefer library now n refused) left' []) (sym (add-zero frames))
      (subst (λ s. HandsRound (reader_at prefer library before frames refused) left (reader_at prefer library s frames refused) left' []) (sym cut.0)
      (subst (λ s. HandsRound (reader_at prefer library before frames refused) left (reader_at prefer library before frames refused) s []) (sym cut.1)
      (HandsRound-none (reader_at prefer library before frames refused) left)));
  few = omega arith;
  refuses = λ start numbered. sym (append-nil refused);
}

-- no more operations than frames
checked-few : (prefer : List (List ℕ)) (library : List ℕ) (start : ℕ) (taken : List Frame) (ops : List Op) (before now : List RefusedFrame)
    → IsChecked prefer library start taken ops before now → length ops ≤ length taken
checked-few prefer library start taken ops before now checked =
    omega (
      arith,
      AllZip-long (IsOpOf prefer library) (accepted taken) ops checked.asked,
      length-map (filter is_accepted taken) (λ (f : Frame). f.1),
      length-filter is_accepted taken,
      count_by-le-length is_accepted taken,
    )

-- the refused frames of one more block are added
pub refuses-more : (done : List Work) (work : Work) (refused middle later : List RefusedFrame) → Refuses done refused middle
    → later ≡ middle ++ refused_from work.first work.frames.items → Refuses (done ++ work ∷ []) refused later
refuses-more done work refused middle later before added = λ start numbered.
    let first = before start (numbered-front start done work numbered) in
    let number = numbered-end start done work numbered in
    added ∙ ap (λ r. r ++ refused_from work.first work.frames.items) first
    ∙ append_assoc refused (refused_from start (frames_of done)) (refused_from work.first work.frames.items)
    ∙ ap (λ r. refused ++ r) (ap (λ k. refused_from start (frames_of done) ++ refused_from k work.frames.items) number
    ∙ sym (refused_from-append start (frames_of done) work.frames.items) ∙ ap (refused_from start) (sym (frames-more done work)))

-- all blocks were added
pub refuses-all : (works : List Work) (refused later : List RefusedFrame) → Refuses works refused later
    → (start : ℕ) → AreNumbered start works → KeepsFront start (frames_of works) refused later
refuses-all works refused later refuses = λ start numbered. record {
  checked = frames_of works;
  rest = [];
  all = sym (append-nil (frames_of works));
  refused = refuses start numbered;
}

-- the adding stopped within a block: the blocks before it were added, and of its frames the first
pub refuses-front : (done rest works : List Work) (work : Work) (refused middle later : List RefusedFrame) → works ≡ done ++ work ∷ rest
    → Refuses done refused middle → KeepsFront work.first work.frames.items middle later
    → (start : ℕ) → AreNumbered start works → KeepsFront start (frames_of works) refused later
refuses-front done rest works work refused middle later whole refuses front = λ start numbered.
    let here = subst (AreNumbered start) whole numbered in
    let number = numbered-at start done work rest here in
    record {
      checked = frames_of done ++ front.checked;
      rest = front.rest ++ frames_of rest;
      all = ap frames_of whole ∙ frames-parts done (work ∷ rest) ∙ ap (λ fs. frames_of done ++ (fs ++ frames_of rest)) front.all
          ∙ ap (λ fs. frames_of done ++ fs) (append_assoc front.checked front.rest (frames_of rest))
          ∙ sym (append_assoc (frames_of done) front.checked (front.rest ++ frames_of rest));
      refused = front.refused ∙ ap (λ r. r ++ refused_from work.first front.checked) (refuses start (numbered-part start done (work ∷ rest) here))
          ∙ append_assoc refused (refused_from start (frames_of done)) (refused_from work.first front.checked)
          ∙ ap (λ r. refused ++ r) (ap (λ k. refused_from start (frames_of done) ++ refused_from k front.checked) number
          ∙ sym (refused_from-append start (frames_of done) front.checked));
    }

module _ (prefer : List (List ℕ)) (library : List ℕ) (done : List Work) (work : Work) (block : Block) (refused middle later : List RefusedFrame)
    (checked : IsChecked prefer library work.first work.frames.items block.ops.items middle later) where
  -- the last block, as a reader takes it
  module _ (frames : ℕ) (before now : Streaming) (left left' : Option (List ℕ)) (numbered : AreNumbered (frames + 1) (done ++ work ∷ []))
      (cut : AreCut (done ++ work ∷ []) before left now left') where
    abbrev last : IsLastCut done work before left now left'
    last = AreCut-last done work before now left left' cut

    abbrev n : ℕ
    n = frames + length (frames_of done)

    number : work.first ≡ n + 1
    number = omega (arith, numbered-end (frames + 1) done work numbered)

    abbrev ended : Block
    ended = record { ops = block.ops; ended = last.ended }

    is : IsBlock (reader_at prefer library last.between n middle) last.told (reader_at prefer library now (n + length work.frames.items) later) left' ended
    is = record {
      taken = work.frames.items;
      takes = last.answers.0;
      checked = subst (λ k. IsChecked prefer library k work.frames.items block.ops.items middle later) number checked;
      frames = refl;
      most = last.short;
      full = last.answers.1;
      fewer = last.fewer;
    }

    count : frames + length (frames_of (done ++ work ∷ [])) ≡ n + length work.frames.items
    count = omega (arith, frames-count done work)

  pub given-block : (batches : List Batch) → some_in block.ops.items ≡ false → AreGiven prefer library done refused middle batches
      → AreGiven prefer library (done ++ work ∷ []) refused later batches
  given-block batches none before = record {
    given = λ frames earlier now left left' numbered cut.
        let end = last frames earlier now left left' numbered cut in
        let here = n frames earlier now left left' numbered cut in
        subst (λ k. HandsRound (reader_at prefer library earlier frames refused) left (reader_at prefer library now k later) left' batches)
        (sym (count frames earlier now left left' numbered cut))
        (HandsRound-block (reader_at prefer library earlier frames refused) (reader_at prefer library end.between here middle)
        (reader_at prefer library now (here + length work.frames.items) later) left end.told left' batches (ended frames earlier now left left' numbered cut)
        (before.given frames earlier end.between left end.told (numbered-front (frames + 1) done work numbered) end.cut)
        (is frames earlier now left left' numbered cut) refl refl none);
    few = omega (arith, before.few, frames-count done work);
    refuses = refuses-more done work refused middle later before.refuses checked.refused;
  }

  pub given-batch : (batches : List Batch) (batch : Batch) → 0 < length block.ops.items → batch.library ≡ library → batch.ops ≡ block.ops.items
      → AreGiven prefer library done refused middle batches → AreGiven prefer library (done ++ work ∷ []) refused later (batches ++ batch ∷ [])
  given-batch batches batch some code ops before = record {
    given = λ frames earlier now left left' numbered cut.
        let end = last frames earlier now left left' numbered cut in
        let here = n frames earlier now left left' numbered cut in
        subst (λ k. HandsRound (reader_at prefer library earlier frames refused) left (reader_at prefer library now k later) left' (batches ++ batch ∷ []))
        (sym (count frames earlier now left left' numbered cut))
        (HandsRound-batch (reader_at prefer library earlier frames refused) (reader_at prefer library end.between here middle)
        (reader_at prefer library now (here + length work.frames.items) later) left end.told left' batches batch (ended frames earlier now left left' numbered cut)
        (before.given frames earlier end.between left end.told (numbered-front (frames + 1) done work numbered) end.cut)
        (is frames earlier now left left' numbered cut) refl refl code ops (some_in-more block.ops.items some));
    few = omega (
      arith,
      before.few,
      some,
      frames-count done work,
      length-append batches (batch ∷ []),
      checked-few prefer library work.first work.frames.items block.ops.items middle later checked,
    );
    refuses = refuses-more done work refused middle later before.refuses checked.refused;
  }

-- an answer on a round whose blocks were all cut and checked
pub is-round : (before now : Batching) (first : ℕ) (left left' : Option (List ℕ)) (works : List Work) (ended : Bool) (round : Round)
    → CutsRound (Ok ended) first before.stream left now.stream left' works → HandsRound before left now left' round.batches.items → round.ended ≡ ended
    → length round.batches.items ≤ length (frames_of works) → IsRound before left now left' round
is-round before now first left left' works ended round cuts hands same few = record {
  hands = hands;
  ended = λ is. cut-ended ended before.stream now.stream left left' works cuts.answers (sym same ∙ is);
  fewer = omega (arith, cuts.fewer, few);
  more = λ is. omega (arith, cuts.fewer, cuts.some (ap Ok (sym same ∙ is)));
}
