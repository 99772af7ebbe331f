-- Blocks that are cut one after the other.
use Rattle.std.proofs.Common.{◌≡◌, ℕ, ◌+◌, ◌*◌, ◌≤◌, ◌<◌, Bool, List, [], ◌∷◌, ◌++◌, length, refl, sym, ap, subst, ◌∙◌, arith, append_assoc, append-nil, length-append}
use Rattle.std.specs.Prelude.{Option, Result, Ok, Err, All, true, false, suc}
use Rattle.std.specs.List.{AllZip}
use Rattle.std.proofs.lemmas.Grind.{flat_map-append}
use Rattle.std.proofs.lemmas.Bool.{false≢true}
use Rattle.std.proofs.lemmas.List.Elements.{All-append, All-cons, All-nil}
use Rattle.library_stream.specs.Streaming.{Streaming, most_ahead}
use Rattle.library_stream.specs.Answering.{Takes}
use Rattle.library_stream.specs.declared.course.Course.TheVariants.{Ended}
use Rattle.library_stream.proofs.AheadLaws.{Takes-none, Takes-more}
use Rattle.library_batches.specs.Streams.{Frame}
use Rattle.library_batches.specs.Batches.{block_size}
use Rattle.library_batches.specs.Blocks.{AnswersCut}
use Rattle.library_batches.specs.Works.{AddsWork, AnswersWorks, AreCut, AreDone, AreNumbered, CutsRound, IsDone, IsMade, frames_of}
use Rattle.library_batches.specs.declared.work.Work.{Work}
use Rattle.library_batches.specs.declared.stop.Stop.{Stop}
use Rattle.library_batches.specs.declared.stop.Stop.TheVariants.{TooLong, Failed, Memory}

pub frames-more : (works : List Work) (work : Work) → frames_of (works ++ work ∷ []) ≡ frames_of works ++ work.frames.items
frames-more works work = flat_map-append (λ (w : Work). w.frames.items) works (work ∷ []) ∙ ap (λ fs. frames_of works ++ fs) (append-nil work.frames.items)

pub frames-count : (works : List Work) (work : Work) → length (frames_of (works ++ work ∷ [])) ≡ length (frames_of works) + length work.frames.items
frames-count works work = ap length (frames-more works work) ∙ length-append (frames_of works) work.frames.items

pub frames-parts : (done rest : List Work) → frames_of (done ++ rest) ≡ frames_of done ++ frames_of rest
frames-parts done rest = flat_map-append (λ (w : Work). w.frames.items) done rest

-- one more block is cut
pub AreCut-more : (works : List Work) (work : Work) (ended : Bool) (a m c : Streaming) (l k r : Option (List ℕ)) → AreCut works a l m k
    → AnswersCut (Ok ended) m k c r work.frames.items → length work.frames.items ≤ block_size → most_ahead c + length work.frames.items ≤ most_ahead m
    → AreCut (works ++ work ∷ []) a l c r
AreCut-more [] work ended a m c l k r none cut most fewer = (
  ended,
  c,
  r,
  subst (λ b. AnswersCut (Ok ended) b l c r work.frames.items) none.0 (subst (λ b. AnswersCut (Ok ended) m b c r work.frames.items) none.1 cut),
  most,
  subst (λ b. most_ahead c + length work.frames.items ≤ most_ahead b) none.0 fewer,
  (refl, refl),
)
AreCut-more (w ∷ works) work ended a m c l k r (e, b, t, first, short, less, rest) cut most fewer =
    (e, b, t, first, short, less, AreCut-more works work ended b m c t k r rest cut most fewer)

-- the frames of blocks that are cut were ahead
pub AreCut-takes : (works : List Work) (a c : Streaming) (l r : Option (List ℕ)) → AreCut works a l c r → Takes a l c r (frames_of works)
AreCut-takes [] a c l r none = subst (λ b. Takes a l b r []) (sym none.0) (subst (λ b. Takes a l a b []) (sym none.1) (Takes-none a l))
AreCut-takes (w ∷ works) a c l r (e, b, t, cut, short, less, rest) =
    Takes-more a b c l t r w.frames.items (frames_of works) cut.0 (AreCut-takes works b c t r rest)

-- the cutting stopped behind frames that were taken before
pub stopped-behind : (stop : Stop) (a m c : Streaming) (l k r : Option (List ℕ)) (gs fs : List Frame) → Takes a l m k gs → AnswersCut (Err stop) m k c r fs
    → AnswersCut (Err stop) a l c r (gs ++ fs)
stopped-behind TooLong a m c l k r gs fs takes stops = (
  (
    stops.0.0,
    subst (Takes a l c r) (sym (append_assoc gs fs stops.0.0)) (Takes-more a m c l k r gs (fs ++ stops.0.0) takes stops.0.1),
    stops.0.2,
  ),
  stops.1,
)
stopped-behind Failed a m c l k r gs fs takes stops =
    (stops.0, subst (Takes a l c r) (sym (append_assoc gs fs stops.0)) (Takes-more a m c l k r gs (fs ++ stops.0) takes stops.1), stops.2)
stopped-behind Memory a m c l k r gs fs takes stops =
    (stops.0, subst (Takes a l c r) (sym (append_assoc gs fs stops.0)) (Takes-more a m c l k r gs (fs ++ stops.0) takes stops.1), stops.2)

-- one more block is numbered
pub numbered-more : (first : ℕ) (works : List Work) (work : Work) → AreNumbered first works → work.first ≡ first + length (frames_of works)
    → AreNumbered first (works ++ work ∷ [])
numbered-more first [] work all is = (omega (arith, is), tt)
numbered-more first (w ∷ works) work all is =
    (all.0, numbered-more (first + length w.frames.items) works work all.1 (omega (arith, is, length-append w.frames.items (frames_of works))))

-- the numbers of all frames are below where the last one ends
pub numbered-room : (first room : ℕ) (works : List Work) → AreNumbered first works → first + length (frames_of works) < room
    → All (λ (work : Work). work.first + length work.frames.items < room) works
numbered-room first room [] all below = All-nil _
numbered-room first room (w ∷ works) all below =
    let long = length-append w.frames.items (frames_of works) in
    All-cons (λ (work : Work). work.first + length work.frames.items < room) w works (omega (arith, all.0, below, long))
    (numbered-room (first + length w.frames.items) room works all.1 (omega (arith, below, long)))

-- the last block that was cut, behind the others
pub record IsLastCut (works : List Work) (work : Work) (before : Streaming) (left : Option (List ℕ)) (now : Streaming) (left' : Option (List ℕ)) : Type 0 where
  pub between : Streaming
  pub told : Option (List ℕ)
  pub ended : Bool
  pub cut : AreCut works before left between told
  pub answers : AnswersCut (Ok ended) between told now left' work.frames.items
  pub short : length work.frames.items ≤ block_size
  pub fewer : most_ahead now + length work.frames.items ≤ most_ahead between

pub AreCut-last : (works : List Work) (work : Work) (a c : Streaming) (l r : Option (List ℕ)) → AreCut (works ++ work ∷ []) a l c r
    → IsLastCut works work a l c r
AreCut-last [] work a c l r (e, b, t, cut, short, less, none) = record {
  between = a;
  told = l;
  ended = e;
  cut = (refl, refl);
  answers = subst (λ s. AnswersCut (Ok e) a l s r work.frames.items) (sym none.0) (subst (λ s. AnswersCut (Ok e) a l b s work.frames.items) (sym none.1) cut);
  short = short;
  fewer = subst (λ s. most_ahead s + length work.frames.items ≤ most_ahead a) (sym none.0) less;
}
AreCut-last (w ∷ works) work a c l r (e, b, t, cut, short, less, rest) =
    let last = AreCut-last works work b c t r rest in
    record {
      between = last.between;
      told = last.told;
      ended = last.ended;
      cut = (e, b, t, cut, short, less, last.cut);
      answers = last.answers;
      short = last.short;
      fewer = last.fewer;
    }

numbered-last : (first : ℕ) (works : List Work) (work : Work) → AreNumbered first (works ++ work ∷ [])
    → AreNumbered first works × (work.first ≡ first + length (frames_of works))
numbered-last first [] work all = (tt, omega (arith, all.0))
numbered-last first (w ∷ works) work all =
    let last = numbered-last (first + length w.frames.items) works work all.1 in
    ((all.0, last.0), omega (arith, last.1, length-append w.frames.items (frames_of works)))

pub numbered-front : (first : ℕ) (works : List Work) (work : Work) → AreNumbered first (works ++ work ∷ []) → AreNumbered first works
numbered-front first works work all = (numbered-last first works work all).0

pub numbered-end : (first : ℕ) (works : List Work) (work : Work) → AreNumbered first (works ++ work ∷ []) → work.first ≡ first + length (frames_of works)
numbered-end first works work all = (numbered-last first works work all).1

pub numbered-part : (first : ℕ) (done rest : List Work) → AreNumbered first (done ++ rest) → AreNumbered first done
numbered-part first [] rest all = tt
numbered-part first (w ∷ done) rest all = (all.0, numbered-part (first + length w.frames.items) done rest all.1)

-- a block begins after those before it
pub numbered-at : (first : ℕ) (done : List Work) (work : Work) (rest : List Work) → AreNumbered first (done ++ work ∷ rest)
    → work.first ≡ first + length (frames_of done)
numbered-at first [] work rest all = omega (arith, all.0)
numbered-at first (w ∷ done) work rest all =
    omega (
      arith,
      numbered-at (first + length w.frames.items) done work rest all.1,
      length-append w.frames.items (frames_of done),
    )

-- what holds of all blocks holds of one among them
pub all-at : (P : Work → Type 0) (front : List Work) (work : Work) (rest : List Work) → All P (front ++ work ∷ rest) → P work
all-at P [] work rest all = all 0 work (omega arith)
all-at P (w ∷ front) work rest all = all-at P front work rest (λ place other within. all (suc place) other (omega (arith, within)))

-- blocks of a round that are cut so far, as many as `count`, each of which is whole
pub record AreCutSoFar (first : ℕ) (before : Streaming) (left : Option (List ℕ)) (now : Streaming) (left' : Option (List ℕ)) (works : List Work) (count : ℕ) : Type 0 where
  pub cut : AreCut works before left now left'
  pub numbered : AreNumbered first works
  pub short : All (λ (work : Work). length work.frames.items ≤ block_size) works
  pub full : length (frames_of works) ≡ 256 * count
  pub fewer : most_ahead now + length (frames_of works) ≤ most_ahead before

short-more : (works : List Work) (work : Work) → All (λ (w : Work). length w.frames.items ≤ block_size) works → length work.frames.items ≤ block_size
    → All (λ (w : Work). length w.frames.items ≤ block_size) (works ++ work ∷ [])
short-more works work all one =
    All-append (λ (w : Work). length w.frames.items ≤ block_size) works (work ∷ []) all
    (All-cons (λ (w : Work). length w.frames.items ≤ block_size) work [] one (All-nil _))

-- with one more
pub so_far-more : (first next : ℕ) (a m c : Streaming) (l k r : Option (List ℕ)) (works works' : List Work) (count : ℕ)
    → AreCutSoFar first a l m k works count → next ≡ first + length (frames_of works) → AddsWork (Ok false) next m k c r works works'
    → AreCutSoFar first a l c r works' (count + 1)
so_far-more first next a m c l k r works works' count so_far place adds =
    let whole : length adds.work.frames.items ≡ 256 = adds.cut.1 in
    subst (λ ws. AreCutSoFar first a l c r ws (count + 1)) (sym adds.added)
    (record {
      cut = AreCut-more works adds.work false a m c l k r so_far.cut adds.cut adds.most adds.fewer;
      numbered = numbered-more first works adds.work so_far.numbered (adds.number ∙ place);
      short = short-more works adds.work so_far.short adds.most;
      full = omega (arith, so_far.full, whole, frames-count works adds.work);
      fewer = omega (arith, so_far.fewer, adds.fewer, frames-count works adds.work);
    })

-- the source ended within the last block
pub round-ended : (first next : ℕ) (a m c : Streaming) (l k r : Option (List ℕ)) (works works' : List Work) (count : ℕ)
    → AreCutSoFar first a l m k works count → count < 16 → next ≡ first + length (frames_of works) → AddsWork (Ok true) next m k c r works works'
    → CutsRound (Ok true) first a l c r works'
round-ended first next a m c l k r works works' count so_far within place adds =
    subst (λ ws. CutsRound (Ok true) first a l c r ws) (sym adds.added)
    (record {
      answers = (AreCut-more works adds.work true a m c l k r so_far.cut adds.cut adds.most adds.fewer, adds.cut.1);
      numbered = numbered-more first works adds.work so_far.numbered (adds.number ∙ place);
      short = short-more works adds.work so_far.short adds.most;
      most = omega (arith, so_far.full, adds.most, within, frames-count works adds.work);
      some = λ is. absurd (cc);
      fewer = omega (arith, so_far.fewer, adds.fewer, frames-count works adds.work);
    })

-- all blocks of the round were cut
pub round-whole : (first : ℕ) (a c : Streaming) (l r : Option (List ℕ)) (works : List Work) (count : ℕ) → AreCutSoFar first a l c r works count → count ≡ 16
    → CutsRound (Ok false) first a l c r works
round-whole first a c l r works count so_far all = record {
  answers = so_far.cut;
  numbered = so_far.numbered;
  short = so_far.short;
  most = omega (arith, so_far.full, all);
  some = λ is. omega (arith, so_far.full, all);
  fewer = so_far.fewer;
}

-- the cutting of a block stopped
pub round-stopped : (stop : Stop) (first next : ℕ) (a m c : Streaming) (l k r : Option (List ℕ)) (works works' : List Work) (count : ℕ)
    → AreCutSoFar first a l m k works count → count < 16 → next ≡ first + length (frames_of works) → AddsWork (Err stop) next m k c r works works'
    → CutsRound (Err stop) first a l c r works'
round-stopped stop first next a m c l k r works works' count so_far within place adds =
    subst (λ ws. CutsRound (Err stop) first a l c r ws) (sym adds.added)
    (record {
      answers = subst (AnswersCut (Err stop) a l c r) (sym (frames-more works adds.work))
          (stopped-behind stop a m c l k r (frames_of works) adds.work.frames.items (AreCut-takes works a m l k so_far.cut) adds.cut);
      numbered = numbered-more first works adds.work so_far.numbered (adds.number ∙ place);
      short = short-more works adds.work so_far.short adds.most;
      most = omega (arith, so_far.full, adds.most, within, frames-count works adds.work);
      some = λ is. absurd (cc);
      fewer = omega (arith, so_far.fewer, adds.fewer, frames-count works adds.work);
    })

-- where the cutting did not stop, all blocks are cut, and the source ended where that is answered
pub cut-whole : (ended : Bool) (a c : Streaming) (l r : Option (List ℕ)) (works : List Work) → AnswersWorks (Ok ended) a l c r works → AreCut works a l c r
cut-whole true a c l r works cut = cut.0
cut-whole false a c l r works cut = cut

pub cut-ended : (ended : Bool) (a c : Streaming) (l r : Option (List ℕ)) (works : List Work) → AnswersWorks (Ok ended) a l c r works → ended ≡ true → c.course ≡ Ended
cut-ended true a c l r works cut is = cut.1
cut-ended false a c l r works cut is = absurd (false≢true is)

-- the checked blocks beside those that were cut, place by place
done-each : (prefer : List (List ℕ)) (library : List ℕ) (before now : List Work) → AreDone prefer library before now → AllZip (IsDone prefer library) before now
done-each prefer library [] [] done = tt
done-each prefer library [] (y ∷ ys) done = absurd (omega (arith, done.long))
done-each prefer library (x ∷ xs) [] done = absurd (omega (arith, done.long))
done-each prefer library (x ∷ xs) (y ∷ ys) done = (
  done.each 0 x (omega arith),
  done-each prefer library xs ys
      (record { long = omega (arith, done.long); each = λ place other within. done.each (suc place) other (omega (arith, within)) }),
)

frames-each : (prefer : List (List ℕ)) (library : List ℕ) (before now : List Work) → AllZip (IsDone prefer library) before now → frames_of now ≡ frames_of before
frames-each prefer library [] [] all = refl
frames-each prefer library [] (y ∷ ys) all = absurd all
frames-each prefer library (x ∷ xs) [] all = absurd all
frames-each prefer library (x ∷ xs) (y ∷ ys) all =
    ap (λ fs. fs ++ frames_of ys) all.0.frames ∙ ap (λ fs. x.frames.items ++ fs) (frames-each prefer library xs ys all.1)

numbered-each : (prefer : List (List ℕ)) (library : List ℕ) (first : ℕ) (before now : List Work) → AllZip (IsDone prefer library) before now
    → AreNumbered first before → AreNumbered first now
numbered-each prefer library first [] [] all numbered = tt
numbered-each prefer library first [] (y ∷ ys) all numbered = absurd all
numbered-each prefer library first (x ∷ xs) [] all numbered = absurd all
numbered-each prefer library first (x ∷ xs) (y ∷ ys) all numbered = (
  all.0.first ∙ numbered.0,
  subst (λ fs. AreNumbered (first + length fs) ys) (sym all.0.frames)
      (numbered-each prefer library (first + length x.frames.items) xs ys all.1 numbered.1),
)

cut-each : (prefer : List (List ℕ)) (library : List ℕ) (before now : List Work) (a c : Streaming) (l r : Option (List ℕ)) → AllZip (IsDone prefer library) before now
    → AreCut before a l c r → AreCut now a l c r
cut-each prefer library [] [] a c l r all cut = cut
cut-each prefer library [] (y ∷ ys) a c l r all cut = absurd all
cut-each prefer library (x ∷ xs) [] a c l r all cut = absurd all
cut-each prefer library (x ∷ xs) (y ∷ ys) a c l r all (e, b, t, cut, short, less, rest) = (
  e,
  b,
  t,
  subst (λ fs. AnswersCut (Ok e) a l b t fs) (sym all.0.frames) cut,
  subst (λ fs. length fs ≤ block_size) (sym all.0.frames) short,
  subst (λ fs. most_ahead b + length fs ≤ most_ahead a) (sym all.0.frames) less,
  cut-each prefer library xs ys b c t r all.1 rest,
)

-- the checking of the blocks changes none of their frames and numbers
module _ (prefer : List (List ℕ)) (library : List ℕ) (before now : List Work) (done : AreDone prefer library before now) where
  pub done-frames : frames_of now ≡ frames_of before
  done-frames = frames-each prefer library before now (done-each prefer library before now done)

  pub done-numbered : (first : ℕ) → AreNumbered first before → AreNumbered first now
  done-numbered first numbered = numbered-each prefer library first before now (done-each prefer library before now done) numbered

  pub done-cut : (a c : Streaming) (l r : Option (List ℕ)) → AreCut before a l c r → AreCut now a l c r
  done-cut a c l r cut = cut-each prefer library before now a c l r (done-each prefer library before now done) cut

  pub done-made : All (λ (work : Work). length work.frames.items ≤ block_size) before → All (IsMade prefer library) now
  done-made short = λ place other within.
      let one = done.each place other (omega (arith, within, done.long)) in
      record { made = one.made; short = omega (arith, ap length one.frames, short place other (omega (arith, within, done.long))) }

  done-answers : (result : Result Bool Stop) (a c : Streaming) (l r : Option (List ℕ)) → AnswersWorks result a l c r before → AnswersWorks result a l c r now
  done-answers (Ok true) a c l r cut = (done-cut a c l r cut.0, cut.1)
  done-answers (Ok false) a c l r cut = done-cut a c l r cut
  done-answers (Err stop) a c l r cut = subst (AnswersCut (Err stop) a l c r) (sym done-frames) cut

  pub done-round : (result : Result Bool Stop) (first : ℕ) (a c : Streaming) (l r : Option (List ℕ)) → CutsRound result first a l c r before
      → CutsRound result first a l c r now
  done-round result first a c l r round = record {
    answers = done-answers result a c l r round.answers;
    numbered = done-numbered first round.numbered;
    short = λ place other within.
        let one = done.each place other (omega (arith, within, done.long)) in
        omega (arith, ap length one.frames, round.short place other (omega (arith, within, done.long)));
    most = omega (arith, ap length done-frames, round.most);
    some = λ is. omega (arith, ap length done-frames, round.some is);
    fewer = omega (arith, ap length done-frames, round.fewer);
  }
