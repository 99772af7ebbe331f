-- How what was handed out goes on.
use Rattle.std.proofs.Common.{◌≡◌, ℕ, ◌≤◌, ◌<◌, List, [], ◌∷◌, ◌++◌, length, take, append_assoc, append-nil, refl, sym, ap, subst, ◌∙◌, arith}
use Rattle.std.specs.Prelude.{Option, Some, None, Ok, Err, IfSome}
use Rattle.std.proofs.lemmas.Bool.{ltb-false, ltb-true}
use Rattle.std.proofs.lemmas.List.{take_all}
use Rattle.std.proofs.lemmas.List.Sums.{fold-append}
use Rattle.iso2709_frame.specs.Frames.{frames}
use Rattle.library_stream.specs.Streaming.{frames_on, passes}
use Rattle.library_stream.specs.declared.course.Course.TheVariants.{Ended}
use Rattle.catalogue_editions.specs.CurrentRecords.{MapOf, after_batch, outcomes}
use Rattle.catalogue_editions.specs.declared.batch.Batch.{Batch}
use Rattle.catalogue_editions.specs.declared.edition.Edition.{Edition}
use Rattle.library_batches.specs.Streams.{Frame}
use Rattle.library_batches.specs.Refused.{refused}
use Rattle.library_batches.specs.Batches.{AreBatches, AreFirstBatches}
use Rattle.library_batches.specs.Handing.{HandsOut, IsRead}
use Rattle.library_batches.specs.Outcomes.{found_in, after_batches}
use Rattle.library_batches.specs.Passing.{Passes}
use Rattle.library_batches.specs.Reading.{AnswersBatch, AnswersEach, Batching, IsLostByRounds, begun, ahead, KeepsFrames}
use Rattle.library_batches.specs.Rounds.{HandsRound, RoundAnswers}
use Rattle.library_batches.specs.declared.stop.Stop.{Stop}
use Rattle.library_batches.specs.declared.stop.Stop.TheVariants.{TooLong}
use Rattle.library_batches.proofs.PassedLaws.{to_reader, from_reader, Passes-none, Answers-stopped}

pub HandsOut-none : (prefer : List (List ℕ)) (library : List ℕ) (limit : ℕ) (left : Option (List ℕ)) → HandsOut prefer library limit left [] (begun prefer library limit) left
HandsOut-none prefer library limit None = tt
HandsOut-none prefer library limit (Some bytes) = record {
  keeps = record { prefer = refl; library = refl; frames = refl; refused = refl };
  all = λ later all. all;
  first = λ later first. first;
  too_long = refl;
}

KeepsFrames-more : (a b c : Batching) (x y z : List Frame) → KeepsFrames a x b y → KeepsFrames b y c z → KeepsFrames a x c z
KeepsFrames-more a b c x y z one two = record {
  prefer = two.prefer ∙ one.prefer;
  library = two.library ∙ one.library;
  frames = two.frames ∙ one.frames;
  refused = two.refused ∙ one.refused;
}

pub HandsOut-batch : (prefer : List (List ℕ)) (library : List ℕ) (limit : ℕ) (left before now : Option (List ℕ)) (done : List Batch) (batch : Batch) (a b : Batching)
    → HandsOut prefer library limit left done a before → AnswersBatch (Ok (Some batch)) a before b now → HandsOut prefer library limit left (done ++ batch ∷ []) b now
HandsOut-batch prefer library limit None before now done batch a b handed says = tt
HandsOut-batch prefer library limit (Some bytes) None now done batch a b handed says = absurd handed
HandsOut-batch prefer library limit (Some bytes) (Some x) None done batch a b handed says = absurd says
HandsOut-batch prefer library limit (Some bytes) (Some x) (Some y) done batch a b handed says =
    let of = handed.keeps in
    record {
      keeps = KeepsFrames-more (begun prefer library limit) a b (frames (take limit bytes)) (ahead a x) (ahead b y) handed.keeps says.0.keeps;
      all = λ later all. subst (AreBatches prefer library (frames (take limit bytes))) (sym (append_assoc done (batch ∷ []) later))
          (handed.all (batch ∷ later) (from_reader (λ p l. AreBatches p l (ahead a x) (batch ∷ later)) (begun prefer library limit) a of.prefer of.library
          (says.0.all later (to_reader (λ p l. AreBatches p l (ahead b y) later) (begun prefer library limit) a of.prefer of.library all))));
      first = λ later first. subst (AreFirstBatches prefer library (frames (take limit bytes))) (sym (append_assoc done (batch ∷ []) later))
          (handed.first (batch ∷ later) (from_reader (λ p l. AreFirstBatches p l (ahead a x) (batch ∷ later)) (begun prefer library limit) a of.prefer of.library
          (says.0.first later (to_reader (λ p l. AreFirstBatches p l (ahead b y) later) (begun prefer library limit) a of.prefer of.library first))));
      too_long = says.1 ∙ handed.too_long;
    }

pub HandsOut-end : (prefer : List (List ℕ)) (library : List ℕ) (limit : ℕ) (left before now : Option (List ℕ)) (done : List Batch) (a b : Batching)
    → HandsOut prefer library limit left done a before → AnswersBatch (Ok None) a before b now → IfSome left (λ bytes. IsRead prefer library limit bytes done b)
HandsOut-end prefer library limit None before now done a b handed says = tt
HandsOut-end prefer library limit (Some bytes) None now done a b handed says = absurd handed
HandsOut-end prefer library limit (Some bytes) (Some x) None done a b handed says = absurd says
HandsOut-end prefer library limit (Some bytes) (Some x) (Some y) done a b handed says =
    let fits : length bytes ≤ limit = ltb-false limit (length bytes) (sym handed.too_long ∙ says.2) in
    let whole : frames (take limit bytes) ≡ frames bytes = ap frames (take_all limit bytes fits) in
    let keeps = KeepsFrames-more (begun prefer library limit) a b (frames (take limit bytes)) (ahead a x) [] handed.keeps says.1 in
    let batches : AreBatches prefer library (frames (take limit bytes)) done =
    subst (AreBatches prefer library (frames (take limit bytes))) (append-nil done)
    (handed.all [] (from_reader (λ p l. AreBatches p l (ahead a x) []) (begun prefer library limit) a handed.keeps.prefer handed.keeps.library says.0)) in
    record {
      fits = fits;
      all = subst (λ fs. AreBatches prefer library fs done) whole batches;
      frames_are = omega (arith, keeps.frames, ap length whole);
      refused_are = sym (append-nil b.refused) ∙ (keeps.refused ∙ ap refused whole);
    }

pub HandsOut-long : (prefer : List (List ℕ)) (library : List ℕ) (limit : ℕ) (left before now : Option (List ℕ)) (done : List Batch) (a b : Batching)
    → HandsOut prefer library limit left done a before → AnswersBatch (Err TooLong) a before b now → IfSome left (λ bytes. limit < length bytes)
HandsOut-long prefer library limit None before now done a b handed says = tt
HandsOut-long prefer library limit (Some bytes) None now done a b handed says = absurd handed
HandsOut-long prefer library limit (Some bytes) (Some x) None done a b handed says = absurd says
HandsOut-long prefer library limit (Some bytes) (Some x) (Some y) done a b handed says = ltb-true limit (length bytes) (sym handed.too_long ∙ says)

pub HandsOut-first : (prefer : List (List ℕ)) (library : List ℕ) (limit : ℕ) (left before : Option (List ℕ)) (done : List Batch) (a : Batching)
    → HandsOut prefer library limit left done a before → IfSome left (λ bytes. AreFirstBatches prefer library (frames (take limit bytes)) done)
HandsOut-first prefer library limit None before done a handed = tt
HandsOut-first prefer library limit (Some bytes) None done a handed = absurd handed
HandsOut-first prefer library limit (Some bytes) (Some x) done a handed =
    subst (AreFirstBatches prefer library (frames (take limit bytes))) (append-nil done) (handed.first [] tt)

-- blocks without a batch were passed
HandsOut-passes : (prefer : List (List ℕ)) (library : List ℕ) (limit : ℕ) (left before now : Option (List ℕ)) (done : List Batch) (a b : Batching)
    → HandsOut prefer library limit left done a before → Passes a before b now → HandsOut prefer library limit left done b now
HandsOut-passes prefer library limit None before now done a b handed passed = tt
HandsOut-passes prefer library limit (Some bytes) None now done a b handed passed = absurd handed
HandsOut-passes prefer library limit (Some bytes) (Some x) None done a b handed passed = absurd passed
HandsOut-passes prefer library limit (Some bytes) (Some x) (Some y) done a b handed passed =
    let of = handed.keeps in
    record {
      keeps = KeepsFrames-more (begun prefer library limit) a b (frames (take limit bytes)) (ahead a x) (ahead b y) handed.keeps passed.0.keeps;
      all = λ later all. handed.all later (from_reader (λ p l. AreBatches p l (ahead a x) later) (begun prefer library limit) a of.prefer of.library
          (passed.0.all later (to_reader (λ p l. AreBatches p l (ahead b y) later) (begun prefer library limit) a of.prefer of.library all)));
      first = λ later first. handed.first later (from_reader (λ p l. AreFirstBatches p l (ahead a x) later) (begun prefer library limit) a of.prefer of.library
          (passed.0.first later (to_reader (λ p l. AreFirstBatches p l (ahead b y) later) (begun prefer library limit) a of.prefer of.library first)));
      too_long = passed.1 ∙ handed.too_long;
    }

-- the first of the batches were answered one after the other
AnswersEach-front : (made rest : List Batch) (a b : Batching) (l k : Option (List ℕ)) → AnswersEach (made ++ rest) a l b k
    → (m : Batching) × (t : Option (List ℕ)) × AnswersEach made a l m t
AnswersEach-front [] rest a b l k each = (a, l, (refl, refl))
AnswersEach-front (batch ∷ made) rest a b l k (m, t, first, more) =
    let front = AnswersEach-front made rest m b t k more in
    (front.0, front.1, (m, t, first, front.2))

-- at the end of the source no batch is ahead
Answers-ended : (a : Batching) (left : Option (List ℕ)) → a.stream.course ≡ Ended → AnswersBatch (Ok None) a left a left
Answers-ended a None ended = tt
Answers-ended a (Some bytes) ended =
    let nothing : ahead a bytes ≡ [] = ap (λ course. frames_on course a.stream.pending a.stream.unread bytes) ended in (
      subst (λ fs. AreBatches a.prefer a.library fs []) (sym nothing) tt,
      subst (λ fs. KeepsFrames a fs a []) (sym nothing) (record { prefer = refl; library = refl; frames = refl; refused = refl }),
      ap (λ course. passes course bytes) ended,
    )

module _ (prefer : List (List ℕ)) (library : List ℕ) (limit : ℕ) (left : Option (List ℕ)) where
  -- batches were handed out, one after the other
  HandsOut-each : (batches done : List Batch) (a b : Batching) (l k : Option (List ℕ)) → HandsOut prefer library limit left done a l → AnswersEach batches a l b k
      → HandsOut prefer library limit left (done ++ batches) b k
  HandsOut-each [] done a b l k handed none =
      subst (λ s. HandsOut prefer library limit left (done ++ []) s k) (sym none.0)
      (subst (λ s. HandsOut prefer library limit left (done ++ []) a s) (sym none.1)
      (subst (λ d. HandsOut prefer library limit left d a l) (sym (append-nil done)) handed))
  HandsOut-each (batch ∷ batches) done a b l k handed (m, t, first, rest) =
      subst (λ d. HandsOut prefer library limit left d b k) (append_assoc done (batch ∷ []) batches)
      (HandsOut-each batches (done ++ batch ∷ []) m b t k (HandsOut-batch prefer library limit left l t done batch a m handed first) rest)

  -- those of a round
  pub HandsOut-round : (batches done : List Batch) (a b : Batching) (l k : Option (List ℕ)) → HandsOut prefer library limit left done a l → HandsRound a l b k batches
      → HandsOut prefer library limit left (done ++ batches) b k
  HandsOut-round batches done a b l k handed hands =
      HandsOut-passes prefer library limit left hands.told k (done ++ batches) hands.between b
      (HandsOut-each batches done a hands.between l hands.told handed hands.each) hands.passes

  -- the first ones of a round
  pub HandsOut-part : (made rest batches done : List Batch) (a b : Batching) (l k : Option (List ℕ)) → batches ≡ made ++ rest
      → HandsOut prefer library limit left done a l → HandsRound a l b k batches
      → IfSome left (λ bytes. AreFirstBatches prefer library (frames (take limit bytes)) (done ++ made))
  HandsOut-part made rest batches done a b l k same handed hands =
      let front = AnswersEach-front made rest a hands.between l hands.told (subst (λ bs. AnswersEach bs a l hands.between hands.told) same hands.each) in
      HandsOut-first prefer library limit left front.1 (done ++ made) front.0 (HandsOut-each made done a front.0 l front.1 handed front.2)

  -- the source ended within the last round
  pub HandsOut-ended : (done : List Batch) (a : Batching) (l : Option (List ℕ)) → HandsOut prefer library limit left done a l → a.stream.course ≡ Ended
      → IfSome left (λ bytes. IsRead prefer library limit bytes done a)
  HandsOut-ended done a l handed ended = HandsOut-end prefer library limit left l l done a a handed (Answers-ended a l ended)

  -- the reading of a round stopped
  pub HandsOut-stopped : (stop : Stop) (done : List Batch) (a b : Batching) (l k : Option (List ℕ)) → HandsOut prefer library limit left done a l
      → RoundAnswers (Err stop) a l b k → stop ≡ TooLong → IfSome left (λ bytes. limit < length bytes)
  HandsOut-stopped stop done a b l k handed stops is =
      HandsOut-long prefer library limit left l k done a b handed
      (subst (λ s. AnswersBatch (Err s) a l b k) is (Answers-stopped IsLostByRounds stop a a b l l k (Passes-none a l) stops))

pub found_in-one_more : (all : MapOf Edition) (batches : List Batch) (batch : Batch)
    → found_in all (batches ++ batch ∷ []) ≡ found_in all batches ++ outcomes batch.library (after_batches all batches) batch.ops
found_in-one_more all [] batch = append-nil (outcomes batch.library all batch.ops)
found_in-one_more all (first ∷ batches) batch =
    ap (λ xs. outcomes first.library all first.ops ++ xs) (found_in-one_more (after_batch all first) batches batch)
    ∙ sym (append_assoc (outcomes first.library all first.ops) (found_in (after_batch all first) batches) _)

pub after_batches-one_more : (all : MapOf Edition) (batches : List Batch) (batch : Batch)
    → after_batches all (batches ++ batch ∷ []) ≡ after_batch (after_batches all batches) batch
after_batches-one_more all batches batch = fold-append after_batch all batches (batch ∷ [])
