-- Which refused frames are kept where the reading stops.
use Rattle.std.proofs.Common.{◌≡◌, ℕ, ◌+◌, ◌≤◌, List, [], ◌∷◌, ◌++◌, length, append_assoc, inl, inr, refl, sym, ap, subst, ◌∙◌, arith, length-append}
use Rattle.std.specs.Prelude.{Option, Some, None, Err, IfSome}
use Rattle.iso2709_frame.specs.declared.cut.Cut.{Cut}
use Rattle.iso2709_frame.specs.declared.cut.Cut.TheVariants.{Truncated}
use Rattle.iso2709_frame.specs.Cutting.{told}
use Rattle.library_stream.specs.Streaming.{frames_ahead}
use Rattle.library_stream.specs.Answering.{Takes}
use Rattle.library_batches.specs.Streams.{Frame}
use Rattle.library_batches.specs.Refused.{refused_from}
use Rattle.library_batches.specs.Reading.{Batching, Losses, IsCutOff, IsLostWithin, KeepsRefused, StopsTold, StopsReading, ahead}
use Rattle.library_batches.specs.Blocks.{StopsBlock, BlockAnswers, AnswersCut}
use Rattle.library_batches.specs.Shares.{KeepsFront}
use Rattle.library_batches.specs.declared.stop.Stop.{Stop}
use Rattle.library_batches.specs.declared.stop.Stop.TheVariants.{TooLong, Failed, Memory}
use Rattle.library_batches.specs.Passing.{Passes, PassesBlocks}
use Rattle.library_batches.proofs.PassedLaws.{refused-more}

-- a rest that the limit cuts off, or none
pub cut-off : (rest : Option Cut) → IfSome rest (λ cut. cut ≡ Truncated) → IsCutOff (told rest [])
cut-off None is = inl refl
cut-off (Some cut) is = inr (ap (λ c. (c, []) ∷ []) is)

-- blocks were passed, and then the reading of one stopped
keeps-stopped : (Is : List Frame → Type 0) (a b c : Batching) (x y z : List ℕ) → PassesBlocks a (ahead a x) b (ahead b y)
    → StopsBlock Is b (Some y) c (Some z) → KeepsRefused Is a (ahead a x) c (ahead c z)
keeps-stopped Is a b c x y z passes stops = record {
  checked = passes.passed ++ stops.checked;
  lost = stops.lost;
  all = passes.are ∙ (ap (λ fs. passes.passed ++ fs) (stops.takes.0 ∙ append_assoc stops.checked stops.lost (ahead c z))
      ∙ sym (append_assoc passes.passed stops.checked (stops.lost ++ ahead c z)));
  lost_are = stops.lost_are;
  refused = refused-more a b c passes.passed stops.checked passes.place passes.refused stops.refused;
}

stops-told : (Are : Losses) (stop : Stop) (a b c : Batching) (x y z : List ℕ) → PassesBlocks a (ahead a x) b (ahead b y)
    → BlockAnswers Are (Err stop) b (Some y) c (Some z) → StopsTold Are stop a x c z
stops-told Are TooLong a b c x y z passes stops =
    subst (λ fs. KeepsRefused (Are TooLong) a (ahead a x) c fs) (ap (λ stream. frames_ahead stream z) stops.1)
    (keeps-stopped (Are TooLong) a b c x y z passes stops.0)
stops-told Are Failed a b c x y z passes stops = keeps-stopped (Are Failed) a b c x y z passes stops
stops-told Are Memory a b c x y z passes stops = keeps-stopped (Are Memory) a b c x y z passes stops

-- a source that told its bytes goes on telling them
tells-on : (Are : Losses) (stop : Stop) (b c : Batching) (y : List ℕ) → BlockAnswers Are (Err stop) b (Some y) c None → ⊥
tells-on Are TooLong b c y stops = stops.0.takes
tells-on Are Failed b c y stops = stops.takes
tells-on Are Memory b c y stops = stops.takes

pub stops-reading : (Are : Losses) (stop : Stop) (a b c : Batching) (one two three : Option (List ℕ)) → Passes a one b two
    → BlockAnswers Are (Err stop) b two c three → StopsReading Are stop a one c three
stops-reading Are stop a b c None two three passes stops = tt
stops-reading Are stop a b c (Some x) None three passes stops = absurd passes
stops-reading Are stop a b c (Some x) (Some y) None passes stops = absurd (tells-on Are stop b c y stops)
stops-reading Are stop a b c (Some x) (Some y) (Some z) passes stops = stops-told Are stop a b c x y z passes.0 stops

-- the first of the frames that were kept were checked, and the others are lost with those that the cutting lost
lost-behind : (Is : List Frame → Type 0) (a b : Batching) (one two : Option (List ℕ)) (kept lost : List Frame)
    → (front : KeepsFront (a.frames + 1) kept a.refused b.refused) → Takes a.stream one b.stream two (kept ++ lost) → Is (front.rest ++ lost)
    → StopsBlock Is a one b two
lost-behind Is a b one two kept lost front takes is = record {
  checked = front.checked;
  lost = front.rest ++ lost;
  takes = subst (Takes a.stream one b.stream two) (ap (λ fs. fs ++ lost) front.all ∙ append_assoc front.checked front.rest lost) takes;
  lost_are = is;
  refused = front.refused;
}

rest_within : (a b : Batching) (kept : List Frame) (front : KeepsFront (a.frames + 1) kept a.refused b.refused) → length front.rest ≤ length kept
rest_within a b kept front = omega (arith, ap length front.all, length-append front.checked front.rest)

-- the source is too long, and all frames that were kept were checked
pub stops-long : (size : ℕ) (a b : Batching) (one two : Option (List ℕ)) (kept : List Frame) → AnswersCut (Err TooLong) a.stream one b.stream two kept
    → b.refused ≡ a.refused ++ refused_from (a.frames + 1) kept → BlockAnswers (IsLostWithin size) (Err TooLong) a one b two
stops-long size a b one two kept stops refused =
    (record { checked = kept; lost = stops.0.0; takes = stops.0.1; lost_are = stops.0.2; refused = refused }, stops.1)

-- a read failed, and the first of the frames that were kept were checked
pub stops-failed : (size : ℕ) (a b : Batching) (one two : Option (List ℕ)) (kept : List Frame) → length kept ≤ size
    → AnswersCut (Err Failed) a.stream one b.stream two kept → KeepsFront (a.frames + 1) kept a.refused b.refused
    → BlockAnswers (IsLostWithin size) (Err Failed) a one b two
stops-failed size a b one two kept most stops front =
    lost-behind (IsLostWithin size Failed) a b one two kept stops.0 front stops.1
    (omega (arith, most, rest_within a b kept front, length-append front.rest stops.0, ap length stops.2))

-- memory ran out while frames were checked that were all cut
pub stops-checking : (size : ℕ) (a b : Batching) (one two : Option (List ℕ)) (kept : List Frame) → length kept ≤ size
    → Takes a.stream one b.stream two kept → KeepsFront (a.frames + 1) kept a.refused b.refused → BlockAnswers (IsLostWithin size) (Err Memory) a one b two
stops-checking size a b one two kept most takes front = record {
  checked = front.checked;
  lost = front.rest;
  takes = subst (Takes a.stream one b.stream two) front.all takes;
  lost_are = omega (arith, most, rest_within a b kept front);
  refused = front.refused;
}

cut_off-short : (lost : List Frame) → IsCutOff lost → length lost ≤ 1
cut_off-short lost (inl none) = omega (arith, ap length none)
cut_off-short lost (inr one) = omega (arith, ap length one)

-- memory ran out while frames were checked whose cutting had stopped
pub stops-both : (size : ℕ) (stop : Stop) (a b : Batching) (one two : Option (List ℕ)) (kept : List Frame) → length kept ≤ size
    → AnswersCut (Err stop) a.stream one b.stream two kept → KeepsFront (a.frames + 1) kept a.refused b.refused
    → BlockAnswers (IsLostWithin size) (Err Memory) a one b two
stops-both size TooLong a b one two kept most stops front =
    lost-behind (IsLostWithin size Memory) a b one two kept stops.0.0 front stops.0.1
    (omega (arith, most, rest_within a b kept front, length-append front.rest stops.0.0, cut_off-short stops.0.0 stops.0.2))
stops-both size Failed a b one two kept most stops front =
    lost-behind (IsLostWithin size Memory) a b one two kept stops.0 front stops.1
    (omega (arith, most, rest_within a b kept front, length-append front.rest stops.0, ap length stops.2))
stops-both size Memory a b one two kept most stops front =
    lost-behind (IsLostWithin size Memory) a b one two kept stops.0 front stops.1
    (omega (arith, most, rest_within a b kept front, length-append front.rest stops.0, stops.2))
