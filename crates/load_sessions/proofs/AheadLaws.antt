-- How a session goes on whose reader has answered more than was turned.
use Rattle.std.proofs.Common.{◌≡◌, ◌≤◌, ◌<◌, ◌+◌, ℕ, List, ◌++◌, ◌∷◌, [], length, take, refl, ap, subst, arith}
use Rattle.std.specs.Prelude.{Option, Some, None, Result, Ok, Err, IfSome, IfOk, OnSome}
use Rattle.iso2709_frame.specs.Frames.{frames}
use Rattle.catalogue_editions.specs.declared.batch.Batch.{Batch}
use Rattle.library_stream.specs.Streaming.{most_ahead}
use Rattle.library_batches.specs.Batches.{AreFirstBatches}
use Rattle.library_batches.specs.Handing.{HandsOut}
use Rattle.library_batches.specs.Reading.{Batching, AnswersBatch}
use Rattle.library_batches.specs.declared.stop.Stop.{Stop}
use Rattle.library_batches.specs.declared.stop.Stop.TheVariants.{TooLong, Failed, Memory}
use Rattle.library_batches.proofs.HandingLaws.{HandsOut-batch, HandsOut-long, HandsOut-first}
use Rattle.load_sessions.specs.Turning.{stop_beside}

-- how many batches may still be turned, where the reader answered that last
abbrev pub to_come : Result (Option Batch) Stop → Batching → ℕ
to_come (Ok (Some batch)) reader = most_ahead reader.stream + 1
to_come (Ok None) reader = 0
to_come (Err stop) reader = 0

pub to_come-fewer : (next : Result (Option Batch) Stop) (before now : Batching) → IfOk next (λ answer. OnSome answer (most_ahead now.stream < most_ahead before.stream))
    → to_come next now ≤ most_ahead before.stream
to_come-fewer (Ok (Some batch)) before now fewer =
    let less : most_ahead now.stream < most_ahead before.stream = fewer in
    omega (arith, less)
to_come-fewer (Ok None) before now fewer = omega arith
to_come-fewer (Err stop) before now fewer = omega arith

-- these batches were handed out before the reader's last answer
pub record Awaits (prefer : List (List ℕ)) (library : List ℕ) (limit : ℕ) (left : Option (List ℕ)) (own : List Batch) (next : Result (Option Batch) Stop)
    (reader : Batching) (rest : Option (List ℕ)) : Type 0 where
  pub earlier : Batching
  pub told : Option (List ℕ)
  pub handed : HandsOut prefer library limit left own earlier told
  pub answers : AnswersBatch next earlier told reader rest

module _ (prefer : List (List ℕ)) (library : List ℕ) (limit : ℕ) (left : Option (List ℕ)) (own : List Batch) (next : Result (Option Batch) Stop)
    (reader : Batching) (rest : Option (List ℕ)) where
  pub Awaits-more : (batch : Batch) (later : Result (Option Batch) Stop) (now : Batching) (then : Option (List ℕ))
      → Awaits prefer library limit left own next reader rest → next ≡ Ok (Some batch) → AnswersBatch later reader rest now then
      → Awaits prefer library limit left (own ++ batch ∷ []) later now then
  Awaits-more batch later now then awaits is answers = record {
    earlier = reader;
    told = rest;
    handed = HandsOut-batch prefer library limit left awaits.told rest own batch awaits.earlier reader awaits.handed
        (subst (λ answer. AnswersBatch answer awaits.earlier awaits.told reader rest) is awaits.answers);
    answers = answers;
  }

  pub Awaits-first : Awaits prefer library limit left own next reader rest → IfSome left (λ bytes. AreFirstBatches prefer library (frames (take limit bytes)) own)
  Awaits-first awaits = HandsOut-first prefer library limit left awaits.told own awaits.earlier awaits.handed

  pub Awaits-long : Awaits prefer library limit left own next reader rest → next ≡ Err TooLong → IfSome left (λ bytes. limit < length bytes)
  Awaits-long awaits is =
      HandsOut-long prefer library limit left awaits.told rest own awaits.earlier reader awaits.handed
      (subst (λ answer. AnswersBatch answer awaits.earlier awaits.told reader rest) is awaits.answers)

-- a turn that was refused memory never stops as a source that is too long
pub stop_beside-short : (next : Result (Option Batch) Stop) → stop_beside next ≡ TooLong → ⊥
stop_beside-short (Ok next) is = cc
stop_beside-short (Err TooLong) is = cc
stop_beside-short (Err Failed) is = cc
stop_beside-short (Err Memory) is = cc

pub stop_beside-failed : (next : Result (Option Batch) Stop) → stop_beside next ≡ Failed → next ≡ Err Failed
stop_beside-failed (Ok next) is = absurd (cc)
stop_beside-failed (Err TooLong) is = absurd (cc)
stop_beside-failed (Err Failed) is = refl
stop_beside-failed (Err Memory) is = absurd (cc)

pub stop_beside-calm : (next : Result (Option Batch) Stop) → (stop_beside next ≡ Failed → ⊥) → next ≡ Err Failed → ⊥
stop_beside-calm next other is = other (ap stop_beside is)

-- an answer of a batch is no failure
pub answered : (next : Result (Option Batch) Stop) (answer : Option Batch) → next ≡ Ok answer → next ≡ Err Failed → ⊥
answered next answer is wrong = cc (is, wrong)
