-- The batches of a source, one after the other.
use Rattle.std.proofs.Common.{◌≡◌, ℕ, ◌+◌, ◌≤◌, List, [], ◌∷◌, ◌++◌, length, refl, sym, ap, subst, ◌∙◌, arith, append_assoc, append-nil}
use Rattle.std.specs.Prelude.{◌<◌, Option, Some, None, IfSome, Ok, Err, take}
use Rattle.std.proofs.lemmas.Bool.{ltb-false, ltb-true}
use Rattle.std.proofs.lemmas.List.{take_all}
use Rattle.iso2709_frame.specs.Frames.{frames}
use Rattle.library_stream.specs.Streaming.{is_too_long, passes}
use Rattle.library_stream.specs.declared.course.Course.TheVariants.{Open}
use Rattle.catalogue_editions.specs.declared.batch.Batch.{Batch}
use Rattle.library_batches.specs.Batches.{AreBatches}
use Rattle.library_batches.specs.Reading.{Batching, begun, ahead, AnswersBatch}
use Rattle.library_batches.specs.Refused.{refused, refused_from}
use Rattle.library_batches.specs.declared.stop.Stop.TheVariants.{TooLong}

-- these batches were handed out of a source that had those bytes: they stand before the ones that are still to come
pub record HandedOut (library : List ℕ) (limit : ℕ) (bytes : List ℕ) (reader : Batching) (rest : List ℕ) (batches : List Batch) : Type 0 where
  pub all : (later : List Batch) → AreBatches [] library (ahead reader rest) later → AreBatches [] library (frames (take limit bytes)) (batches ++ later)
  pub frames_are : reader.frames + length (ahead reader rest) ≡ length (frames (take limit bytes))
  pub refused_are : reader.refused ++ refused_from (reader.frames + 1) (ahead reader rest) ≡ refused (frames (take limit bytes))
  pub long : is_too_long reader.stream rest ≡ passes (Open limit) bytes

-- the same where the source may not tell its bytes
abbrev pub Hands : List ℕ → ℕ → Option (List ℕ) → Batching → Option (List ℕ) → List Batch → Type 0
Hands library limit None reader left batches = Unit {0}
Hands library limit (Some bytes) reader None batches = ⊥
Hands library limit (Some bytes) reader (Some rest) batches = HandedOut library limit bytes reader rest batches

-- nothing was handed out at first
pub hands_none : (library : List ℕ) (limit : ℕ) (told : Option (List ℕ)) → Hands library limit told (begun [] library limit) told []
hands_none library limit None = tt
hands_none library limit (Some bytes) = record {
  all = λ later are. are;
  frames_are = omega arith;
  refused_are = refl;
  long = refl;
}

-- one batch more
pub hands_more : (library : List ℕ) (limit : ℕ) (told now then : Option (List ℕ)) (a b : Batching) (batches : List Batch) (batch : Batch)
    → a.prefer ≡ [] → a.library ≡ library → Hands library limit told a now batches → AnswersBatch (Ok (Some batch)) a now b then
    → Hands library limit told b then (batches ++ batch ∷ [])
hands_more library limit None now then a b batches batch free own hands answers = tt
hands_more library limit (Some bytes) None then a b batches batch free own hands answers = absurd hands
hands_more library limit (Some bytes) (Some rest) None a b batches batch free own hands answers = absurd answers
hands_more library limit (Some bytes) (Some rest) (Some more) a b batches batch free own hands answers =
    let takes = answers.0 in
    record {
      all = λ later are.
          subst (λ all. AreBatches [] library (frames (take limit bytes)) all) (sym (append_assoc batches (batch ∷ []) later))
          (hands.all (batch ∷ later) (subst (λ code. AreBatches [] code (ahead a rest) (batch ∷ later)) own
          (subst (λ p. AreBatches p a.library (ahead a rest) (batch ∷ later)) free
          (takes.all later (subst (λ p. AreBatches p a.library (ahead b more) later) (sym free)
          (subst (λ code. AreBatches [] code (ahead b more) later) (sym own) are))))));
      frames_are = takes.keeps.frames ∙ hands.frames_are;
      refused_are = takes.keeps.refused ∙ hands.refused_are;
      long = answers.1 ∙ hands.long;
    }

-- the source passes the limit
pub hands_long : (library : List ℕ) (limit : ℕ) (told now then : Option (List ℕ)) (a b : Batching) (batches : List Batch)
    → Hands library limit told a now batches → AnswersBatch (Err TooLong) a now b then → IfSome told (λ bytes. limit < length bytes)
hands_long library limit None now then a b batches hands answers = tt
hands_long library limit (Some bytes) None then a b batches hands answers = absurd hands
hands_long library limit (Some bytes) (Some rest) None a b batches hands answers = absurd answers
hands_long library limit (Some bytes) (Some rest) (Some more) a b batches hands answers =
    ltb-true limit (length bytes) (sym hands.long ∙ answers)

-- after the last batch the frames were counted, and all batches were handed out
pub record AllHandedOut (library : List ℕ) (limit : ℕ) (bytes : List ℕ) (reader : Batching) (batches : List Batch) : Type 0 where
  pub fits : length bytes ≤ limit
  pub all : AreBatches [] library (frames bytes) batches
  pub frames_are : reader.frames ≡ length (frames bytes)
  pub refused_are : reader.refused ≡ refused (frames bytes)

pub hands_all : (library : List ℕ) (limit : ℕ) (told now then : Option (List ℕ)) (a b : Batching) (batches : List Batch)
    → a.prefer ≡ [] → a.library ≡ library → Hands library limit told a now batches → AnswersBatch (Ok None) a now b then
    → IfSome told (λ bytes. AllHandedOut library limit bytes b batches)
hands_all library limit None now then a b batches free own hands answers = tt
hands_all library limit (Some bytes) None then a b batches free own hands answers = absurd hands
hands_all library limit (Some bytes) (Some rest) None a b batches free own hands answers = absurd answers
hands_all library limit (Some bytes) (Some rest) (Some more) a b batches free own hands answers =
    let fits : length bytes ≤ limit = ltb-false limit (length bytes) (sym hands.long ∙ answers.2) in
    let whole : take limit bytes ≡ bytes = take_all limit bytes fits in
    let none : AreBatches [] library (ahead a rest) [] = subst (λ code. AreBatches [] code (ahead a rest) []) own
    (subst (λ p. AreBatches p a.library (ahead a rest) []) free answers.0) in
    let all : AreBatches [] library (frames (take limit bytes)) batches = subst (λ all. AreBatches [] library (frames (take limit bytes)) all) (append-nil batches) (hands.all [] none) in
    record {
      fits = fits;
      all = subst (λ xs. AreBatches [] library (frames xs) batches) whole all;
      frames_are = omega (arith, answers.1.frames, hands.frames_are, ap (λ xs. length (frames xs)) whole);
      refused_are = sym (append-nil b.refused) ∙ answers.1.refused ∙ hands.refused_are ∙ ap (λ xs. refused (frames xs)) whole;
    }

-- after an answer that is no batch
pub hands_rest : (next : Option Batch) (library : List ℕ) (limit : ℕ) (told now then : Option (List ℕ)) (a b : Batching) (batches : List Batch)
    → ((batch : Batch) → next ≡ Some batch → ⊥) → a.prefer ≡ [] → a.library ≡ library → Hands library limit told a now batches → AnswersBatch (Ok next) a now b then
    → IfSome told (λ bytes. AllHandedOut library limit bytes b batches)
hands_rest None library limit told now then a b batches not free own hands answers = hands_all library limit told now then a b batches free own hands answers
hands_rest (Some batch) library limit told now then a b batches not free own hands answers = absurd (not batch refl)
