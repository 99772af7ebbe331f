-- How one step of the reader moves the frames ahead.
use Rattle.std.proofs.Common.{◌≡◌, ◌≢◌, ℕ, ◌≤◌, ◌-◌, ◌+◌, false, List, [], ◌∷◌, ◌++◌, length, take, drop, refl, sym, ap, ◌∙◌, arith, append-nil, length-append}
use Rattle.std.specs.Prelude.{Option, Some, None}
use Rattle.std.specs.List.{list_any}
use Rattle.std.specs.Io.KnownBytes.{Consumes}
use Rattle.std.proofs.lemmas.List.{drop_all}
use Rattle.std.proofs.Math.Seq.{take-append-add}
use Rattle.iso2709_frame.specs.declared.cut.Cut.{Cut}
use Rattle.iso2709_frame.specs.Frames.{frames, first_piece, is_terminator}
use Rattle.iso2709_frame.specs.Cutting.{Cutting, told}
use Rattle.iso2709_frame.proofs.PieceLaws.{first_piece-all}
use Rattle.library_stream.specs.declared.course.Course.{Course}
use Rattle.library_stream.specs.declared.course.Course.TheVariants.{Open, Ended, Passed}
use Rattle.library_stream.specs.declared.answer.Next.{Next}
use Rattle.library_stream.specs.declared.answer.Next.TheVariants.{Frame, End, TooLong, Failed}
use Rattle.library_stream.specs.Streaming.{streaming}
use Rattle.library_stream.specs.Answering.{Takes, AnswersFrame, IsLast, ReadsWithin}

-- a piece without a terminator is taken whole
pub taken_whole : (rest : List ℕ) (n : ℕ) → n ≡ length (first_piece rest) → false ≡ list_any is_terminator rest → drop n rest ≡ []
taken_whole rest n taken open_text =
    ap (λ k. drop k rest) (taken ∙ ap length (first_piece-all rest (sym open_text))) ∙ drop_all (length rest) rest (omega arith)

-- what is unread is cut in no frame, and waits
pub waits : (a b : Cutting) (unread unread' : List ℕ) (cut : Option Cut)
    → ((more : List ℕ) → frames (a.pending ++ (unread ++ more)) ≡ told cut b.frame ++ frames (b.pending ++ (unread' ++ more)))
    → cut ≡ None → unread' ≡ [] → (more : List ℕ) → frames (a.pending ++ (unread ++ more)) ≡ frames (b.pending ++ ([] ++ more))
waits a b unread unread' cut says none empty more =
    says more ∙ ap (λ k. told k b.frame ++ frames (b.pending ++ (unread' ++ more))) none ∙ ap (λ xs. frames (b.pending ++ (xs ++ more))) empty

-- a read that stays within the limit
pub reads-open : (before now : Option (List ℕ)) (room n : ℕ) (unread : List ℕ) → Consumes before now unread → length unread ≡ n → n ≤ room
    → ReadsWithin before room now unread (Open (room - n))
reads-open None now room n unread consumes size within = tt
reads-open (Some bytes) None room n unread consumes size within = absurd consumes
reads-open (Some bytes) (Some rest) room n unread consumes size within =
    let split : room ≡ length unread + (room - n) = omega arith in (
      ap (take room) consumes ∙ ap (λ k. take k (unread ++ rest)) split ∙ take-append-add unread rest (room - n),
      grind (arith, length-append),
    )

-- a piece that was read, where nothing else was unread
pub Takes-read : (before now : Option (List ℕ)) (a b : Cutting) (unread unread' : List ℕ) (room : ℕ) (course : Course)
    → ((more : List ℕ) → frames (a.pending ++ (unread ++ more)) ≡ frames (b.pending ++ ([] ++ more)))
    → ReadsWithin before room now unread' course → course ≢ Ended
    → Takes (streaming a unread (Open room)) before (streaming b unread' course) now []
Takes-read None now a b unread unread' room course same reads open_course = tt
Takes-read (Some bytes) None a b unread unread' room course same reads open_course = absurd reads
Takes-read (Some bytes) (Some rest) a b unread unread' room (Open less) same reads open_course =
    (same (take room bytes) ∙ ap (λ xs. frames (b.pending ++ xs)) reads.0, reads.1)
Takes-read (Some bytes) (Some rest) a b unread unread' room Passed same reads open_course =
    (same (take room bytes) ∙ ap (λ xs. frames (b.pending ++ xs)) reads.0, reads.1)
Takes-read (Some bytes) (Some rest) a b unread unread' room Ended same reads open_course = absurd (open_course refl)

-- no frame is after what waits at the end of the source
ends_with : (bytes unread' : List ℕ) (a b : Cutting) (unread : List ℕ) (room : ℕ) (last : List (Cut × List ℕ))
    → ((more : List ℕ) → frames (a.pending ++ (unread ++ more)) ≡ frames (b.pending ++ ([] ++ more)))
    → take room bytes ≡ unread' ++ [] → unread' ≡ [] → frames b.pending ≡ last
    → frames (a.pending ++ (unread ++ take room bytes)) ≡ last ++ []
ends_with bytes unread' a b unread room last same reads none is =
    same (take room bytes)
    ∙ ap (λ xs. frames (b.pending ++ xs)) (reads ∙ append-nil unread' ∙ none)
    ∙ ap frames (append-nil b.pending) ∙ is ∙ sym (append-nil last)

-- the end of the source
pub Answers-last : (before now : Option (List ℕ)) (a b c : Cutting) (unread unread' : List ℕ) (room : ℕ) (answer : Next)
    → ((more : List ℕ) → frames (a.pending ++ (unread ++ more)) ≡ frames (b.pending ++ ([] ++ more)))
    → ReadsWithin before room now unread' Ended → unread' ≡ [] → c.frame ≡ [] → IsLast answer (frames b.pending)
    → AnswersFrame answer (streaming a unread (Open room)) before (streaming c unread' Ended) now
Answers-last None now a b c unread unread' room (Frame cut) same reads none lent last = tt
Answers-last (Some bytes) None a b c unread unread' room (Frame cut) same reads none lent last = absurd reads
Answers-last (Some bytes) (Some rest) a b c unread unread' room (Frame cut) same reads none lent last =
    (ends_with bytes unread' a b unread room _ same reads.0 none (last ∙ ap (λ frame. (cut, frame) ∷ []) (sym lent)), reads.1)
Answers-last None now a b c unread unread' room End same reads none lent last = (tt, refl)
Answers-last (Some bytes) None a b c unread unread' room End same reads none lent last = absurd reads
Answers-last (Some bytes) (Some rest) a b c unread unread' room End same reads none lent last =
    ((ends_with bytes unread' a b unread room _ same reads.0 none last, reads.1), refl)
Answers-last before now a b c unread unread' room TooLong same reads none lent last = absurd last
Answers-last before now a b c unread unread' room Failed same reads none lent last = absurd last
