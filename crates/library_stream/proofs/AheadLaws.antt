-- How the frames ahead follow one answer after another.
use Rattle.std.proofs.Common.{◌≡◌, false, ℕ, ◌≤◌, List, [], ◌++◌, length, refl, sym, ap, ◌∙◌, arith, append_assoc, append-nil}
use Rattle.std.specs.Prelude.{Option, Some, None, IfSome}
use Rattle.iso2709_frame.specs.declared.cut.Cut.{Cut}
use Rattle.library_stream.specs.declared.answer.Next.{Next}
use Rattle.library_stream.specs.declared.answer.Next.TheVariants.{Frame, End, TooLong, Failed}
use Rattle.library_stream.specs.Streaming.{Streaming, opened, passes, frames_on, frames_ahead, is_too_long}
use Rattle.library_stream.specs.Answering.{Takes, AnswersFrame, AllHanded, FrontHanded, Fewer}
use Rattle.iso2709_frame.specs.Frames.{frames}
use Rattle.iso2709_frame.specs.Cutting.{told}
use Rattle.std.proofs.lemmas.Bool.{ltb-false, ltb-true}
use Rattle.std.proofs.lemmas.List.{take_all}

-- nothing is taken at first
pub Takes-none : (a : Streaming) (left : Option (List ℕ)) → Takes a left a left []
Takes-none a None = tt
Takes-none a (Some bytes) = (refl, refl)

-- what is taken twice
pub Takes-more : (a b c : Streaming) (one two three : Option (List ℕ)) (xs ys : List (Cut × List ℕ)) → Takes a one b two xs
    → Takes b two c three ys → Takes a one c three (xs ++ ys)
Takes-more a b c None two three xs ys first second = tt
Takes-more a b c (Some x) None three xs ys first second = absurd first
Takes-more a b c (Some x) (Some y) None xs ys first second = absurd second
Takes-more a b c (Some x) (Some y) (Some z) xs ys first second =
    (first.0 ∙ ap (λ zs. xs ++ zs) second.0 ∙ sym (append_assoc xs ys _), first.1 ∙ second.1)

-- an answer, where nothing was taken before
pub Answers-behind : (answer : Next) (a b c : Streaming) (one two three : Option (List ℕ)) → Takes a one b two []
    → AnswersFrame answer b two c three → AnswersFrame answer a one c three
Answers-behind (Frame cut) a b c one two three none says = Takes-more a b c one two three [] _ none says
Answers-behind End a b c one two three none says = (Takes-more a b c one two three [] [] none says.0, says.1)
Answers-behind TooLong a b c one two three none says = record {
  rest = says.rest;
  cut_off = says.cut_off;
  takes = Takes-more a b c one two three [] _ none says.takes;
  stands = says.stands;
}
Answers-behind Failed a b c one two three none says = Takes-more a b c one two three [] [] none says

-- an answer, where no more frames could be handed out before than now
pub Fewer-behind : (answer : Next) (a b c : ℕ) → b ≤ a → Fewer answer b c → Fewer answer a c
Fewer-behind (Frame cut) a b c bound fewer = omega arith
Fewer-behind End a b c bound fewer = omega arith
Fewer-behind TooLong a b c bound fewer = omega arith
Fewer-behind Failed a b c bound fewer = omega arith

-- at the end of the source, what was handed out are all its frames
pub handed_all : (limit : ℕ) (b c : Streaming) (one two three : Option (List ℕ)) (handed : List (Cut × List ℕ))
    → Takes (opened limit) one b two handed → AnswersFrame End b two c three → IfSome one (λ bytes. AllHanded limit bytes handed)
handed_all limit b c None two three handed takes ends = tt
handed_all limit b c (Some bytes) None three handed takes ends = absurd takes
handed_all limit b c (Some bytes) (Some rest) None handed takes ends = absurd ends.0
handed_all limit b c (Some bytes) (Some rest) (Some more) handed takes ends =
    let over : is_too_long (opened limit) bytes ≡ false = takes.1 ∙ ends.0.1 ∙ ap (λ course. passes course more) ends.1 in
    let fits : length bytes ≤ limit = ltb-false limit (length bytes) over in
    let none : frames_ahead b rest ≡ [] = ends.0.0 ∙ ap (λ course. frames_on course c.pending c.unread more) ends.1 in
    record {
      fits = fits;
      all = ap frames (sym (take_all limit bytes fits)) ∙ takes.0 ∙ ap (λ later. handed ++ later) none ∙ append-nil handed;
    }

-- where the source is too long, what was handed out are the frames that end within the limit
pub handed_front : (limit : ℕ) (b c : Streaming) (one two three : Option (List ℕ)) (handed : List (Cut × List ℕ))
    → Takes (opened limit) one b two handed → AnswersFrame TooLong b two c three → IfSome one (λ bytes. FrontHanded limit bytes handed)
handed_front limit b c None two three handed takes stops = tt
handed_front limit b c (Some bytes) None three handed takes stops = absurd takes
handed_front limit b c (Some bytes) (Some rest) None handed takes stops = absurd stops.takes
handed_front limit b c (Some bytes) (Some rest) (Some more) handed takes stops =
    let all = Takes-more (opened limit) b c (Some bytes) (Some rest) (Some more) handed (told stops.rest []) takes stops.takes in
    record {
      passes = ltb-true limit (length bytes) (all.1 ∙ ap (λ reader. is_too_long reader more) stops.stands);
      rest = stops.rest;
      cut_off = stops.cut_off;
      front = all.0 ∙ ap (λ reader. (handed ++ told stops.rest []) ++ frames_ahead reader more) stops.stands ∙ append-nil (handed ++ told stops.rest []);
    }
