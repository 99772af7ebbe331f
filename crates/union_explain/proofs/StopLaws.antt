-- How many bytes a reader gave, and why a file was not read to its end.
use Rattle.std.proofs.Common.{◌≡◌, ℕ, ◌+◌, ◌<◌, List, [], length, inl, refl, sym, ap, subst, ◌∙◌, arith, length-append}
use Rattle.std.specs.Prelude.{Option, Some, None, IfSome, true}
use Rattle.std.specs.Option.{option_to_list}
use Rattle.library_batches.specs.Reading.{most_bytes}
use Rattle.union_io.specs.Causes.{Rose}
use Rattle.union_io.specs.Counts.{SameCounts, SameElsewhere}
use Rattle.union_io.specs.Files.{told_file}
use Rattle.union_words.specs.Stops.{StopsAt, input_of}
use Rattle.union_words.specs.Words.{LibraryFile}
use Rattle.union_words.specs.declared.input.Input.TheVariants.{Library}
use Rattle.union_words.proofs.StopLaws.{Counts, flow}
use Rattle.union_explain.specs.Readings.{Gives, Fills, GoesOn, IsLong, CountsStop, ahead}
use Rattle.union_explain.specs.Runs.{stopped_with}
use Rattle.union_explain.specs.declared.stop.Stop.{Stop}
use Rattle.union_explain.specs.declared.stop.Stop.TheVariants.{Failed, TooLong, Memory}

pub goes-none : (at : ℕ) (left : Option (List ℕ)) → GoesOn at left at left
goes-none at None = tt
goes-none at (Some bytes) = refl

pub goes-more : (a b c : ℕ) (one two three : Option (List ℕ)) → GoesOn a one b two → GoesOn b two c three → GoesOn a one c three
goes-more a b c None two three first second = tt
goes-more a b c (Some x) None three first second = absurd first
goes-more a b c (Some x) (Some y) None first second = absurd second
goes-more a b c (Some x) (Some y) (Some z) first second = first ∙ second

-- one more byte is given, or none
pub goes-byte : (at now : ℕ) (one two : Option (List ℕ)) (byte : Option ℕ) → Gives one two byte → now ≡ at + length (option_to_list byte)
    → GoesOn at one now two
goes-byte at now None two byte gives moved = tt
goes-byte at now (Some x) None byte gives moved = absurd gives
goes-byte at now (Some x) (Some y) None gives moved = omega (arith, moved, ap length gives.0, ap length gives.1)
goes-byte at now (Some x) (Some y) (Some b) gives moved = omega (arith, moved, ap length gives)

-- what is too long after some bytes were given was so before
pub long-before : (a b : ℕ) (one two : Option (List ℕ)) → GoesOn a one b two → IsLong b two → IsLong a one
long-before a b None two goes long = tt
long-before a b (Some x) None goes long = absurd goes
long-before a b (Some x) (Some y) goes long = subst (λ n. most_bytes < n) (sym goes) long

-- a byte more than 2^40
pub long-fill : (at : ℕ) (unread : List ℕ) (one left : Option (List ℕ)) → Fills one (ahead unread left) true → 0 < length unread → at ≡ most_bytes → IsLong at one
long-fill at unread None left fills some is = tt
long-fill at unread (Some x) None fills some is = absurd fills
long-fill at unread (Some x) (Some y) fills some is = omega (arith, some, is, ap length fills, length-append unread y)

-- at first nothing is unread
pub ahead-begun : (at : ℕ) (unread : List ℕ) (left : Option (List ℕ)) → unread ≡ [] → at ≡ 0 → GoesOn 0 left at (ahead unread left)
ahead-begun at unread None none is = tt
ahead-begun at unread (Some x) none is = omega (arith, is, ap length none, length-append unread x)

some_fault : (before after : ℕ) → before ≡ 0 → Rose before after → 0 < after
some_fault before after none rose = let first : Rose 0 after = subst (λ n. Rose n after) none rose in omega (arith, first)

long_file : (files : Option (List ℕ → List ℕ)) (path : List ℕ) → IsLong 0 (told_file files path) → IfSome files (λ contents. most_bytes < length (contents path))
long_file None path long = tt
long_file (Some contents) path long = omega (arith, long)

-- why a library's file was not read to its end, and what its shelf counts then
pub file-stops : (stop : Stop) (file : LibraryFile) (files : Option (List ℕ → List ℕ)) (name : List ℕ) (told : Option (List ℕ)) (before after : ℕ) (a b : Counts)
    → name ≡ file.path → told ≡ told_file files file.path → before ≡ 0 → CountsStop stop before after → (stop ≡ TooLong → IsLong 0 told)
    → (0 < after → Rose (a name) (b name)) → (after ≡ 0 → SameCounts a b) → SameElsewhere a b name
    → StopsAt (stopped_with stop (Library file.library)) (input_of file) (flow files a b)
file-stops Failed file files name told before after a b is left none counts long raised calm others = record {
  file = input_of file;
  one = inl refl;
  named = refl;
  failed = subst (λ n. Rose (a n) (b n)) is (raised (some_fault before after none counts));
  others = subst (SameElsewhere a b) is others;
}
file-stops TooLong file files name told before after a b is left none counts long raised calm others =
    (calm (counts ∙ none), refl, long_file files file.path (subst (λ bytes. IsLong 0 bytes) left (long refl)))
file-stops Memory file files name told before after a b is left none counts long raised calm others = calm (counts ∙ none)
