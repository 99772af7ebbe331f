-- What comes of a file that was opened and read.
use Rattle.std.proofs.Common.{◌≡◌, ℕ, List, length, inl, refl, subst, ◌∙◌, arith}
use Rattle.std.specs.Prelude.{◌<◌, Option, Some, None, IfSome}
use Rattle.union_io.specs.Files.{told_file}
use Rattle.union_io.specs.Causes.{Rose}
use Rattle.union_io.specs.Counts.{SameCounts, SameElsewhere}
pub use Rattle.union_words.proofs.StopLaws.{Counts, flow, same_more, stops_before, not_opened}
use Rattle.union_words.specs.Flows.{InputFile}
use Rattle.library_batches.specs.declared.stop.Stop.{Stop}
use Rattle.library_batches.specs.declared.stop.Stop.TheVariants.{TooLong as StopTooLong, Failed as StopFailed, Memory as StopMemory}
use Rattle.union_files.specs.Limits.{Contents, limit_of}
use Rattle.union_files.specs.Readings.{IsStop, StopsAt, stopped_with}

some_fault : (before after : ℕ) → before ≡ 0 → Rose before after → 0 < after
some_fault before after none rose = let first : Rose 0 after = subst (λ n. Rose n after) none rose in omega (arith, first)

-- what is so of the bytes of a source is so of the content of its file
pub on_file : (P : List ℕ → Type 0) (files : Option Contents) (path : List ℕ) → IfSome (told_file files path) P → IfSome files (λ contents. P (contents path))
on_file P None path holds = tt
on_file P (Some contents) path holds = holds

-- why a file was not read to its end, and what its shelf counts then
pub file_stops : (stop : Stop) (file : InputFile) (files : Option Contents) (name : List ℕ) (told : Option (List ℕ)) (before after : ℕ) (a b : Counts)
    → name ≡ file.path → told ≡ told_file files file.path → before ≡ 0
    → IsStop (limit_of file.input) stop (record { told = told; before = before; after = after })
    → (0 < after → Rose (a name) (b name)) → (after ≡ 0 → SameCounts a b) → SameElsewhere a b name
    → StopsAt (stopped_with stop file.input) file (flow files a b)
file_stops StopFailed file files name told before after a b is left none stop raised calm others = record {
  file = file;
  one = inl refl;
  named = refl;
  failed = subst (λ n. Rose (a n) (b n)) is (raised (some_fault before after none stop));
  others = subst (SameElsewhere a b) is others;
}
file_stops StopTooLong file files name told before after a b is left none stop raised calm others =
    (calm (stop.1 ∙ none), refl, on_file (λ bytes. limit_of file.input < length bytes) files file.path (subst (λ bytes. IfSome bytes (λ bytes. limit_of file.input < length bytes)) left stop.0))
file_stops StopMemory file files name told before after a b is left none stop raised calm others = calm (stop ∙ none)
