-- What comes of inputs one after the other.
use Rattle.std.proofs.Common.{◌≡◌, ℕ, ◌+◌, false, List, ◌∷◌, inr, sym, ap, subst, ◌∙◌}
use Rattle.std.specs.Prelude.{Option, Some, drop, slice_get}
use Rattle.std.proofs.lemmas.Option.{slice_get_within, get_or_from_slice_get}
use Rattle.std.proofs.lemmas.List.{drop_more}
use Rattle.union_io.specs.Causes.{Rose}
use Rattle.union_io.specs.Counts.{SameCounts}
use Rattle.union_io.specs.Names.{AddsName}
use Rattle.union_words.specs.Words.{LibraryFile}
use Rattle.union_words.specs.declared.input.Input.{Input}
use Rattle.union_words.specs.declared.status.Status.{Status}
use Rattle.union_words.specs.declared.status.Status.TheVariants.{Done, DoneWithRefusals, Usage, OpenFault, ReadFault, WriteFault, TooLong, Memory}
use Rattle.union_words.specs.Flows.{FailsAt}
use Rattle.union_files.specs.Limits.{Contents}
use Rattle.union_files.proofs.FileLaws.{Counts, flow, same_more}
use Rattle.union_files.specs.Inputs.{inputs_of, StopsOpening, OpensInOrder, is_open_fault}

fails_later : (input : Input) (libraries : List LibraryFile) (files : Option Contents) (a b c : Counts) → FailsAt (inputs_of libraries) (flow files a b) input
    → SameCounts b c → FailsAt (inputs_of libraries) (flow files a c) input
fails_later input libraries files a b c fails same = record {
  file = fails.file;
  one = fails.one;
  named = fails.named;
  failed = subst (Rose (a fails.file.path)) (sym (same fails.file.path)) fails.failed;
  others = λ name differs. same name ∙ fails.others name differs;
}

fails_behind : (input : Input) (file : LibraryFile) (rest : List LibraryFile) (files : Option Contents) (a b c : Counts)
    → SameCounts a b → FailsAt (inputs_of rest) (flow files b c) input → FailsAt (inputs_of (file ∷ rest)) (flow files a c) input
fails_behind input file rest files a b c same fails = record {
  file = fails.file;
  one = inr fails.one;
  named = fails.named;
  failed = subst (λ count. Rose count (c fails.file.path)) (same fails.file.path) fails.failed;
  others = λ name differs. fails.others name differs ∙ same name;
}

-- a run that stops where it opens an input after one that was opened
pub opens_behind : (status : Status) (file : LibraryFile) (rest : List LibraryFile) (files : Option Contents) (a b c d : Counts) → SameCounts a b
    → SameCounts c d → StopsOpening status rest (flow files b c) → StopsOpening status (file ∷ rest) (flow files a d)
opens_behind (OpenFault input) file rest files a b c d before after stops = fails_later input (file ∷ rest) files a c d (fails_behind input file rest files a b c before stops) after
opens_behind Memory file rest files a b c d before after stops = same_more a c d (same_more a b c before stops) after
opens_behind (ReadFault input) file rest files a b c d before after stops = absurd stops
opens_behind (TooLong input) file rest files a b c d before after stops = absurd stops
opens_behind Done file rest files a b c d before after stops = absurd stops
opens_behind DoneWithRefusals file rest files a b c d before after stops = absurd stops
opens_behind Usage file rest files a b c d before after stops = absurd stops
opens_behind WriteFault file rest files a b c d before after stops = absurd stops

-- one file more was opened before
pub opens_later : (status : Status) (file : LibraryFile) (rest : List LibraryFile) (before between after : List (List ℕ))
    → AddsName before between file.path → OpensInOrder status rest between after → OpensInOrder status (file ∷ rest) before after
opens_later (OpenFault input) file rest before between after adds opens = inr (between, adds, opens)
opens_later Memory file rest before between after adds opens = tt
opens_later (ReadFault input) file rest before between after adds opens = tt
opens_later (TooLong input) file rest before between after adds opens = tt
opens_later Done file rest before between after adds opens = tt
opens_later DoneWithRefusals file rest before between after adds opens = tt
opens_later Usage file rest before between after adds opens = tt
opens_later WriteFault file rest before between after adds opens = tt

-- nothing is said of another status
pub opens_none : (status : Status) (libraries : List LibraryFile) (before after : List (List ℕ)) → is_open_fault status ≡ false
    → OpensInOrder status libraries before after
opens_none (OpenFault input) libraries before after is = cc
opens_none Memory libraries before after is = tt
opens_none (ReadFault input) libraries before after is = tt
opens_none (TooLong input) libraries before after is = tt
opens_none Done libraries before after is = tt
opens_none DoneWithRefusals libraries before after is = tt
opens_none Usage libraries before after is = tt
opens_none WriteFault libraries before after is = tt

-- the list from a place on
pub drop_at : {X : Type 0} (xs : List X) (place : ℕ) (x : X) → slice_get xs place ≡ Some x → drop place xs ≡ x ∷ drop (place + 1) xs
drop_at xs place x found =
    drop_more xs place x (slice_get_within xs place x found) ∙ ap (λ y. y ∷ drop (place + 1) xs) (get_or_from_slice_get xs place x x found)
