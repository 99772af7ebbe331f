-- The files that a run has opened, where it stops at those of the libraries; of a run that was written nothing is said.
use Rattle.std.proofs.Common.{◌≡◌, ℕ, Bool, true, false, List, inl, inr, sym, subst}
use Rattle.std.specs.Prelude.{◌⊎◌, Option}
use Rattle.union_files.specs.Inputs.{inputs_of, OpensInOrder, StopsAtLibraries}
use Rattle.union_files.specs.Limits.{Contents}
use Rattle.union_files.specs.Openings.{OpensInTurn}
use Rattle.union_files.proofs.FileLaws.{Counts, flow}
use Rattle.union_files.proofs.OpeningLaws.{libraries_in_turn}
use Rattle.union_words.specs.Flows.{InputFile}
use Rattle.union_words.specs.Words.{LibraryFile}
use Rattle.union_words.specs.Statuses.{end_by}
use Rattle.union_words.specs.declared.status.Status.{Status}
use Rattle.union_words.specs.declared.status.Status.TheVariants.{WriteFault, Memory}

pub written_in_turn : (told : Option Contents) (refused : Bool) (status : Status) (files : List InputFile) (before after : List (List ℕ))
    → (status ≡ end_by refused) ⊎ ((status ≡ WriteFault) ⊎ (status ≡ Memory)) → OpensInTurn told status files before after
written_in_turn told true status files before after (inl is) = subst (λ s. OpensInTurn told s files before after) (sym is) tt
written_in_turn told false status files before after (inl is) = subst (λ s. OpensInTurn told s files before after) (sym is) tt
written_in_turn told refused status files before after (inr (inl is)) = subst (λ s. OpensInTurn told s files before after) (sym is) tt
written_in_turn told refused status files before after (inr (inr is)) = subst (λ s. OpensInTurn told s files before after) (sym is) tt

pub load_in_turn : (told : Option Contents) (status : Status) (libraries : List LibraryFile) (a b : Counts) (before after : List (List ℕ))
    → StopsAtLibraries status libraries (flow told a b) → OpensInOrder status libraries before after
    → OpensInTurn told status (inputs_of libraries) before after
load_in_turn told status libraries a b before after stops opens = libraries_in_turn status libraries (flow told a b) before after stops opens
