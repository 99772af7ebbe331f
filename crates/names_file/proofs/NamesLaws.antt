-- The names of a run, where they were read.
use Rattle.std.proofs.Common.{ℕ, List, refl, ap, length}
use Rattle.std.specs.Prelude.{Option, None, Some, IfSome, Ok, cond}
use Rattle.union_files.specs.Limits as all
use Rattle.union_files.proofs.LimitLaws.{not_over, on_files, on_all}
use Rattle.union_words.specs.Flows.{ShelfFlow, IsCalm}
use Rattle.union_words.specs.declared.input.Input.TheVariants.{Names}
use Rattle.names_file.specs.Named.{IsNamedBy, named_by, names_file, names_inputs, ReadsNames}
use Rattle.names_file.specs.declared.names_read.NamesRead.{NamesRead}

-- the file was within the limit, and the names are its
pub names_read : (path : Option (List ℕ)) (found : NamesRead) (shelf : ShelfFlow) → ReadsNames path (Ok found) shelf
    → IsCalm shelf × IfSome shelf.files (λ contents. all.AreWithin contents (names_inputs path) × IsNamedBy contents path (named_by found))
names_read None found shelf read = (read.0, on_all shelf.files (λ contents. (refl, read.1)))
names_read (Some path) found shelf read = (
  read.0,
  on_files shelf.files
      (λ contents read. (
        ap (λ over. cond over (Some (names_file path)) None) (not_over (all.limit_of Names) (length (contents path)) read.0),
        (found, read.1, refl),
      ))
      read.1,
)
