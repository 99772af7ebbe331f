use Rattle.std.proofs.Common.{◌≡◌, ℕ, ◌<◌, false}
use Rattle.std.specs.Prelude.{Some, slice_get, nat_eq}
use Rattle.std.specs.Cmp.Lexicographic.{pointwise}
use Rattle.union_words.specs.Meanings.{libraries_meaning}
use Rattle.union_words.specs.Words.{LibraryFile}
use Rattle.union_follow.proofs.naming.first_of.Given as goal

-- no file before has the name
abbrev pub invariant-loop-earlier : goal.invariant-loop-earlier
invariant-loop-earlier l = (k : ℕ) (file : LibraryFile) → k < l.earlier → slice_get (libraries_meaning l.libraries) k ≡ Some file
    → pointwise nat_eq file.path l.path ≡ false
