-- A shelf in memory, as contracts see it.
use Rattle.std.specs.Prelude.{ℕ, List, [], Bool, ◌||◌, is_none}
use Rattle.std.specs.Option.{option_map_or}
use Rattle.union_io.specs.Script.{Script, fails_next}
use Rattle.union_io.specs.Store.{at_name}

-- a file: its content, which reads of it fail, and how many bytes a read gives at most
pub record MemFileState : Type 0 where
  pub content : List ℕ
  pub fails : List ℕ
  pub most : ℕ

-- the files by name, the names that were opened with their counts of faults, and which opens fail
pub record MemShelfState : Type 0 where
  pub files : List (List ℕ × MemFileState)
  pub names : List (List ℕ × ℕ)
  pub script : Script

-- the content under a name, which is empty for a name without a file
abbrev pub content_at : List (List ℕ × MemFileState) → List ℕ → List ℕ
content_at files name = option_map_or (λ file. file.content) (at_name files name) []

-- whether the next open fails, if it finds memory: the script says so, or there is no such file
abbrev pub open_fails : MemShelfState → List ℕ → Bool
open_fails shelf name = fails_next shelf.script || is_none (at_name shelf.files name)
