-- A source in memory, as contracts see it.
use Rattle.std.specs.Prelude.{ℕ, List, drop}
use Rattle.union_io.specs.Causes.{next_count}
use Rattle.union_io.specs.Script.{Script, new_script, after_call}

-- its name, the bytes that it has left, how many a read gives at most, which reads fail, and how many failed
pub record SourceState : Type 0 where
  pub name : List ℕ
  pub left : List ℕ
  pub most : ℕ
  pub script : Script
  pub faults : ℕ

-- a source of which nothing was read
abbrev pub new_source : List ℕ → List ℕ → List ℕ → ℕ → SourceState
new_source name content fails most =
    record { name = name; left = content; most = most; script = new_script fails; faults = 0 }

-- the source after a read that gave that many bytes
abbrev pub after_read : SourceState → ℕ → SourceState
after_read source count = record source { left = drop count source.left; script = after_call source.script }

-- the source after a read that failed
abbrev pub after_failed_read : SourceState → SourceState
after_failed_read source = record source { script = after_call source.script; faults = next_count source.faults }
