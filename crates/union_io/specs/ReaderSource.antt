-- A reader as a source.
use Rattle.std.specs.Prelude.{ℕ, List}
use Rattle.union_io.specs.declared.reader_source.ReaderSource.{ReaderSource}

-- the reader of the source
abbrev pub reader_of : {R : Type 0} → ReaderSource R → R
reader_of source = source.reader

-- the name under which it was opened
abbrev pub name_of : {R : Type 0} → ReaderSource R → List ℕ
name_of source = source.name

-- how often a read failed
abbrev pub faults_of : {R : Type 0} → ReaderSource R → ℕ
faults_of source = source.faults
