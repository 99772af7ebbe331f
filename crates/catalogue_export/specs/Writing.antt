-- What the writing of a text says of its output, where it may stop half-way.
use Rattle.std.specs.Prelude.{◌≡◌, ◌≢◌, ◌++◌, ℕ, List, Result, Err, MatchResult, OnOk, OnErr}
use Rattle.std.specs.List.{flat_map}
use Rattle.std.specs.declared.option.Option.{Option}
use Rattle.std.specs.Io.KnownBytes.{Appends}
use Rattle.union_io.specs.Causes.{Rose}
use Rattle.union_io.specs.Writing.{AppendsFront}
use Rattle.catalogue_export.specs.declared.export_fail.ExportFail.{ExportFail}
use Rattle.catalogue_export.specs.declared.export_fail.ExportFail.TheVariants.{WriteFault}

-- an output: what was written on it before the call and after it, where that is told, and how often it failed
pub record Output : Type 0 where
  pub old : Option (List ℕ)
  pub new : Option (List ℕ)
  pub before : ℕ
  pub after : ℕ

-- by what is told of an output
abbrev pub outflow : {O : Type 0} → (O → Option (List ℕ)) → (O → ℕ) → O → O → Output
outflow written faults old new = record { old = written old; new = written new; before = faults old; after = faults new }

-- a prefix of the text was written, and this rest of it is still to be written
pub record IsWrittenTo (text rest : List ℕ) (old new : Option (List ℕ)) : Type 0 where
  pub front : List ℕ
  pub split : text ≡ front ++ rest
  pub grown : Appends old new front

-- the text was written but for this rest, or a prefix of it was; a write failed where that is answered, and none did at any
-- other answer
pub record HasMoved (text rest : List ℕ) (out : Output) (result : Result (Unit {0}) ExportFail) : Type 0 where
  pub written : MatchResult result (λ _. IsWrittenTo text rest out.old out.new) (λ _. AppendsFront out.old out.new text)
  pub failed : result ≡ Err WriteFault → Rose out.before out.after
  pub calm : result ≢ Err WriteFault → out.after ≡ out.before

-- the whole text was written, or a prefix of it; a write failed where that is answered, and none did at any other answer
pub record HasWritten (text : List ℕ) (out : Output) (result : Result (Unit {0}) ExportFail) : Type 0 where
  pub written : MatchResult result (λ _. Appends out.old out.new text) (λ _. AppendsFront out.old out.new text)
  pub failed : result ≡ Err WriteFault → Rose out.before out.after
  pub calm : result ≢ Err WriteFault → out.after ≡ out.before

-- the list has gained a prefix of these
pub record GainsFront {A : Type 0} (old new more : List A) : Type 0 where
  pub front : List A
  pub rest : List A
  pub split : more ≡ front ++ rest
  pub grown : new ≡ old ++ front

-- what is told of each of some values was written, one after the other, and a list has gained what is noted of each; or a prefix of
-- both
pub record IsExport {X Y : Type 0} (told : X → List ℕ) (noted : X → List Y) (all : List X) (out : Output) (old new : List Y)
    (result : Result (Unit {0}) ExportFail) : Type 0 where
  pub written : HasWritten (flat_map told all) out result
  pub gained : OnOk result (new ≡ old ++ flat_map noted all)
  pub stopped : OnErr result (GainsFront old new (flat_map noted all))
