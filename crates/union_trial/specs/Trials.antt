-- What a run of the trial writes.
use Rattle.std.specs.Prelude.{◌≡◌, ℕ, List, [], ◌∷◌, ◌++◌, codes, decimal}
use Rattle.std.specs.FinMap.{empty}
use Rattle.std.specs.Io.KnownBytes.{Appends}
use Rattle.union_io.specs.Writing.{AppendsFront}
use Rattle.library_batches.specs.Reports.{counted}
use Rattle.union_words.specs.Flows.{Outflow, HasFailedAt}
use Rattle.union_words.specs.declared.status.Status.{Status}
use Rattle.union_words.specs.declared.status.Status.TheVariants.{Done, DoneWithRefusals, Usage, OpenFault, ReadFault, WriteFault, TooLong, Memory}
use Rattle.catalogue_editions.specs.declared.history_entry.HistoryEntry.{HistoryEntry}
use Rattle.union_trial.specs.Measured.{AreMeasured}
use Rattle.union_trial.specs.Streams.{AreLoaded}
use Rattle.union_trial.specs.declared.measures.Measures.{Measures}

-- `frames F records R editions E works W bytes B`
unfoldable pub trial_line : ℕ → Measures → List ℕ
trial_line frames m =
    codes "frames "
    ++ (decimal frames
    ++ (counted (codes "records") m.records
    ++ (counted (codes "editions") m.editions
    ++ (counted (codes "works") m.works ++ (counted (codes "bytes") m.bytes ++ 0x0A ∷ [])))))

-- the text is the line on the catalogue into which the three libraries' streams were loaded, of `count` frames that are
-- generated from that seed
pub record IsTrialText (seed count : ℕ) (text : List ℕ) : Type 0 where
  pub history : List HistoryEntry
  pub loaded : AreLoaded seed count 3 history
  pub measures : Measures
  pub measured : AreMeasured empty history measures
  pub line : text ≡ trial_line count measures

-- a run with that status: the line was written; or a prefix of it, where a write failed; or nothing, if memory ran out. It
-- has no other status
abbrev pub IsTrial : ℕ → ℕ → Outflow → Status → Type 0
IsTrial seed count out Done = (out.after ≡ out.before) × ((text : List ℕ) × IsTrialText seed count text × Appends out.old out.new text)
IsTrial seed count out WriteFault = HasFailedAt out × ((text : List ℕ) × IsTrialText seed count text × AppendsFront out.old out.new text)
IsTrial seed count out Memory = (out.after ≡ out.before) × (out.new ≡ out.old)
IsTrial seed count out DoneWithRefusals = ⊥
IsTrial seed count out Usage = ⊥
IsTrial seed count out (OpenFault input) = ⊥
IsTrial seed count out (ReadFault input) = ⊥
IsTrial seed count out (TooLong input) = ⊥
