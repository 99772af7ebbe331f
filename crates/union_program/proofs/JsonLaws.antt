-- A run in JSON that ended early: the line that is noted after it changes nothing of what it says.
use Rattle.std.proofs.Common.{◌≡◌, ◌≢◌, ℕ, ◌<◌, ◌≤◌, Bool, true, false, List, length, inr, refl, sym, subst, arith}
use Rattle.std.specs.Prelude.{Option, Some, IfSome}
use Rattle.library_batches.specs.Reading.{most_bytes}
use Rattle.union_words.specs.Flows.{Inflow, HasFailed, Outflow, IsNoted}
use Rattle.union_words.specs.Texts.{early_text}
use Rattle.union_words.specs.Statuses.{is_done, is_early}
use Rattle.union_words.specs.declared.input.Input.{Input}
use Rattle.union_words.specs.declared.status.Status.{Status}
use Rattle.union_words.specs.declared.status.Status.TheVariants.{Done, DoneWithRefusals, Usage, OpenFault, ReadFault, WriteFault, TooLong, Memory}
use Rattle.union_files.specs.Endings.{EndsAtInput}
use Rattle.union_json.specs.Runs.{IsMakingRun}
use Rattle.union_json.specs.Texts.{Making}

early-not_done : (status : Status) → is_early status ≡ true → is_done status ≡ true → ⊥
early-not_done Done early done = cc
early-not_done DoneWithRefusals early done = cc
early-not_done Usage early done = cc
early-not_done (OpenFault input) early done = cc
early-not_done (ReadFault input) early done = cc
early-not_done WriteFault early done = cc
early-not_done (TooLong input) early done = cc
early-not_done Memory early done = cc

early-not_write : (status : Status) → is_early status ≡ true → status ≡ WriteFault → ⊥
early-not_write status early is = let clash : false ≡ true = subst (λ s. is_early s ≡ true) is early in cc

-- where nothing failed and the file is not too long, it is memory
early-memory : (input : Input) (file : Inflow) (status : Status) (bytes : List ℕ) → EndsAtInput input file status → status ≢ Usage
    → is_early status ≡ true → file.told ≡ Some bytes → length bytes ≤ most_bytes → ¬ HasFailed file → status ≡ Memory
early-memory input file Done bytes ends other early told within sound = cc
early-memory input file DoneWithRefusals bytes ends other early told within sound = cc
early-memory input file Usage bytes ends other early told within sound = absurd (other refl)
early-memory input file (OpenFault i) bytes ends other early told within sound = absurd (sound (ends.open_fault i refl).1)
early-memory input file (ReadFault i) bytes ends other early told within sound = absurd (sound (ends.read_fault i refl).1)
early-memory input file WriteFault bytes ends other early told within sound = cc
early-memory input file (TooLong i) bytes ends other early told within sound =
    let over : most_bytes < length bytes = subst (λ t. IfSome t (λ bs. most_bytes < length bs)) told (ends.too_long i refl).1 in
    absurd (omega arith)
early-memory input file Memory bytes ends other early told within sound = refl

-- such a run, whatever is noted after it
noted_after : (library : List ℕ) (IsOf : List ℕ → Making → Type 0) (file : Inflow) (out notes later : Outflow) (status : Status)
    → IsMakingRun library IsOf file out notes status → is_early status ≡ true → IsMakingRun library IsOf file out later status
noted_after library IsOf file out notes later status run early = record {
  input = run.input;
  calm = run.calm;
  write_fault = λ is. absurd (early-not_write status early is);
  other = run.other;
  done = λ done. absurd (early-not_done status early done);
  untouched = run.untouched;
  part = λ is. absurd (early-not_write status early is);
  complete = λ bytes told within sound sound_out sound_notes. inr (early-memory _ file status bytes run.input run.other early told within sound);
}

-- an output of some type, before and after
abbrev pub noted : {N : Type 0} → (N → Option (List ℕ)) → (N → ℕ) → N → N → Outflow
noted written faults first last = record { old = written first; new = written last; before = faults first; after = faults last }

ended_as : {N : Type 0} (written : N → Option (List ℕ)) (faults : N → ℕ) (library : List ℕ) (IsOf : List ℕ → Making → Type 0) (file : Inflow) (out : Outflow)
    (first between last : N) (status : Status) (early : Bool) → is_early status ≡ early
    → IsMakingRun library IsOf file out (noted written faults first between) status → (early ≡ false → last ≡ between)
    → IsMakingRun library IsOf file out (noted written faults first last) status
ended_as written faults library IsOf file out first between last status true is run still =
    noted_after library IsOf file out (noted written faults first between) (noted written faults first last) status run is
ended_as written faults library IsOf file out first between last status false is run still =
    subst (λ n. IsMakingRun library IsOf file out (noted written faults first n) status) (sym (still refl)) run

-- a run, and what was noted after it where it ended early
pub ended_run : {N : Type 0} (written : N → Option (List ℕ)) (faults : N → ℕ) (library : List ℕ) (IsOf : List ℕ → Making → Type 0) (file : Inflow) (out : Outflow)
    (first between last : N) (status ended : Status) → ended ≡ status
    → IsMakingRun library IsOf file out (noted written faults first between) status → (is_early status ≡ false → last ≡ between)
    → IsMakingRun library IsOf file out (noted written faults first last) ended
ended_run written faults library IsOf file out first between last status ended same run still =
    subst (IsMakingRun library IsOf file out (noted written faults first last)) (sym same)
    (ended_as written faults library IsOf file out first between last status (is_early status) refl run still)

-- and what was noted, where the run noted nothing itself
pub ended_noted : {N : Type 0} (written : N → Option (List ℕ)) (faults : N → ℕ) (first between last : N) (status ended : Status) → ended ≡ status
    → (is_early status ≡ true → between ≡ first) → (is_early status ≡ true → IsNoted (noted written faults between last) (early_text status))
    → is_early ended ≡ true → IsNoted (noted written faults first last) (early_text ended)
ended_noted written faults first between last status ended same quiet line early =
    let was : is_early status ≡ true = subst (λ s. is_early s ≡ true) same early in
    subst (λ s. IsNoted (noted written faults first last) (early_text s)) (sym same)
    (subst (λ n. IsNoted (noted written faults n last) (early_text status)) (quiet was) (line was))
