-- A run that read its files and wrote what they came to, or that stops at its file of names.
use Rattle.std.proofs.Common.{◌≡◌, ℕ, Bool, true, false, IsTrue, ◌++◌, List, [], inl, inr, refl, sym, ap, subst, ◌∙◌, length, append_assoc, arith}
use Rattle.std.proofs.lemmas.List.{take_all}
use Rattle.std.specs.Prelude.{Option, Some, None, IfSome, Err, ◌⊎◌}
use Rattle.std.specs.Io.KnownBytes.{Appends, Keeps}
use Rattle.names_file.specs.Named.{Named, IsNamedBy, ReadsNames, names_file, names_inputs}
use Rattle.union_io.specs.Counts.{SameCounts}
use Rattle.union_io.specs.Writing.{AppendsFront}
use Rattle.union_files.specs.Limits as all
use Rattle.union_files.specs.Limits.{Contents}
use Rattle.union_files.proofs.FileLaws.{Counts, flow, stops_before}
use Rattle.union_files.proofs.LimitLaws.{told, within_none, on_both, on_files}
use Rattle.union_words.specs.Words.{LibraryFile, Loading}
use Rattle.union_words.specs.declared.status.Status.{Status}
use Rattle.union_words.specs.declared.status.Status.TheVariants.{OpenFault, ReadFault, Usage, WriteFault, TooLong, Memory}
use Rattle.union_words.specs.Flows.{ShelfFlow, IsCalm, InputFile, Outflow, HasFailedAt, IsNoted, IsCutOff}
use Rattle.union_words.specs.Statuses.{is_done, is_early, end_by}
use Rattle.union_words.specs.Texts.{early_text}
use Rattle.union_files.specs.Deliveries.{reports_of}
use Rattle.union_files.specs.Inputs.{inputs_of}
use Rattle.union_files.specs.Interleavings.{IsInterleaving}
use Rattle.union_files.specs.Runs.{RunTexts, IsRunOver}
use Rattle.union_files.specs.declared.loaded.Loaded.{Loaded}
use Rattle.union_files.proofs.RunLaws.{stopped_first, within_all}
use Rattle.union_watch.specs.Runs.{deliveries_of, Showing, IsUnionOf, IsUnionRun, HasTurned, IsReported, Written, Shows}

-- the statuses of a run that wrote what was loaded
end-done : (refused : Bool) → is_done (end_by refused) ≡ true
end-done true = refl
end-done false = refl

end-not : (refused : Bool) (status : Status) → is_done status ≡ false → end_by refused ≡ status → ⊥
end-not refused status not_done is = let clash : true ≡ false = sym (end-done refused) ∙ (ap is_done is ∙ not_done) in cc

done-end : (refused : Bool) (status : Status) → (status ≡ end_by refused) ⊎ ((status ≡ WriteFault) ⊎ (status ≡ Memory)) → is_done status ≡ true
    → status ≡ end_by refused
done-end refused status (inl is) done = is
done-end refused status (inr (inl is)) done = let clash : false ≡ true = sym (ap is_done is) ∙ done in cc
done-end refused status (inr (inr is)) done = let clash : false ≡ true = sym (ap is_done is) ∙ done in cc

other-end : (refused : Bool) (status other : Status) → (status ≡ end_by refused) ⊎ ((status ≡ WriteFault) ⊎ (status ≡ Memory)) → is_done other ≡ false
    → (WriteFault ≡ other → ⊥) → (Memory ≡ other → ⊥) → status ≡ other → ⊥
other-end refused status other (inl is) none no_write no_memory at = end-not refused other none (sym is ∙ at)
other-end refused status other (inr (inl is)) none no_write no_memory at = no_write (sym is ∙ at)
other-end refused status other (inr (inr is)) none no_write no_memory at = no_memory (sym is ∙ at)

early-memory : (refused : Bool) (status : Status) → (status ≡ end_by refused) ⊎ ((status ≡ WriteFault) ⊎ (status ≡ Memory)) → is_early status ≡ true
    → status ≡ Memory
early-memory true status (inl is) early = let clash : false ≡ true = sym (ap is_early is) ∙ early in cc
early-memory false status (inl is) early = let clash : false ≡ true = sym (ap is_early is) ∙ early in cc
early-memory refused status (inr (inl is)) early = let clash : false ≡ true = sym (ap is_early is) ∙ early in cc
early-memory refused status (inr (inr is)) early = is

ends-so : (refused : Bool) (status : Status) (P Q : Type 0) → (status ≡ end_by refused) ⊎ ((status ≡ WriteFault) ⊎ (status ≡ Memory))
    → (status ≡ WriteFault → P ⊎ Q) → ¬ P → ¬ Q → (status ≡ end_by refused) ⊎ (status ≡ Memory)
ends-so refused status P Q (inl is) wrote p q = inl is
ends-so refused status P Q (inr (inl is)) wrote p q = elim (wrote is) [ inl fault ↦ absurd (p fault) | inr fault ↦ absurd (q fault) ]
ends-so refused status P Q (inr (inr is)) wrote p q = inr is

-- the failed write of two texts: of the first, and the second output is as it was; or of the second
cut-fault : (out notes : Outflow) (shown noted : List ℕ) → IsCutOff out notes shown noted
    → (HasFailedAt out × Keeps notes.old notes.new) ⊎ HasFailedAt notes
cut-fault out notes shown noted (inl first) = inl (first.1, first.2)
cut-fault out notes shown noted (inr second) = inr second.2

-- a run that read all its files and wrote what they came to
pub ended_run : (AreTexts : RunTexts) (refused : Bool) (shown noted : List ℕ) (status : Status) (first : List InputFile) (libraries : List LibraryFile)
    (shelf : ShelfFlow) (out notes : Outflow) → IsCalm shelf
    → IfSome shelf.files (λ contents. all.AreWithin contents (first ++ inputs_of libraries) × AreTexts contents shown noted (end_by refused))
    → Written shown noted (end_by refused) out notes status → IsRunOver first libraries AreTexts shelf out notes status
ended_run AreTexts refused shown noted status first libraries shelf out notes calm read written =
    let fault : status ≡ WriteFault → (HasFailedAt out × Keeps notes.old notes.new) ⊎ HasFailedAt notes
    = λ is. cut-fault out notes shown noted (written.part is) in
    record {
      open_fault = λ i is. absurd (other-end refused status (OpenFault i) written.kinds refl (λ e. cc) (λ e. cc) is);
      read_fault = λ i is. absurd (other-end refused status (ReadFault i) written.kinds refl (λ e. cc) (λ e. cc) is);
      calm = λ none. calm;
      write_fault = fault;
      other = λ is. other-end refused status Usage written.kinds refl (λ e. cc) (λ e. cc) is;
      too_long = λ i is. absurd (other-end refused status (TooLong i) written.kinds refl (λ e. cc) (λ e. cc) is);
      done = λ done. on_files shelf.files
          (λ contents holds. (
            holds.0,
            (
              shown,
              noted,
              subst (AreTexts contents shown noted) (sym (done-end refused status written.kinds done)) holds.1,
              (written.done done).0,
              (written.done done).1,
            ),
          ))
          read;
      untouched = λ early other. absurd (other (early-memory refused status written.kinds early));
      memory = λ is. inr (on_files shelf.files (λ contents holds. (holds.0, (end_by refused, (shown, noted, holds.1, (written.memory is).0)))) read);
      part = λ is. on_files shelf.files (λ contents holds. (holds.0, (end_by refused, (shown, noted, holds.1, written.part is)))) read;
      too_long_where = λ contents i is found none.
          absurd (within_none contents (first ++ inputs_of libraries) i
          (told (λ contents. all.AreWithin contents (first ++ inputs_of libraries) × AreTexts contents shown noted (end_by refused)) shelf.files contents is read).0
          found);
      complete = λ contents is within none sound_out sound_notes.
          elim (ends-so refused status (HasFailedAt out × Keeps notes.old notes.new) (HasFailedAt notes) written.kinds fault
          (λ failed. sound_out failed.0) sound_notes) [
            | inl ended ↦ inl (subst (λ s. is_done s ≡ true) (sym ended) (end-done refused))
            | inr memory ↦ inr memory
          ];
    }

-- a run that loaded all files and showed what the libraries came to
pub loaded_run : (showing : Showing) (names : Named) (loaded : Loaded) (status : Status) (loading : Loading) (shelf : ShelfFlow) (out notes : Outflow)
    → IsCalm shelf
    → IfSome shelf.files (λ contents. all.AreWithin contents (names_inputs loading.names) × IsNamedBy contents loading.names names)
    → IfSome shelf.files (λ contents. all.AreWithin contents (inputs_of loading.libraries) × HasTurned IsInterleaving names (deliveries_of contents loading) loaded)
    → Shows showing loaded out notes status → IsUnionRun showing loading shelf out notes status
loaded_run showing names loaded status loading shelf out notes calm named turned shows =
    let editions = shows.0 in
    let table = loaded.catalogue.names in
    let reports = loaded.reports.items in
    let history = loaded.catalogue.history in
    ended_run (IsUnionOf showing loading) loaded.refused (showing.shown table history editions) (reports ++ showing.noted table history editions) status
    (names_inputs loading.names) loading.libraries shelf out notes calm
    (on_both shelf.files (λ contents named turned. (
      within_all contents (names_inputs loading.names) loading.libraries named.0 turned.0,
      record {
        names = names;
        named = named.1;
        streams = turned.1.streams;
        editions = editions;
        union = record {
          delivered = turned.1.delivered;
          history = loaded.catalogue.history;
          interleaving = turned.1.turns;
          resolved = shows.1;
        };
        shown_is = ap (λ names. showing.shown names history editions) turned.1.names_are;
        noted_is =
            ap (λ all. all ++ showing.noted table history editions) turned.1.reports
            ∙ append_assoc names.report (reports_of turned.1.streams) (showing.noted table history editions)
            ∙ ap (λ table. names.report ++ (reports_of turned.1.streams ++ showing.noted table history editions)) turned.1.names_are;
        end_is = ap end_by turned.1.refused;
      },
    )) named turned)
    shows.2

-- a run that stops at its file of names, where it read those before it
pub stopped_at_names : (AreTexts : RunTexts) (status : Status) (before : List InputFile) (path : Option (List ℕ)) (libraries : List LibraryFile)
    (files : Option Contents) (a b c : Counts) (out notes : Outflow) → SameCounts a b → IfSome files (λ contents. all.AreWithin contents before)
    → ReadsNames path (Err status) (flow files b c) → Keeps out.old out.new
    → IsRunOver (before ++ names_inputs path) libraries AreTexts (flow files a c) out notes status
stopped_at_names AreTexts status before None libraries files a b c out notes same fits stops keeps = absurd stops
stopped_at_names AreTexts status before (Some path) libraries files a b c out notes same fits stops keeps =
    stopped_first AreTexts status before (names_file path) [] libraries (flow files a c) out notes fits
    (stops_before status (names_file path) files a b c same stops) keeps

-- what is noted where two texts were to be written and the run ended early: memory ran out
pub written_noted : (shown noted : List ℕ) (refused : Bool) (status : Status) (out notes : Outflow) → Written shown noted (end_by refused) out notes status
    → IsTrue (is_early status) → IsNoted notes (early_text status)
written_noted shown noted refused status out notes written early =
    let is = early-memory refused status written.kinds early in subst (λ s. IsNoted notes (early_text s)) (sym is) (written.memory is).1

-- the same of a catalogue that was shown
pub loaded_noted : (showing : Showing) (loaded : Loaded) (status : Status) (out notes : Outflow) → Shows showing loaded out notes status
    → IsTrue (is_early status) → IsNoted notes (early_text status)
loaded_noted showing loaded status out notes shows early = written_noted _ _ loaded.refused status out notes shows.2 early

-- a whole text is a prefix of itself
front-of_whole : (old new : Option (List ℕ)) (text : List ℕ) → Appends old new text → AppendsFront old new text
front-of_whole old new text whole =
    (length text, omega arith, subst (λ t. Appends old new t) (sym (take_all (length text) text (omega arith))) whole)

-- what was not written on is as it was
pub keeps_all : (written : Option (List ℕ)) → Keeps written written
keeps_all None = tt
keeps_all (Some bytes) = refl

-- what is shown was written whole, and then what is noted
pub shown-whole : (shown noted : List ℕ) (end : Status) (out notes : Outflow) (status : Status) → Appends out.old out.new shown
    → IsReported noted end notes status → Written shown noted end out notes status
shown-whole shown noted end out notes status whole reported = record {
  kinds = reported.kinds;
  done = λ done. (whole, reported.done done);
  part = λ is. inr (whole, (reported.part is).0, (reported.part is).1);
  memory = λ is. (front-of_whole out.old out.new shown whole, reported.memory is);
}

-- a prefix of what is shown was written, and then a write failed
pub shown-failed : (shown noted : List ℕ) (end : Status) (out notes : Outflow) → AppendsFront out.old out.new shown → HasFailedAt out
    → notes.new ≡ notes.old → Written shown noted end out notes WriteFault
shown-failed shown noted end out notes front fails same = record {
  kinds = inr (inl refl);
  done = λ done. cc;
  part = λ is. inl (front, fails, subst (λ new. Keeps notes.old new) (sym same) (keeps_all notes.old));
  memory = λ is. cc;
}

-- a prefix of what is shown was written, and then memory ran out
pub shown-memory : (shown noted : List ℕ) (end : Status) (out notes : Outflow) → AppendsFront out.old out.new shown
    → IsNoted notes (early_text Memory) → Written shown noted end out notes Memory
shown-memory shown noted end out notes front note = record {
  kinds = inr (inr refl);
  done = λ done. cc;
  part = λ is. cc;
  memory = λ is. (front, note);
}
