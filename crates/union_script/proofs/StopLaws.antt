-- Runs of lines that end early, with lines before them and after them.
use Rattle.std.proofs.Common.{◌≡◌, ℕ, Bool, List, ◌∷◌, ◌++◌, sym, ap, subst, ◌∙◌, append_assoc}
use Rattle.std.specs.Prelude.{Option, Some, None, IfSome}
use Rattle.std.proofs.KnownBytes.{Appends-trans}
use Rattle.catalogue_editions.specs.declared.history_entry.HistoryEntry.{HistoryEntry}
use Rattle.union_io.specs.Causes.{Rose}
use Rattle.union_io.specs.Counts.{SameCounts}
use Rattle.union_words.specs.Flows.{ShelfFlow, Outflow}
use Rattle.union_words.specs.ScriptLines.{ScriptLine, Load}
use Rattle.union_words.specs.declared.input.Input.{Input}
use Rattle.union_words.specs.declared.status.Status.{Status}
use Rattle.union_words.specs.declared.status.Status.TheVariants.{Done, DoneWithRefusals, Usage, OpenFault, ReadFault, WriteFault, TooLong, Memory}
use Rattle.union_script.specs.Lines.{HasRun, WritesFirst, WritesFront, StopsLoading, FailsUnder, LinesStop}
use Rattle.union_files.specs.Limits.{Contents}
use Rattle.union_files.proofs.FileLaws.{Counts, flow, same_more}
use Rattle.union_script.proofs.TextLaws.{text_behind, within_behind, front_behind}
use Rattle.union_files.proofs.LimitLaws.{on_both}

abbrev pub Known : Type 0
Known = Option (List ℕ)

abbrev pub outflow : Known → Known → ℕ → ℕ → Outflow
outflow old new before after = record { old = old; new = new; before = before; after = after }

-- lines after
loading_more : (input : Input) (lines more : List ScriptLine) (history : List HistoryEntry) (files : Option Contents) (old new : Known)
    → StopsLoading input lines history files old new → StopsLoading input (lines ++ more) history files old new
loading_more input lines more history files old new stop = record {
  first = stop.first;
  told = stop.told;
  file = stop.file;
  others = stop.others ++ more;
  parts = ap (λ ls. ls ++ more) stop.parts ∙ append_assoc stop.first (Load stop.told stop.file ∷ stop.others) more;
  named = stop.named;
  before = stop.before;
}

front_more : (contents : Contents) (lines more : List ScriptLine) (history : List HistoryEntry) (old new : Known)
    → WritesFront contents lines history old new → WritesFront contents (lines ++ more) history old new
front_more contents lines more history old new front = record {
  first = front.first;
  others = front.others ++ more;
  parts = ap (λ ls. ls ++ more) front.parts ∙ append_assoc front.first front.others more;
  text = front.text;
  now = front.now;
  writes = front.writes;
  written = front.written;
}

on_front : (files : Option Contents) (lines more : List ScriptLine) (history : List HistoryEntry) (old new : Known)
    → IfSome files (λ contents. WritesFront contents lines history old new) → IfSome files (λ contents. WritesFront contents (lines ++ more) history old new)
on_front None lines more history old new front = tt
on_front (Some contents) lines more history old new front = front_more contents lines more history old new front

pub stop_more : (status : Status) (lines more : List ScriptLine) (history : List HistoryEntry) (shelf : ShelfFlow) (out : Outflow)
    → LinesStop status lines history shelf out → LinesStop status (lines ++ more) history shelf out
unfolding loading_more
stop_more (OpenFault input) lines more history shelf out stops = (loading_more input lines more history shelf.files out.old out.new stops.0, stops.1)
stop_more (ReadFault input) lines more history shelf out stops = (loading_more input lines more history shelf.files out.old out.new stops.0, stops.1)
stop_more (TooLong input) lines more history shelf out stops = (loading_more input lines more history shelf.files out.old out.new stops.0, stops.1)
stop_more WriteFault lines more history shelf out stops = (stops.0, stops.1, on_front shelf.files lines more history out.old out.new stops.2)
stop_more Memory lines more history shelf out stops = (stops.0, on_front shelf.files lines more history out.old out.new stops.1)
stop_more Done lines more history shelf out stops = absurd stops
stop_more DoneWithRefusals lines more history shelf out stops = absurd stops
stop_more Usage lines more history shelf out stops = absurd stops

-- lines before, which were run
first_behind : (contents : Contents) (first others : List ScriptLine) (history between : List HistoryEntry) (told : Bool) (old mid new : Known)
    → HasRun contents first history between told old mid → WritesFirst contents others between mid new
    → WritesFirst contents (first ++ others) history old new
first_behind contents first others history between told old mid new run writes = record {
  within = within_behind contents first others run.within writes.within;
  text = run.text ++ writes.text;
  now = writes.now;
  writes = text_behind contents first others history between writes.now run.text writes.text run.writes writes.writes;
  written = Appends-trans old mid new run.text writes.text run.written writes.written;
}

front_behind_run : (contents : Contents) (first others : List ScriptLine) (history between : List HistoryEntry) (told : Bool) (old mid new : Known)
    → HasRun contents first history between told old mid → WritesFront contents others between mid new
    → WritesFront contents (first ++ others) history old new
front_behind_run contents first others history between told old mid new run front = record {
  first = first ++ front.first;
  others = front.others;
  parts = ap (λ ls. first ++ ls) front.parts ∙ sym (append_assoc first front.first front.others);
  text = run.text ++ front.text;
  now = front.now;
  writes = text_behind contents first front.first history between front.now run.text front.text run.writes front.writes;
  written = front_behind old mid new run.text front.text run.written front.written;
}

loading_behind : (input : Input) (first others : List ScriptLine) (history between : List HistoryEntry) (told : Bool) (files : Option Contents) (old mid new : Known)
    → IfSome files (λ contents. HasRun contents first history between told old mid) → StopsLoading input others between files mid new
    → StopsLoading input (first ++ others) history files old new
loading_behind input first others history between told files old mid new run stop = record {
  first = first ++ stop.first;
  told = stop.told;
  file = stop.file;
  others = stop.others;
  parts = ap (λ ls. first ++ ls) stop.parts ∙ sym (append_assoc first stop.first (Load stop.told stop.file ∷ stop.others));
  named = stop.named;
  before = on_both files (λ contents run writes. first_behind contents first stop.first history between told old mid new run writes) run stop.before;
}

fails_later : (name : List ℕ) (files : Option Contents) (a b c : Counts) → SameCounts a b → FailsUnder name (flow files b c) → FailsUnder name (flow files a c)
fails_later name files a b c same fails = record {
  failed = subst (λ count. Rose count (c name)) (same name) fails.failed;
  others = λ other differs. fails.others other differs ∙ same other;
}

pub stop_behind : (status : Status) (first others : List ScriptLine) (history between : List HistoryEntry) (told : Bool) (files : Option Contents)
    (a b c : Counts) (old mid new : Known) (x y z : ℕ) → SameCounts a b → y ≡ x
    → IfSome files (λ contents. HasRun contents first history between told old mid)
    → LinesStop status others between (flow files b c) (outflow mid new y z)
    → LinesStop status (first ++ others) history (flow files a c) (outflow old new x z)
unfolding loading_behind
stop_behind (OpenFault input) first others history between told files a b c old mid new x y z same calm run stops =
    (loading_behind input first others history between told files old mid new run stops.0, fails_later stops.0.file.path files a b c same stops.1)
stop_behind (ReadFault input) first others history between told files a b c old mid new x y z same calm run stops =
    (loading_behind input first others history between told files old mid new run stops.0, fails_later stops.0.file.path files a b c same stops.1)
stop_behind (TooLong input) first others history between told files a b c old mid new x y z same calm run stops =
    (loading_behind input first others history between told files old mid new run stops.0, (same_more a b c same stops.1.0, stops.1.1))
stop_behind WriteFault first others history between told files a b c old mid new x y z same calm run stops = (
  same_more a b c same stops.0,
  subst (λ count. Rose count z) calm stops.1,
  on_both files (λ contents run front. front_behind_run contents first others history between told old mid new run front) run stops.2,
)
stop_behind Memory first others history between told files a b c old mid new x y z same calm run stops = (
  same_more a b c same stops.0,
  on_both files (λ contents run front. front_behind_run contents first others history between told old mid new run front) run stops.1,
)
stop_behind Done first others history between told files a b c old mid new x y z same calm run stops = absurd stops
stop_behind DoneWithRefusals first others history between told files a b c old mid new x y z same calm run stops = absurd stops
stop_behind Usage first others history between told files a b c old mid new x y z same calm run stops = absurd stops
