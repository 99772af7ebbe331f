-- A run of `watch` or `follow` that loaded and asked, and wrote what it came to.
use Rattle.std.proofs.Common.{◌≡◌, ℕ, Bool, List, length, refl, ap, subst, ◌∙◌}
use Rattle.std.specs.Prelude.{◌||◌, IfSome}
use Rattle.std.specs.List.{list_any}
use Rattle.names_file.specs.Named.{Named, IsNamedBy}
use Rattle.union_words.specs.Flows.{ShelfFlow, IsCalm, Outflow}
use Rattle.union_words.specs.Statuses.{end_by}
use Rattle.union_words.specs.declared.status.Status.{Status}
use Rattle.union_files.specs.Limits as all
use Rattle.union_files.specs.Limits.{Contents}
use Rattle.union_files.proofs.LimitLaws.{on_both}
use Rattle.union_files.specs.Deliveries.{has_refused}
use Rattle.union_files.specs.Inputs.{inputs_of}
use Rattle.union_files.specs.declared.loaded.Loaded.{Loaded}
use Rattle.union_files.proofs.RunLaws.{within_all}
use Rattle.union_watch.specs.AskLines.{asked_lines, has_refused_line}
use Rattle.union_watch.specs.Lateness.{AreTimely}
use Rattle.union_watch.specs.WatchRuns.{Order, Watch, first_files, deliveries_of, IsWatchOf, IsAskedRun}
use Rattle.union_watch.specs.Told.{Told, AreTold, numbers_of}
use Rattle.union_watch.specs.WatchTexts.{watch_text}
use Rattle.union_watch.specs.Runs.{HasTurned, Written}
use Rattle.union_watch.proofs.RunLaws.{ended_run}

-- the first files were read, where the files have these contents: the file of questions, and that of names
pub record HasRead (watch : Watch) (text : List ℕ) (names : Named) (contents : Contents) : Type 0 where
  pub within : all.AreWithin contents (first_files watch)
  pub text_is : text ≡ contents watch.asks
  pub named : IsNamedBy contents watch.names names

pub asked_run : (AreTurns : Order) (watch : Watch) (text : List ℕ) (names : Named) (loaded : Loaded) (told : List Told) (refused : Bool) (status : Status)
    (shelf : ShelfFlow) (out notes : Outflow) → IsCalm shelf → IfSome shelf.files (HasRead watch text names)
    → IfSome shelf.files (λ contents. all.AreWithin contents (inputs_of watch.libraries) × HasTurned AreTurns names (deliveries_of contents watch) loaded)
    → AreTold names.table loaded.catalogue.history (asked_lines text) told
    → AreTimely watch.workers (length loaded.catalogue.history) (numbers_of told) → refused ≡ has_refused_line text
    → Written (watch_text loaded.catalogue.history told) loaded.reports.items (end_by (loaded.refused || refused)) out notes status
    → IsAskedRun AreTurns watch shelf out notes status
asked_run AreTurns watch text names loaded told refused status shelf out notes calm read turned told_is timely refused_is written =
    let history = loaded.catalogue.history in
    ended_run (IsWatchOf AreTurns watch) (loaded.refused || refused) (watch_text history told) loaded.reports.items status (first_files watch) watch.libraries
    shelf out notes calm
    (on_both shelf.files (λ contents read turned. (
      within_all contents (first_files watch) watch.libraries read.within turned.0,
      record {
        names = names;
        named = read.named;
        streams = turned.1.streams;
        history = history;
        told = told;
        watched = record {
          delivered = turned.1.delivered;
          turns = turned.1.turns;
          told_is = subst (λ asks. AreTold names.table history (asked_lines asks) told) read.text_is told_is;
          timely = timely;
        };
        shown_is = refl;
        noted_is = turned.1.reports;
        end_is =
            ap (λ frames. end_by (frames || refused)) turned.1.refused
            ∙ ap (λ line. end_by ((names.refused || list_any has_refused (deliveries_of contents watch)) || line))
            (refused_is ∙ ap has_refused_line read.text_is);
      },
    )) read turned)
    written
