-- How the turns of a session go on, and how they end.
use Rattle.std.proofs.Common.{◌≡◌, ◌≢◌, ◌<◌, ℕ, List, ◌++◌, length, take, ap, ◌∙◌}
use Rattle.std.specs.Prelude.{Option, Result, Err, IfSome}
use Rattle.iso2709_frame.specs.Frames.{frames}
use Rattle.union_io.specs.Causes.{Rose}
use Rattle.catalogue_editions.specs.declared.batch.Batch.{Batch}
use Rattle.catalogue_lock.specs.Tokens.{view}
use Rattle.atomic_table.specs.Seated.{TableId}
use Rattle.library_batches.specs.Batches.{AreFirstBatches}
use Rattle.library_batches.specs.Reading.{Batching}
use Rattle.library_batches.specs.declared.outcome_counts.OutcomeCounts.{OutcomeCounts}
use Rattle.library_batches.specs.declared.stop.Stop.{Stop}
use Rattle.library_batches.specs.declared.stop.Stop.TheVariants.{TooLong, Failed}
use Rattle.load_sessions.specs.Sessions.{IsSameSession}
use Rattle.load_sessions.specs.Turning.{Turns, TurnsEach}
use Rattle.load_sessions.specs.declared.session.Session.{Session}

module _ {S : Type 0} (name : S → List ℕ) (desk : TableId) where
  pub IsSameSession-more : (a b c : Session S) → IsSameSession name desk a b → IsSameSession name desk b c → IsSameSession name desk a c
  IsSameSession-more a b c one two = record {
    number = two.number ∙ one.number;
    library = two.library ∙ one.library;
    limit = two.limit ∙ one.limit;
    prefer = two.prefer ∙ one.prefer;
    source = two.source ∙ one.source;
    desk_is = two.desk_is;
    pass = (two.pass.0 ∙ one.pass.0, two.pass.1 ∙ one.pass.1);
  }

module _ {S : Type 0} (name : S → List ℕ) (left : S → Option (List ℕ)) (faults : S → ℕ) where
  -- they stopped, when the pass had turned first batches
  pub Turns-stopped : (desk : TableId) (before now : Session S) (reader : Batching) (counts : OutcomeCounts)
      (result : Result (Unit {0}) Stop) (stop : Stop) → result ≡ Err stop → IsSameSession name desk before now
      → IfSome (left before.source) (λ bytes. AreFirstBatches before.prefer before.library (frames (take before.limit bytes)) (view now.pass).own)
      → (stop ≡ TooLong → IfSome (left before.source) (λ bytes. before.limit < length bytes))
      → (stop ≡ Failed → Rose (faults before.source) (faults now.source)) → (stop ≢ Failed → faults now.source ≡ faults before.source)
      → Turns name left faults desk before now reader counts result
  Turns-stopped desk before now reader counts result stop is keeps gained long fault calm = record {
    keeps = keeps;
    gained = gained;
    done = rw is tt;
    counts_are = rw is tt;
    long = λ e. long (cc (is, e));
    fault = λ e. fault (cc (is, e));
    calm = λ other. calm (λ e. other (is ∙ ap Err e));
  }

-- turns were made of the first of the batches, when one stopped
pub TurnsEach-first : {E : Type 0} (before batches now made rest : List Batch) (result : Result (Unit {0}) E) (stop : E) → result ≡ Err stop
    → batches ≡ made ++ rest → now ≡ before ++ made → TurnsEach before batches now result
TurnsEach-first before batches now made rest result stop is all turned = rw is (made, rest, all, turned)
