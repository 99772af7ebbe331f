use Rattle.std.proofs.Common.{◌≡◌, ◌++◌, ◌∷◌, [], refl, sym, ap, subst, ◌∙◌, arith, append-nil, length}
use Rattle.std.specs.Prelude.{Ok, Some, OnSome, ◌<◌}
use Rattle.catalogue_core.specs.Histories.{current, outcomes}
use Rattle.library_batches.specs.Outcomes.{AreCounted}
use Rattle.library_batches.specs.Reading.{AnswersBatch}
use Rattle.library_stream.specs.Streaming.{most_ahead}
use Rattle.library_stream.specs.declared.frame_reader.TheConstants.{LARGEST_SOURCE}
use Rattle.catalogue_core.specs.Entries.{entries_of}
use Rattle.library_batches.specs.Tallies.{found as found_under}
use Rattle.load_sessions.proofs.TallyLaws.{found-none, few_ops, length-outcomes}
use Rattle.union_files.proofs.BatchLaws.{Hands, hands_none, hands_more, hands_rest}
use Rattle.union_files.proofs.SourceLaws.{on_told}
use Rattle.union_follow.proofs.EntryLaws.{found_one_more, turns_as_more}
use Rattle.union_follow.proofs.loading.load_batches.Goals as goal

pub loop-batch-init : goal.loop-batch-init
loop-batch-init g c =
    let library = c.args.reader.now.library in
    let left = g.S.Source.left c.args.source.now in
    let entries = entries_of c.args.load.now.catalogue.history in
    record {
      name = refl;
      faults = refl;
      free = ap (λ reader. reader.prefer) c.requires.reader;
      library = refl;
      book = refl;
      reports = refl;
      shown = c.requires.shown;
      batches = [];
      hands = subst (λ reader. Hands library LARGEST_SOURCE left reader left []) (sym c.requires.reader) (hands_none library LARGEST_SOURCE left);
      applied = sym (append-nil c.args.load.now.catalogue.history);
      found = subst (λ found. AreCounted found c.new-counts.result) (sym (found-none c.args.pass entries [] c.requires.new refl)) c.new-counts.ensures.none;
      few = omega (arith, c.new-counts.ensures.total, ap (λ reader. most_ahead reader.stream) c.requires.reader);
    }

pub loop-batch-preserved : goal.loop-batch-preserved
loop-batch-preserved g c =
    let before = c.loop-batch.invariant in
    let library = c.args.reader.now.library in
    let told = g.S.Source.left c.args.source.now in
    let now = g.S.Source.left c.loop-batch.source in
    let then = g.S.Source.left c.next.new.source in
    let batch = c.in-Some.batch in
    let pass = c.args.pass in
    let history = c.loop-batch.load.catalogue.history in
    let answers : AnswersBatch (Ok (Some batch)) c.loop-batch.reader now c.next.new.self then
    = subst (λ next. AnswersBatch (Ok next) c.loop-batch.reader now c.next.new.self then) c.in-Some.is c.in_ok-batch.ensures.answers in
    let fewer : most_ahead c.next.new.self.stream < most_ahead c.loop-batch.reader.stream
    = subst (λ next. OnSome next (most_ahead c.next.new.self.stream < most_ahead c.loop-batch.reader.stream)) c.in-Some.is c.in_ok-batch.ensures.fewer in
    let items : c.as_slice.result.now ≡ outcomes batch.library (current history) batch.ops
    = c.as_slice.ensures.value ∙ c.in_ok-found.ensures.outcomes in
    let all : found_under (entries_of history) pass ++ c.as_slice.result.now ≡ found_under (entries_of c.publish_batch.new.load.catalogue.history) pass
    = ap (λ items. found_under (entries_of history) pass ++ items) items
    ∙ (sym (found_one_more history pass batch) ∙ ap (λ h. found_under (entries_of h) pass) (sym c.in_ok-found.ensures.appended)) in
    record {
      name = c.in_ok-batch.ensures.name ∙ before.name;
      faults = c.in_ok-batch.ensures.calm (λ is. cc) ∙ before.faults;
      free = c.in_ok-batch.ensures.prefer ∙ before.free;
      library = c.in_ok-batch.ensures.library ∙ before.library;
      book = c.in_ok-found.ensures.book ∙ before.book;
      reports = c.in_ok-found.ensures.reports ∙ before.reports;
      shown = c.in_ok-found.ensures.shown;
      batches = before.batches ++ batch ∷ [];
      hands = hands_more library LARGEST_SOURCE told now then c.loop-batch.reader c.next.new.self before.batches batch before.free before.library before.hands answers;
      applied = c.in_ok-found.ensures.appended ∙ ap (λ h. h ++ record { pass = pass; batch = batch } ∷ []) before.applied
          ∙ turns_as_more c.args.load.now.catalogue.history pass before.batches batch;
      found = subst (λ found. AreCounted found c.count.new.self) all (c.count.ensures.more (found_under (entries_of history) pass) before.found);
      few = omega (arith, c.count.ensures.total, ap length items, length-outcomes batch.library (current history) batch.ops, few_ops batch, fewer, before.few);
    }

pub returns-clause-reads : goal.returns-clause-reads
returns-clause-reads g c =
    let before = c.loop-batch.invariant in (
      c.in_ok-batch.ensures.calm (λ is. cc) ∙ before.faults,
      on_told (g.S.Source.left c.args.source.now)
          (λ bytes all. (all.fits, record { batches = before.batches; read = all.all; applied = before.applied; counted = before.found; frames = all.frames_are; refused = all.refused_are }))
          (hands_rest c.in_ok-batch.field-0 c.args.reader.now.library LARGEST_SOURCE (g.S.Source.left c.args.source.now) (g.S.Source.left c.loop-batch.source)
          (g.S.Source.left c.next.new.source) c.loop-batch.reader c.next.new.self before.batches c.in_default.not-Some before.free before.library before.hands c.in_ok-batch.ensures.answers),
    )
