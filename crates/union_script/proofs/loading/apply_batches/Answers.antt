use Rattle.std.proofs.Common.{◌≡◌, ◌++◌, ◌∷◌, [], refl, sym, ap, subst, ◌∙◌, arith, append-nil, length}
use Rattle.std.specs.Prelude.{Ok, Some, OnSome, ◌<◌}
use Rattle.catalogue_core.specs.Histories.{current, outcomes}
use Rattle.library_batches.specs.Outcomes.{AreCounted, found_in}
use Rattle.library_batches.specs.Reading.{AnswersBatch}
use Rattle.library_stream.specs.Streaming.{most_ahead}
use Rattle.library_stream.specs.declared.frame_reader.TheConstants.{LARGEST_SOURCE}
use Rattle.union_script.proofs.BatchLaws.{found_behind, turns_more, few_outcomes}
use Rattle.union_files.proofs.BatchLaws.{Hands, hands_none, hands_more, hands_rest}
use Rattle.union_script.specs.Notices.{TellsTurn, TellsTurns}
use Rattle.union_script.proofs.NoticeLaws.{tells_more}
use Rattle.union_files.proofs.SourceLaws.{on_told}
use Rattle.union_script.proofs.loading.apply_batches.Goals as goal

pub loop-notices-init : goal.loop-notices-init
loop-notices-init g c =
    let library = c.args.reader.now.library in
    let left = g.S.Source.left c.args.source.now in
    record {
      name = refl;
      faults = refl;
      free = ap (λ reader. reader.prefer) c.requires;
      library = refl;
      batches = [];
      hands = subst (λ reader. Hands library LARGEST_SOURCE left reader left []) (sym c.requires) (hands_none library LARGEST_SOURCE left);
      told = refl;
      tells = c.new-notices.ensures.items;
      applied = sym (append-nil c.args.union.now.catalogue.history);
      found = c.new-counts.ensures.none;
      few = omega (arith, c.new-counts.ensures.total, ap (λ reader. most_ahead reader.stream) c.requires);
    }

pub loop-notices-preserved : goal.loop-notices-preserved
loop-notices-preserved g c =
    let before = c.loop-notices.invariant in
    let library = c.args.reader.now.library in
    let told = g.S.Source.left c.args.source.now in
    let now = g.S.Source.left c.loop-notices.source in
    let then = g.S.Source.left c.next.new.source in
    let batch = c.in-Some.batch in
    let history = c.args.union.now.catalogue.history in
    let said = c.in_ok-found.ensures.tells.0 in
    let answers : AnswersBatch (Ok (Some batch)) c.loop-notices.reader now c.next.new.self then
    = subst (λ next. AnswersBatch (Ok next) c.loop-notices.reader now c.next.new.self then) c.in-Some.is c.in_ok-batch.ensures.answers in
    let fewer : most_ahead c.next.new.self.stream < most_ahead c.loop-notices.reader.stream
    = subst (λ next. OnSome next (most_ahead c.next.new.self.stream < most_ahead c.loop-notices.reader.stream)) c.in-Some.is c.in_ok-batch.ensures.fewer in
    let items : c.as_slice.result.now ≡ outcomes batch.library (current c.loop-notices.union.catalogue.history) batch.ops
    = c.as_slice.ensures.value ∙ c.in_ok-found.ensures.outcomes in
    let all : found_in (current history) before.batches ++ c.as_slice.result.now ≡ found_in (current history) (before.batches ++ batch ∷ [])
    = ap (λ items. found_in (current history) before.batches ++ items) (items ∙ ap (λ h. outcomes batch.library (current h) batch.ops) before.applied)
    ∙ sym (found_behind history before.batches batch) in
    record {
      name = c.in_ok-batch.ensures.name ∙ before.name;
      faults = c.in_ok-batch.ensures.calm (λ is. cc) ∙ before.faults;
      free = c.in_ok-batch.ensures.prefer ∙ before.free;
      library = c.in_ok-batch.ensures.library ∙ before.library;
      batches = before.batches ++ batch ∷ [];
      hands = hands_more library LARGEST_SOURCE told now then c.loop-notices.reader c.next.new.self before.batches batch before.free before.library before.hands answers;
      told = c.in_ok-found.ensures.told ∙ before.told;
      tells =
          subst (λ text. TellsTurns c.args.union.now.told history (before.batches ++ batch ∷ []) text) (sym c.in_ok-found.ensures.tells.2)
          (tells_more c.args.union.now.told history before.batches batch c.loop-notices.notices.items said before.tells
          (subst (λ h. TellsTurn c.args.union.now.told h batch said) before.applied
          (subst (λ told. TellsTurn told c.loop-notices.union.catalogue.history batch said) before.told c.in_ok-found.ensures.tells.1)));
      applied = c.in_ok-found.ensures.appended ∙ ap (λ h. h ++ record { pass = 0; batch = batch } ∷ []) before.applied ∙ turns_more history before.batches batch;
      found = subst (λ found. AreCounted found c.count.new.self) all (c.count.ensures.more (found_in (current history) before.batches) before.found);
      few = omega (arith, c.count.ensures.total, ap length items, few_outcomes batch (current c.loop-notices.union.catalogue.history), fewer, before.few);
    }

pub returns-clause-reads : goal.returns-clause-reads
returns-clause-reads g c =
    let before = c.loop-notices.invariant in (
      c.in_ok-batch.ensures.calm (λ is. cc) ∙ before.faults,
      on_told (g.S.Source.left c.args.source.now)
          (λ bytes all. (all.fits, record { batches = before.batches; read = all.all; applied = before.applied; tells = before.tells; counted = before.found; frames = all.frames_are; refused = all.refused_are }))
          (hands_rest c.in_ok-batch.field-0 c.args.reader.now.library LARGEST_SOURCE (g.S.Source.left c.args.source.now) (g.S.Source.left c.loop-notices.source)
          (g.S.Source.left c.next.new.source) c.loop-notices.reader c.next.new.self before.batches c.in_default.not-Some before.free before.library before.hands c.in_ok-batch.ensures.answers),
    )
