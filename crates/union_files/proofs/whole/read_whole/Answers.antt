use Rattle.std.proofs.Common.{◌≡◌, ◌<◌, ◌++◌, refl, sym, ap, subst, ◌∙◌, arith, take}
use Rattle.std.specs.Io.KnownBytes.{Consumes}
use Rattle.std.proofs.KnownBytes.{Consumes-nil, Consumes-trans}
use Rattle.std.proofs.lemmas.List.{take_at}
use Rattle.union_files.proofs.SourceLaws.{on_told, long_source, whole_source}
use Rattle.union_files.proofs.whole.read_whole.Goals as goal

pub loop-source-init : goal.loop-source-init
loop-source-init g c = record {
  name = refl;
  faults = refl;
  taken = subst (λ items. Consumes (g.S.Source.left c.args.source.now) (g.S.Source.left c.args.source.now) items) (sym c.new-content.ensures.items) (Consumes-nil (g.S.Source.left c.args.source.now));
  room = subst (λ n. 0 < n) (sym c.in_ok-piece.ensures.len) (omega arith);
}

pub returns-in-Ok-eq0-clause-reads : goal.returns-in-Ok-eq0-clause-reads
returns-in-Ok-eq0-clause-reads g c = (
  c.in-Ok-eq0.ensures.cause.cause ∙ c.loop-source.invariant.faults,
  whole_source c.args.limit (g.S.Source.left c.args.source.now) (g.S.Source.left c.loop-source.source) c.loop-source.content.items
      c.loop-source.invariant.taken (omega (arith, c.loop-source-test.true, c.len.ensures, c.loop-source.content.ok.0))
      (on_told (g.S.Source.left c.loop-source.source) (λ rest both. both.0 c.in-Ok-eq0.field-0-test) c.in-Ok-eq0.ensures.end),
)

pub loop-source-preserved : goal.loop-source-preserved
loop-source-preserved g c = record {
  name = c.in-Ok.ensures.name ∙ c.loop-source.invariant.name;
  faults = c.in-Ok.ensures.cause.cause ∙ c.loop-source.invariant.faults;
  taken =
      let all : c.extend_from_slice.new.self.items ≡ c.loop-source.content.items ++ take c.in-Ok.count c.read.new.into
      = c.in_ok-extend_from_slice-in-Ok.ensures.items ∙ ap (λ given. c.loop-source.content.items ++ take c.in-Ok.count given)
      (c.deref.ensures.value ∙ take_at c.read.new.into _ c.loop-source.piece.len (omega (arith, c.as_mut_slice.ensures.len, c.loop-source.piece.ok.0))) in
      subst (λ items. Consumes (g.S.Source.left c.args.source.now) (g.S.Source.left c.read.new.self) items) (sym all)
      (Consumes-trans (g.S.Source.left c.args.source.now) (g.S.Source.left c.loop-source.source) (g.S.Source.left c.read.new.self)
      c.loop-source.content.items (take c.in-Ok.count c.read.new.into) c.loop-source.invariant.taken c.in-Ok.ensures.bytes.0);
  room = c.loop-source.invariant.room;
}

pub returns-clause-reads : goal.returns-clause-reads
returns-clause-reads g c = (
  long_source c.args.limit (g.S.Source.left c.args.source.now) (g.S.Source.left c.loop-source.source) c.loop-source.content.items c.loop-source.invariant.taken
      (omega (arith, c.loop-source-test.false, c.len.ensures, c.loop-source.content.ok.0)),
  c.loop-source.invariant.faults,
)
