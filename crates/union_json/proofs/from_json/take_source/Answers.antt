use Rattle.std.proofs.Common.{◌≡◌, ◌<◌, ◌≤◌, [], ◌++◌, length, take, refl, sym, ap, subst, ◌∙◌, arith, length-append}
use Rattle.std.proofs.KnownBytes.{Consumes-nil, Consumes-trans}
use Rattle.std.proofs.lemmas.List.{take_at}
use Rattle.union_json.specs.Converting.{HasTaken}
use Rattle.library_stream.specs.declared.frame_reader.TheConstants.{LARGEST_SOURCE}
use Rattle.union_files.proofs.SourceLaws.{on_told, long_source, whole_source}
use Rattle.union_json.proofs.from_json.take_source.Goals as goal

pub pieces-init : goal.pieces-init
pieces-init g c = record {
  name = refl;
  faults = refl;
  front = [];
  given = Consumes-nil (g.S.Source.left c.args.source.now);
  size = refl;
  taken = λ taken. taken;
  few = omega (arith, c.requires);
  place = subst (λ n. 0 < n) (sym c.in_ok-piece.ensures.len) (omega arith);
}

pub returns-in-Ok-eq0-clause-reads : goal.returns-in-Ok-eq0-clause-reads
returns-in-Ok-eq0-clause-reads g c =
    let before = c.pieces.invariant in
    let fits : length before.front ≤ LARGEST_SOURCE = omega (arith, before.size) in (
      c.in-Ok-eq0.ensures.cause.cause ∙ before.faults,
      on_told (g.S.Source.left c.args.source.now)
          (λ bytes whole. (whole.0, λ taken. subst (λ text. HasTaken text c.pieces.converter) whole.1 (before.taken taken)))
          (whole_source LARGEST_SOURCE (g.S.Source.left c.args.source.now) (g.S.Source.left c.pieces.source) before.front before.given fits
          (on_told (g.S.Source.left c.pieces.source) (λ rest both. both.0 c.in-Ok-eq0.field-0-test) c.in-Ok-eq0.ensures.end)),
    )

pub returns-then-count-room-clause-reads : goal.returns-then-count-room-clause-reads
returns-then-count-room-clause-reads g c =
    let before = c.pieces.invariant in
    let given = take c.in-Ok.count c.read.new.into in
    let more : LARGEST_SOURCE < length (before.front ++ given)
    = omega (arith, length-append before.front given, c.in-Ok.ensures.bound.1, before.size, c.if-count-room.true) in (
      long_source LARGEST_SOURCE (g.S.Source.left c.args.source.now) (g.S.Source.left c.read.new.self) (before.front ++ given)
          (Consumes-trans (g.S.Source.left c.args.source.now) (g.S.Source.left c.pieces.source) (g.S.Source.left c.read.new.self)
          before.front given before.given c.in-Ok.ensures.bytes.0) more,
      c.in-Ok.ensures.cause.cause ∙ before.faults,
    )

pub pieces-preserved : goal.pieces-preserved
pieces-preserved g c =
    let before = c.pieces.invariant in
    let given = take c.in-Ok.count c.read.new.into in
    let size : length given ≡ c.in-Ok.count = sym c.in-Ok.ensures.bound.1 in
    let piece_is : c.split_at.result.0.now ≡ given
    = c.split_at.ensures.front ∙ ap (take c.in-Ok.count)
    (c.as_slice.ensures.value ∙ take_at c.read.new.into _ c.pieces.piece.len (omega (arith, c.as_mut_slice.ensures.len, c.pieces.piece.ok.0))) in
    record {
      name = c.in-Ok.ensures.name ∙ before.name;
      faults = c.in-Ok.ensures.cause.cause ∙ before.faults;
      front = before.front ++ given;
      given = Consumes-trans (g.S.Source.left c.args.source.now) (g.S.Source.left c.pieces.source) (g.S.Source.left c.read.new.self)
          before.front given before.given c.in-Ok.ensures.bytes.0;
      size = omega (arith, length-append before.front given, size, before.size, c.if-count-room.false);
      taken = λ taken. subst (λ text. HasTaken (before.front ++ text) c.take.new.self) piece_is
          (c.in_ok-take-in-Ok.ensures.taken before.front (before.taken taken));
      few = omega (arith, length-append before.front given, size, before.few, c.in_ok-take-in-Ok.ensures.few, c.split_at.ensures.front_len);
      place = before.place;
    }
