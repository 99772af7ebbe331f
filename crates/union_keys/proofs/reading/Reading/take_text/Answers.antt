use Rattle.std.proofs.Common.{◌+◌, length, drop, refl, sym, ap, ◌∙◌, arith}
use Rattle.iso2709_frame.specs.Frames.{first_piece}
use Rattle.union_keys.proofs.PlacedLaws.{first_piece-twice, piece-is}
use Rattle.union_keys.proofs.TakingLaws.{taken-next}
use Rattle.union_keys.proofs.reading.Reading.take_text.Goals as goal

pub loop-rest-init : goal.loop-rest-init
loop-rest-init c = record { taken = λ after t. t; first = omega arith; number = omega arith }

pub take_piece-requires-clause-piece : goal.take_piece-requires-clause-piece
take_piece-requires-clause-piece c =
    let rest = c.loop-rest.rest.now in
    let is = piece-is rest c.split_at.result.0.now c.piece_size.result c.split_at.ensures.front c.piece_size.ensures.value in
    ap first_piece is ∙ (first_piece-twice rest ∙ sym is)

pub loop-rest-preserved : goal.loop-rest-preserved
loop-rest-preserved c =
    let rest = c.loop-rest.rest.now in
    let piece = c.split_at.result.0.now in
    let behind = c.split_at.result.1.now in
    record {
      taken = λ after t.
          c.loop-rest.invariant.taken after
          (taken-next c.args.library.now c.loop-rest.number c.in_ok-number.number c.loop-rest.first (c.loop-rest.first + length piece) rest piece behind
          c.loop-rest.self c.take_piece.new.self after
          (piece-is rest piece c.piece_size.result c.split_at.ensures.front c.piece_size.ensures.value)
          (c.split_at.ensures.back ∙ ap (λ n. drop n rest) c.piece_size.ensures.value)
          refl c.in_ok-number.ensures.next c.in_ok-number.ensures.taken t);
      first = omega (arith, c.loop-rest.invariant.first, c.split_at.ensures.front_len, c.split_at.ensures.back_len, c.piece_size.ensures.within);
      number = omega (arith, c.loop-rest.invariant.number, c.in_ok-number.ensures.few);
    }
