use Rattle.std.proofs.Common.{◌+◌, take, drop, sym, subst, arith}
use Rattle.std.proofs.lemmas.Result.{err_from_is_err_and}
use Rattle.std.specs.List.{flat_map}
use Rattle.union_io.specs.Writing.{AppendsFront}
use Rattle.union_json.proofs.PieceLaws.{front_within, around}
use Rattle.union_json.proofs.gathered.put_pieces.Goals as goal

pub returns-in_err-put_all-clause-front : goal.returns-in_err-put_all-clause-front
returns-in_err-put_all-clause-front g c =
    let p = err_from_is_err_and c.from_residual.result c.from_residual.ensures.1 in
    let pieces = c.args.pieces.now in
    let i = c.loop-piece.piece-index in
    let piece = c.piece-item.result in
    let before = flat_map (λ piece. piece.items) (take i pieces) in
    let rest = flat_map (λ piece. piece.items) (drop (i + 1) pieces) in
    rw p.1
    (subst (AppendsFront (g.O.Sink.written c.args.out.now) (g.O.Sink.written c.put_all.new.out))
    (sym (around (λ piece. piece.items) pieces i piece (omega arith) c.piece-item.is))
    (front_within (g.O.Sink.written c.args.out.now) (g.O.Sink.written c.loop-piece.out) (g.O.Sink.written c.put_all.new.out) before piece.items rest
    c.loop-piece.invariant.written (rw c.as_slice.ensures.value at c.in_err-put_all.ensures.front)))
