use Rattle.std.proofs.Common.{subst}
use Rattle.std.specs.List.{flat_map}
use Rattle.std.specs.Prelude.{OnErr}
use Rattle.union_io.specs.Writing.{AppendsFront}
use Rattle.union_json.proofs.PieceLaws.{front_last}
use Rattle.union_json.proofs.gathered.Gathered.put.Goals as goal

pub returns-clause-front : goal.returns-clause-front
returns-clause-front g c =
    let before = flat_map (λ piece. piece.items) c.self.inside.full.items in
    subst (λ text. OnErr c.put_all.result (AppendsFront (g.O.Sink.written c.args.out.now) (g.O.Sink.written c.put_all.new.out) text)) c.self.view_is
    (front_last c.put_all.result (g.O.Sink.written c.args.out.now) (g.O.Sink.written c.put_pieces.new.out) (g.O.Sink.written c.put_all.new.out)
    before c.self.inside.last.items (rw c.as_slice.ensures.value at c.in_ok-put_pieces.ensures.all)
    (rw c.as_slice-2.ensures.value at c.put_all.ensures.front))
