use Rattle.std.proofs.Common.{sym, subst}
use Rattle.union_files.specs.Inputs.{state_of, states_of}
use Rattle.union_follow.proofs.ShelfLaws.{raises_more}
use Rattle.union_follow.specs.Turning.{RaisesAt}
use Rattle.union_follow.proofs.libraries.+return_all.Goals as goal

pub returns-clause-failed : goal.returns-clause-failed
returns-clause-failed g t c =
    let state = state_of g.F.Src.Source.name g.F.Src.Source.left g.F.Src.Source.faults in
    let states = states_of g.F.Src.Source.name g.F.Src.Source.left g.F.Src.Source.faults in
    let before = g.F.Shelf.faults c.args.shelf.now in
    let between = g.F.Shelf.faults c.give_back.new.self in
    let after = g.F.Shelf.faults c.return_all.new.shelf in
    subst (λ items. RaisesAt (states items) before after) (sym c.in-Some.ensures.items)
    (raises_more (state c.in-Some.file) (states c.pop_front.new.self.items) before between after c.give_back.ensures.raised
    c.give_back.ensures.others c.give_back.ensures.calm c.return_all.ensures.calm c.return_all.ensures.failed)
