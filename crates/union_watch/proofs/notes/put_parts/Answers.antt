use Rattle.std.proofs.Common.{◌++◌}
use Rattle.union_watch.proofs.NoteLaws.{front_more}
use Rattle.union_watch.proofs.notes.put_parts.Goals as goal

pub returns-clause-front : goal.returns-clause-front
returns-clause-front g c =
    front_more c.put_both.result _ _ _ c.args.one.now (c.args.two.now ++ c.args.three.now) c.in_ok-put_all.ensures.all c.put_both.ensures.front
