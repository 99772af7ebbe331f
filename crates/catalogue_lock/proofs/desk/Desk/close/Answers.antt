use Rattle.std.proofs.Common.{arith}
use Rattle.catalogue_lock.proofs.Roots.{close_has, close_gives}
use Rattle.catalogue_lock.proofs.desk.Desk.close.Goals as goal

pub unwrap-requires : goal.unwrap-requires
unwrap-requires g c =
    let r = c.args.root in
    close_has g.M.Machine.setting g.M.Machine.entries _ _ _ _ c.take-machine.result r.rests.0 (omega (arith, c.requires.out)) c.close_with-closed.ensures.values.2 c.take-machine.ensures.value

pub returns-clause-setting : goal.returns-clause-setting
returns-clause-setting g c =
    let r = c.args.root in
    (close_gives g.M.Machine.setting g.M.Machine.entries _ r.place.me.0 _ _ c.take-machine.result c.unwrap.result r.rests.0 (omega (arith, c.requires.out)) c.close_with-closed.ensures.values.2 c.take-machine.ensures.value c.unwrap.ensures).0

pub returns-clause-ended : goal.returns-clause-ended
returns-clause-ended g c =
    let r = c.args.root in
    (close_gives g.M.Machine.setting g.M.Machine.entries _ r.place.me.0 _ _ c.take-machine.result c.unwrap.result r.rests.0 (omega (arith, c.requires.out)) c.close_with-closed.ensures.values.2 c.take-machine.ensures.value c.unwrap.ensures).1.0

pub returns-clause-numbers : goal.returns-clause-numbers
returns-clause-numbers g c =
    let r = c.args.root in
    (close_gives g.M.Machine.setting g.M.Machine.entries _ r.place.me.0 _ _ c.take-machine.result c.unwrap.result r.rests.0 (omega (arith, c.requires.out)) c.close_with-closed.ensures.values.2 c.take-machine.ensures.value c.unwrap.ensures).1.1

pub returns-clause-no_other : goal.returns-clause-no_other
returns-clause-no_other g c =
    let r = c.args.root in
    (close_gives g.M.Machine.setting g.M.Machine.entries _ r.place.me.0 _ _ c.take-machine.result c.unwrap.result r.rests.0 (omega (arith, c.requires.out)) c.close_with-closed.ensures.values.2 c.take-machine.ensures.value c.unwrap.ensures).1.2
