use Rattle.std.proofs.Common.{sym, arith}
use Rattle.key_groups.proofs.Linking.{AreLinks-set, Follows-linked}
use Rattle.key_groups.proofs.links.link.Goals as goal

-- the later end is linked to the earlier one
pub returns-then-first-second : goal.returns-then-first-second
returns-then-first-second c =
    let one = c.first_of_group-first in
    let two = c.first_of_group-second in
    record {
      links = AreLinks-set two.new.links two.result one.result (let less = c.if-first-second.true in omega (arith, less)) two.ensures.links;
      joined = Follows-linked c.args.links.now two.new.links c.args.one c.args.other two.result one.result two.ensures.within two.ensures.first
          (λ label. (
            (λ follows. (one.ensures.kept label).0 ((two.ensures.kept label).0 follows)),
            (λ follows. (two.ensures.kept label).1 ((one.ensures.kept label).1 follows)),
          ))
          (λ label follows. one.ensures.one label ((two.ensures.kept label).0 follows))
          two.ensures.one;
    }

pub returns-else-first-second : goal.returns-else-first-second
returns-else-first-second c =
    let one = c.first_of_group-first in
    let two = c.first_of_group-second in
    let joined = Follows-linked c.args.links.now two.new.links c.args.other c.args.one one.result two.result
    (let within = one.ensures.within in let size = two.auto.links in omega (arith, within, size))
    (two.ensures.ends one.result one.ensures.first)
    (λ label. (
      (λ follows. (one.ensures.kept label).0 ((two.ensures.kept label).0 follows)),
      (λ follows. (two.ensures.kept label).1 ((one.ensures.kept label).1 follows)),
    ))
    two.ensures.one
    (λ label follows. one.ensures.one label ((two.ensures.kept label).0 follows)) in
    record {
      links = AreLinks-set two.new.links one.result two.result c.if-first-second.false two.ensures.links;
      joined = λ label. (
        (λ follows. let both = (joined label).0 follows in (both.0, sym both.1)),
        (λ both. (joined label).1 (both.0, sym both.1)),
      );
    }
