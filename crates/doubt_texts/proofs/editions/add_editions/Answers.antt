use Rattle.std.proofs.Common.{sym}
use Rattle.doubt_texts.proofs.ListingLaws.{first-left, adds-next, doubts-next, editions-left}
use Rattle.doubt_texts.proofs.editions.add_editions.Goals as goal

pub add_group-requires : goal.add_group-requires
add_group-requires c =
    let groups = c.args.groups.now in
    let at = c.loop-group.group-index in
    let group = c.group-item.result in
    (editions-left groups at group (first-left groups at group c.loop-group-test.true (sym c.group-item.is)) c.loop-group.invariant.editions).0

pub loop-group-preserved : goal.loop-group-preserved
loop-group-preserved c =
    let groups = c.args.groups.now in
    let at = c.loop-group.group-index in
    let group = c.group-item.result in
    let first = first-left groups at group c.loop-group-test.true (sym c.group-item.is) in
    record {
      text = adds-next c.args.form groups at group first c.args.text.now.items c.loop-group.text.items c.add_group.new.text.items
          c.in_ok-add_group.ensures.text c.loop-group.invariant.text;
      doubts = doubts-next groups at group first c.loop-group.all.items c.add_group.new.all.items _ c.in_ok-add_group.ensures.doubts
          c.loop-group.invariant.doubts;
      editions = (editions-left groups at group first c.loop-group.invariant.editions).1;
    }
