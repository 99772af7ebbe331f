use Rattle.catalogue_core.proofs.StayLaws.{houses_all-begin, houses_all-now, houses_all-next, houses_all-end}
use Rattle.catalogue_core.proofs.housing.house_all.Goals as goal

pub loop-place-init : goal.loop-place-init
loop-place-init c = houses_all-begin c.args.blocks.now.blocks c.args.homes.now.entries c.args.opened.now c.args.numbers.now c.requires.apart c.requires.still

pub house_block-requires : goal.house_block-requires
house_block-requires c = houses_all-now c.loop-place.invariant c.index-opened-place.result c.loop-place-test.true c.index-opened-place.is c.requires.numbered

pub loop-place-preserved : goal.loop-place-preserved
loop-place-preserved c =
    houses_all-next c.loop-place.invariant c.index-opened-place.result c.loop-place-test.true c.index-opened-place.is c.requires.numbered
    c.house_block.new.homes.entries c.house_block.ensures

pub returns : goal.returns
returns c = houses_all-end c.loop-place.invariant c.loop-place-test.false
