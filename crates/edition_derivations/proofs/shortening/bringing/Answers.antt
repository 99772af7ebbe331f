use Rattle.std.proofs.Common.{sym, subst}
use Rattle.edition_derivations.specs.Shortened.{IsShortened}
use Rattle.edition_derivations.proofs.ShortLaws.{shortened-begun}
use Rattle.edition_derivations.proofs.shortening.bringing.Goals as goal

pub loop-size-init : goal.loop-size-init
loop-size-init c =
    subst (IsShortened c.args.records.now c.args.one.now c.args.other.now c.in_ok-kept.kept.items c.in_ok-steps.steps.items) (sym c.in_ok-shared.ensures)
    (shortened-begun c.args.records.now c.in_ok-kept.kept.items c.args.edition.now c.args.one.now c.args.other.now c.in_ok-steps.steps.items
    c.in_ok-kept.ensures c.in_ok-steps.ensures c.requires.one c.requires.other)
