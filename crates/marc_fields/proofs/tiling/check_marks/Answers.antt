use Rattle.std.proofs.Common.{◌∙◌, sym, refl}
use Rattle.marc_fields.proofs.TilingLaws.{tiling_failure-tile, tiling_failure-gap, tiling_failure-none, covered-is}
use Rattle.marc_fields.proofs.tiling.check_marks.Goals as goal

pub returns-in-Some : goal.returns-in-Some
returns-in-Some c = tiling_failure-tile c.args.bytes.now c.args.entries.now c.in-Some.place (sym c.in-Some.ensures.row)

pub returns-then-not-are_marked : goal.returns-then-not-are_marked
returns-then-not-are_marked c =
    let size = c.first_untiled.auto.marks ∙ c.requires.size in
    let owners = c.in_default.ensures.marked refl in
    tiling_failure-gap c.args.bytes.now c.args.entries.now (sym c.in_default.ensures.row)
    (covered-is c.args.bytes.now c.args.entries.now c.first_untiled.new.marks size owners ∙ sym c.if-not-are_marked.ensures)

pub returns : goal.returns
returns c =
    let size = c.first_untiled.auto.marks ∙ c.requires.size in
    let owners = c.in_default.ensures.marked refl in (
      tiling_failure-none c.args.bytes.now c.args.entries.now (sym c.in_default.ensures.row)
          (covered-is c.args.bytes.now c.args.entries.now c.first_untiled.new.marks size owners ∙ sym c.if-not-are_marked.ensures),
      tt,
    )
