use Rattle.std.proofs.Common.{◌≡◌, ◌+◌, ◌-◌, ◌<◌, ◌≤◌, ◌++◌, ◌∙◌, Bor, map, take, drop, refl, ap, arith}
use Rattle.union_base.specs.declared.field.Field.{Field}
use Rattle.marc_fields.proofs.AppendingLaws.{length-stored, seen-at, seen-below, short-at}
use Rattle.marc_fields.specs.Spelling.{longest_frame}
use Rattle.catalogue_export.specs.Fitting.{fitting_in, frame_rest, taken_by}
use Rattle.catalogue_export.proofs.FittingLaws.{fitting_in-stops, fitting_in-steps}
use Rattle.catalogue_export.proofs.fitting.fitting_count.Goals as goal

pub returns-then-taken-left-clause-fitting : goal.returns-then-taken-left-clause-fitting
returns-then-taken-left-clause-fitting c =
    let see = λ (f : Bor Field). f.now in
    let fields = map see c.args.fields.now in
    let i = c.loop-count.count in
    let f = c.index-fields-count.result.now in
    let below = seen-below see c.args.fields.now i c.loop-count-test.true in
    let is = seen-at see c.args.fields.now i c.index-fields-count.result f c.loop-count-test.true c.index-fields-count.is refl in
    let small = short-at fields i f c.requires below is in
    let over : c.loop-count.left < taken_by f
    = omega (arith, c.if-taken-left.true, c.stored_size-taken.ensures, small, length-stored f) in
    fitting_in-stops (longest_frame - frame_rest) c.loop-count.left i fields f below is c.loop-count.invariant over

pub loop-count-preserved : goal.loop-count-preserved
loop-count-preserved c =
    let see = λ (f : Bor Field). f.now in
    let fields = map see c.args.fields.now in
    let i = c.loop-count.count in
    let left = c.loop-count.left in
    let f = c.index-fields-count.result.now in
    let below = seen-below see c.args.fields.now i c.loop-count-test.true in
    let is = seen-at see c.args.fields.now i c.index-fields-count.result f c.loop-count-test.true c.index-fields-count.is refl in
    let small = short-at fields i f c.requires below is in
    let size : taken_by f ≡ 12 + c.stored_size-taken.result = omega (arith, c.stored_size-taken.ensures, small, length-stored f) in
    let fits : taken_by f ≤ left = omega (arith, c.if-taken-left.false, size) in
    fitting_in-steps (longest_frame - frame_rest) left i fields f below is c.loop-count.invariant fits
    ∙ ap (λ taken. take (i + 1) fields ++ fitting_in (left - taken) (drop (i + 1) fields)) size
