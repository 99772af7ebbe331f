use Rattle.std.proofs.Common.{◌≡◌, ◌-◌, ◌&&◌, ◌||◌, ◌∙◌, Bool, true, false, not, drop, get_or, sym, refl, ap, arith}
use Rattle.std.specs.Prelude.{◌==◌}
use Rattle.union_base.specs.Fields.{is_subfield_code}
use Rattle.marc_fields.specs.Shapes.{are_coded}
use Rattle.marc_fields.proofs.ShapeLaws.{coded-step}
use Rattle.marc_fields.proofs.shape.have_codes.Goals as goal

-- no byte so far lacks a code, nor does the next one
joined : (so_far now rest : Bool) → (not so_far && (not now && rest)) ≡ (not (so_far || now) && rest)
joined true now rest = refl
joined false now rest = refl

pub loop-at-preserved : goal.loop-at-preserved
loop-at-preserved c =
    let bytes = c.args.bytes.now in
    let at = c.loop-at.at in
    let lacks : Bool = (get_or bytes (at - 1) 0 == 0x1F) && not (is_subfield_code (get_or bytes at 0)) in
    c.loop-at.invariant
    ∙ (ap (λ b. not c.loop-at.lacking && b) (coded-step bytes at c.loop-at.auto.at c.loop-at-test.true)
    ∙ (joined c.loop-at.lacking lacks (are_coded (drop at bytes))
    ∙ (ap (λ b. not (c.loop-at.lacking || b) && are_coded (drop at bytes)) (sym c.lacks_code-lacking.ensures)
    ∙ ap (λ n. not (c.loop-at.lacking || c.lacks_code-lacking.result) && are_coded (drop n bytes)) (omega arith))))
