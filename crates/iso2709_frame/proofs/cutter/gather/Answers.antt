use Rattle.std.proofs.Common.{◌≡◌, ◌<◌, ◌≤◌, nat_lt, ◌++◌, length, sym, ◌∙◌, ap, arith, length-append}
use Rattle.std.proofs.lemmas.Bool.{or_right, or_from, lt-ltb, le-ltb}
use Rattle.iso2709_frame.specs.Frames.{skip_breaks}
use Rattle.iso2709_frame.proofs.cutter.gather.Goals as goal

pub returns-then-len-part-clause-overfull : goal.returns-then-len-part-clause-overfull
returns-then-len-part-clause-overfull c =
    let text = skip_breaks (c.args.held.now.items ++ c.args.part.now) in
    let joined : c.args.held.now.items ++ c.kept_part-part.result.now ≡ text
    = ap (λ h. h ++ c.kept_part-part.result.now) (sym c.as_slice.ensures.value)
    ∙ (c.kept_part-part.ensures ∙ ap (λ h. skip_breaks (h ++ c.args.part.now)) c.as_slice.ensures.value) in
    let long : 99999 < length text
    = omega (arith, ap length joined, length-append c.args.held.now.items c.kept_part-part.result.now, c.if-len-part.true) in
    sym (or_right c.args.overfull (nat_lt 99999 (length text)) (lt-ltb 99999 (length text) long))

pub returns-clause-overfull : goal.returns-clause-overfull
returns-clause-overfull c =
    let text = skip_breaks (c.args.held.now.items ++ c.args.part.now) in
    let joined : c.args.held.now.items ++ c.kept_part-part.result.now ≡ text
    = ap (λ h. h ++ c.kept_part-part.result.now) (sym c.as_slice.ensures.value) ∙ (c.kept_part-part.ensures ∙ ap (λ h. skip_breaks (h ++ c.args.part.now)) c.as_slice.ensures.value) in
    let fits : length text ≤ 99999 = omega (arith, ap length joined, length-append c.args.held.now.items c.kept_part-part.result.now) in
    sym (or_from c.args.overfull (nat_lt 99999 (length text)) c.if-overfull.false (le-ltb 99999 (length text) fits))
