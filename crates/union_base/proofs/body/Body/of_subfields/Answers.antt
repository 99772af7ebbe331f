use Rattle.std.proofs.Common.{◌≡◌, ◌∙◌, sym, ap, arith}
use Rattle.std.proofs.lemmas.List.{take_all}
use Rattle.union_base.specs.Bodies.{Data}
use Rattle.union_base.specs.Fields.{spelled}
use Rattle.union_base.specs.Readings.{body_in}
use Rattle.union_base.proofs.ReadingLaws.{body_in-data}
use Rattle.union_base.proofs.body.Body.of_subfields.Goals as goal

pub spelled_by-requires : goal.spelled_by-requires
spelled_by-requires c =
    let all = take_all c.loop-subfield.subfield-index c.args.subfields.now (omega arith) in
    let bytes : c.from.result ≡ spelled (Data c.args.ind1 c.args.ind2 c.args.subfields.now)
    = c.from.ensures ∙ (c.loop-subfield.invariant ∙ ap (λ ss. spelled (Data c.args.ind1 c.args.ind2 ss)) all) in
    ap (λ b. spelled (body_in b)) bytes ∙ (ap spelled (body_in-data c.args.ind1 c.args.ind2 c.args.subfields.now c.requires.some c.requires.formed) ∙ sym bytes)

pub returns : goal.returns
returns c =
    let all = take_all c.loop-subfield.subfield-index c.args.subfields.now (omega arith) in
    let bytes : c.from.result ≡ spelled (Data c.args.ind1 c.args.ind2 c.args.subfields.now)
    = c.from.ensures ∙ (c.loop-subfield.invariant ∙ ap (λ ss. spelled (Data c.args.ind1 c.args.ind2 ss)) all) in
    c.spelled_by.ensures ∙ (ap body_in bytes ∙ body_in-data c.args.ind1 c.args.ind2 c.args.subfields.now c.requires.some c.requires.formed)
