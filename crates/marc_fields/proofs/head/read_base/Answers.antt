use Rattle.std.proofs.Common.{◌∙◌, sym, ap}
use Rattle.marc_leader.specs.Leader.{base_place}
use Rattle.marc_leader.specs.Numeral.{are_digits}
use Rattle.marc_fields.specs.Rules.{is_base, base_in}
use Rattle.marc_fields.proofs.FrontLaws.{some_if, none_of_both}
use Rattle.marc_fields.proofs.head.read_base.Goals as goal

pub returns-else-is_base_of : goal.returns-else-is_base_of
returns-else-is_base_of c =
    let base = some_if _ _ c.in_ok-base.field-0 c.in_ok-base.ensures.value in
    none_of_both (are_digits (base_place c.args.leader.now)) (is_base (base_in c.args.leader.now) c.args.frame.now) (base_in c.args.leader.now)
    (sym (c.if-is_base_of.ensures ∙ ap (λ n. is_base n c.args.frame.now) base.1))
