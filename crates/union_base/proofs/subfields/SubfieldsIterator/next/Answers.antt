use Rattle.std.proofs.Common.{◌≡◌, ◌∙◌, ◌-◌, sym, ap, take, drop, length, arith}
use Rattle.std.proofs.lemmas.List.{take_all, length-drop}
use Rattle.union_base.specs.Readings.{subfields_in}
use Rattle.union_base.proofs.SubfieldLaws.{no_single, first_subfield}
use Rattle.union_base.proofs.subfields.SubfieldsIterator.next.Goals as goal

pub returns-in_default-clause-steps : goal.returns-in_default-clause-steps
returns-in_default-clause-steps c =
    let none = sym c.self.view_is ∙ ap subfields_in (no_single c.self.inside.rest.now c.in_default.len_below c.self.invariant) in
    (none, none)

pub invariant_of-self : goal.invariant_of-self
invariant_of-self c =
    let bytes = c.self.inside.rest.now in
    let behind : take (length bytes - 2) (drop 2 bytes) ≡ drop 2 bytes = take_all _ _ (omega (arith, length-drop 2 bytes)) in
    (first_subfield bytes _ c.split_at.result.0.now c.split_at.result.1.now c.undelimited_size.result c.in-len2-up.len_at_least c.self.invariant behind
    c.undelimited_size.ensures.before c.undelimited_size.ensures.behind c.split_at.ensures.front c.split_at.ensures.back).1

pub returns-clause-steps : goal.returns-clause-steps
returns-clause-steps c =
    let bytes = c.self.inside.rest.now in
    let behind : take (length bytes - 2) (drop 2 bytes) ≡ drop 2 bytes = take_all _ _ (omega (arith, length-drop 2 bytes)) in
    sym c.self.view_is ∙ (first_subfield bytes _ c.split_at.result.0.now c.split_at.result.1.now c.undelimited_size.result c.in-len2-up.len_at_least c.self.invariant behind
    c.undelimited_size.ensures.before c.undelimited_size.ensures.behind c.split_at.ensures.front c.split_at.ensures.back).0

pub returns-clause-goes : goal.returns-clause-goes
returns-clause-goes c =
    let steps = returns-clause-steps c in
    let size = ap length steps in
    record { on = λ _. (tt, tt, omega (arith, size)); keeps = tt; rests = λ _. tt }
