use Rattle.std.proofs.Common.{◌≡◌, ap, sym, ◌∙◌, length, arith}
use Rattle.union_base.specs.LibraryCodes.{is_library_code}
use Rattle.field_merge.specs.Preferences.{has_code}
use Rattle.field_merge.specs.PreferenceLaws.{filled_size}
use Rattle.field_merge.proofs.PreferredLaws.{read-is, double-more, preferred-more, filled-more}
use Rattle.field_merge.proofs.preference.Preference.add.Goals as goal

pub returns-then-contains-clause-answer : goal.returns-then-contains-clause-answer
returns-then-contains-clause-answer c =
    let is = read-is c.args.text.now c.in-Some.code (sym c.read.ensures ∙ c.in-Some.is) in
    sym (double-more c.args.self.now c.args.text.now
    (sym (λ i. has_code (c.codes.ensures.value i) (is.1 i)) ∙ sym c.contains.ensures.value ∙ c.if-contains.true))

pub invariant_of-self : goal.invariant_of-self
invariant_of-self c =
    let code = c.in-Some.code in
    let is = read-is c.args.text.now code (sym c.read.ensures ∙ c.in-Some.is) in
    filled-more c.self.inside.places c.self.inside.size code c.self.invariant (omega arith)
    (ap is_library_code is.1 ∙ is.0)
    (ap (λ codes. has_code codes code) (c.self.view_is ∙ sym c.codes.ensures.value) ∙ sym c.contains.ensures.value ∙ c.if-contains.false)

pub returns-clause-answer : goal.returns-clause-answer
returns-clause-answer c =
    let is = read-is c.args.text.now c.in-Some.code (sym c.read.ensures ∙ c.in-Some.is) in
    let size : length c.args.self.now ≡ c.self.inside.size =
    ap length (sym c.self.view_is) ∙ filled_size c.self.inside.places c.self.inside.size c.self.invariant in
    sym (preferred-more c.args.self.now c.args.text.now c.codes.ensures.preferred (omega (arith, size)) is.0
    (sym (λ i. has_code (c.codes.ensures.value i) (is.1 i)) ∙ sym c.contains.ensures.value ∙ c.if-contains.false))
