use Rattle.std.proofs.Common.{◌≡◌, sym, ap, ◌∙◌}
use Rattle.std.specs.Prelude.{Some, None, option_copied}
use Rattle.swoosh_resolver.proofs.Places.{block-from_value, none-from_value, IfNone-always}
use Rattle.swoosh_resolver.specs.Changes.{without}
use Rattle.swoosh_resolver.specs.Tables.{block_at}
use Rattle.turn_plans.specs.Histories.{at_id}
use Rattle.record_homes.specs.declared.home.Home.{Home}
use Rattle.turn_plans.proofs.Housing.{kept-found, kept-none, same-some}
use Rattle.turn_plans.proofs.steps.kept_holder.Goals as goal

pub returns-in_err-home-clause-none : goal.returns-in_err-home-clause-none
returns-in_err-home-clause-none c =
    IfNone-always c.from_residual.result _
    (kept-none c.requires c.args.change.now.closed.items c.args.id.now
    (λ home at.
    let nothing : at_id c.args.homes.now.entries c.args.id.now ≡ None = sym c.get.ensures ∙ c.in_err-home.was in
    cc))

pub returns-in-Some-clause-found : goal.returns-in-Some-clause-found
returns-in-Some-clause-found c =
    let at : at_id c.args.homes.now.entries c.args.id.now ≡ Some c.in_ok-home.home = sym c.get.ensures ∙ c.in_ok-home.was in
    let (e, stands, is) = block-from_value _ c.in-Some.field-0.now (sym (ap option_copied c.in-Some.is) ∙ c.member.ensures.value) in
    (e, stands, kept-found c.requires c.args.change.now.closed.items c.args.id.now c.in_ok-home.home e at stands)

pub returns-in-None-clause-none : goal.returns-in-None-clause-none
returns-in-None-clause-none c =
    let at : at_id c.args.homes.now.entries c.args.id.now ≡ Some c.in_ok-home.home = sym c.get.ensures ∙ c.in_ok-home.was in
    let gone = none-from_value _ (sym (ap option_copied c.in-None.is) ∙ c.member.ensures.value) in
    kept-none c.requires c.args.change.now.closed.items c.args.id.now
    (λ home there.
    let is : c.in_ok-home.home ≡ home = same-some (at_id c.args.homes.now.entries c.args.id.now) c.in_ok-home.home home at there in
    ap (λ (h : Home). block_at (without c.args.blocks.now.blocks c.args.change.now.closed.items) h.block) (sym is) ∙ gone)
