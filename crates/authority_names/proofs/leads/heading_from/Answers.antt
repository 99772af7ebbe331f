use Rattle.std.proofs.Common.{Some, ap, sym, ◌∙◌}
use Rattle.std.specs.Option.{option_copied}
use Rattle.authority_names.specs.declared.leads.Lead.TheVariants.{To}
use Rattle.authority_names.proofs.TableLaws.{seen_place, seen_nowhere, seen_unknown}
use Rattle.authority_names.proofs.leads.heading_from.Goals as goal

pub heading_at-requires : goal.heading_at-requires
heading_at-requires c =
    c.requires c.args.name.now (To c.in-Some-To.place) (sym c.get.ensures.value ∙ ap option_copied c.in-Some-To.is ∙ ap Some c.in-Some-To.field-0-is)

pub returns-in-Some-To : goal.returns-in-Some-To
returns-in-Some-To c =
    sym (seen_place c.args.headings.now.entries c.args.name.now c.in-Some-To.place c.heading_at.result.now
    (sym c.get.ensures.value ∙ ap option_copied c.in-Some-To.is ∙ ap Some c.in-Some-To.field-0-is) c.heading_at.ensures)

pub returns-in-Some-Nowhere : goal.returns-in-Some-Nowhere
returns-in-Some-Nowhere c =
    sym (seen_nowhere c.args.headings.now.entries c.args.name.now (sym c.get.ensures.value ∙ ap option_copied c.in-Some-Nowhere.is ∙ ap Some c.in-Some-Nowhere.field-0-is))

pub returns-in-None : goal.returns-in-None
returns-in-None c = sym (seen_unknown c.args.headings.now.entries c.args.name.now (sym c.get.ensures.value ∙ ap option_copied c.in-None.is))
