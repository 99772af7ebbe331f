use Rattle.std.proofs.Common.{◌≡◌, ap, ◌∙◌, sym, subst}
use Rattle.std.specs.FinMap.{get}
use Rattle.authority_names.specs.Names.{authority, has_variant}
use Rattle.authority_names.specs.Leads.{AreTexts, lead_of}
use Rattle.authority_names.specs.Places.{table_of}
use Rattle.authority_names.proofs.NameLaws.{after_established, after_variants, lead_more}
use Rattle.authority_names.proofs.TextLaws.{texts-established, texts-led}
use Rattle.authority_names.proofs.name_table.NameTable.take.Goals as goal

pub returns-clause-added : goal.returns-clause-added
returns-clause-added c = λ records is x.
    let r = authority c.args.established c.args.variants.items in
    let before : get (table_of c.self.inside.headings.entries) x ≡ lead_of records x = ap (λ t. get t x) c.self.view_is ∙ is x in
    let same : get (table_of c.reserve.new.self.entries) x ≡ lead_of records x = ap (λ es. get (table_of es) x) c.in_ok-reserve.ensures.entries ∙ before in
    c.lead_all.ensures.table c.args.established c.establish-place.ensures.place x
    ∙ ap (after_variants (has_variant x r) c.args.established) (c.establish-place.ensures.table x ∙ ap (after_established c.args.established x) same)
    ∙ sym (lead_more records r x)

pub invariant_of-self-2 : goal.invariant_of-self-2
invariant_of-self-2 c =
    let before : AreTexts (table_of c.reserve.new.self.entries) = subst (λ es. AreTexts (table_of es)) (sym c.in_ok-reserve.ensures.entries) c.self.invariant.1 in
    let placed : AreTexts (table_of c.establish-place.new.headings.entries) =
    texts-established c.args.established (table_of c.reserve.new.self.entries) (table_of c.establish-place.new.headings.entries) before c.establish-place.ensures.table in (
      c.lead_all.ensures.places,
      texts-led c.args.variants.items c.args.established (table_of c.establish-place.new.headings.entries) (table_of c.lead_all.new.headings.entries) placed c.requires
          (c.lead_all.ensures.table c.args.established c.establish-place.ensures.place),
    )
