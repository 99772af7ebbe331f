use Rattle.std.proofs.Common.{subst₂, sym}
use Rattle.authority_names.specs.Names.{IsSize, name_at}
use Rattle.authority_names.specs.Leads.{led_from}
use Rattle.authority_names.proofs.NameLaws.{name-from_table}
use Rattle.authority_names.proofs.TableLaws.{same_size, table_size}
use Rattle.authority_names.proofs.name_table.NameTable.pairs.Goals as goal

pub returns-clause-value : goal.returns-clause-value
returns-clause-value c =
    subst₂ (λ t n. IsSize (led_from t) n) c.self.view_is (sym c.how_many_lead.ensures.count)
    (table_size c.self.inside.headings.entries c.self.invariant.0 c.how_many_lead.ensures.unique)

pub returns-clause-means : goal.returns-clause-means
returns-clause-means c = λ records is.
    same_size (led_from c.args.self.now) (name_at records) (name-from_table c.args.self.now records is) c.how_many_lead.result
    (subst₂ (λ t n. IsSize (led_from t) n) c.self.view_is (sym c.how_many_lead.ensures.count)
    (table_size c.self.inside.headings.entries c.self.invariant.0 c.how_many_lead.ensures.unique))
