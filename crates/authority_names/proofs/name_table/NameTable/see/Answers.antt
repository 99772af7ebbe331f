use Rattle.std.proofs.Common.{[], ap, ◌∙◌, unwrap_or}
use Rattle.authority_names.specs.Leads.{seen_from}
use Rattle.authority_names.proofs.NameLaws.{name-from_table}
use Rattle.authority_names.proofs.name_table.NameTable.see.Goals as goal

pub returns-clause-means : goal.returns-clause-means
returns-clause-means c = λ records is.
    c.heading_from.ensures ∙ ap (λ t. seen_from t c.args.name.now) c.self.view_is ∙ ap (λ o. unwrap_or o []) (name-from_table c.args.self.now records is c.args.name.now)
