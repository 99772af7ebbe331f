use Rattle.authority_names.proofs.NameLaws.{name_in_order, table_in_order}
use Rattle.authority_names.proofs.laws.any_order.Goals as goal

pub returns-clause-names : goal.returns-clause-names
returns-clause-names c = name_in_order

pub returns-clause-tables : goal.returns-clause-tables
returns-clause-tables c = table_in_order
