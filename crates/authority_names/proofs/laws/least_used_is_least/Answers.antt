use Rattle.std.specs.Prelude.{map}
use Rattle.workset_keys.specs.Names.{name_of}
use Rattle.authority_names.specs.Leads.{used_for}
use Rattle.authority_names.proofs.laws.least_used_is_least.Goals as goal

pub returns : goal.returns
returns c table fields = c.least_name_is_least.ensures.names (map (λ f. used_for table (name_of f)) fields)
