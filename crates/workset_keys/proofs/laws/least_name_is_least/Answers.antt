use Rattle.std.specs.Prelude.{map}
use Rattle.workset_keys.specs.Names.{name_of}
use Rattle.workset_keys.proofs.LeastLaws.{least-of}
use Rattle.workset_keys.proofs.laws.least_name_is_least.Goals as goal

pub returns-clause-names : goal.returns-clause-names
returns-clause-names c = least-of

pub returns-clause-entries : goal.returns-clause-entries
returns-clause-entries c fields = least-of (map name_of fields)
