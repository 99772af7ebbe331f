use Rattle.catalogue_core.proofs.NamedLaws.{kept-nothing}
use Rattle.catalogue_core.proofs.catalogue.Catalogue.with_names.Goals as goal

pub invariant_of-result : goal.invariant_of-result
invariant_of-result c = rw (c.new.ensures.items, c.new-2.ensures, c.empty.ensures) (kept-nothing c.args.names)
