-- Borrowed fields that were added to others.
use Rattle.std.proofs.Common.{◌≡◌, ◌∙◌, ◌++◌, Bor, List, ap}
use Rattle.std.proofs.lemmas.List.{map-append}
use Rattle.union_base.specs.declared.field.Field.{Field}
use Rattle.catalogue_editions.specs.Borrowed.{fields_of}

pub added : (old more new : List (Bor Field)) → new ≡ old ++ more → fields_of new ≡ fields_of old ++ fields_of more
added old more new is = ap fields_of is ∙ map-append (λ (f : Bor Field). f.now) old more
