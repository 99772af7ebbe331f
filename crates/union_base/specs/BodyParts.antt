-- What parts a content has.
use Rattle.std.specs.Prelude.{◌≡◌}
use Rattle.union_base.specs.Bodies.{Body, Control, Data}
use Rattle.union_base.specs.declared.body.Parts.{Parts}
use Rattle.union_base.specs.declared.body.Parts.TheVariants.{Control as ControlParts, Data as DataParts}

-- the parts are those of the content
abbrev pub ArePartsOf : Body → Parts → Type 0
ArePartsOf body (ControlParts text) = body ≡ Control text.now
ArePartsOf body (DataParts ind1 ind2 subfields) = body ≡ Data ind1 ind2 subfields
