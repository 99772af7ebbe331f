use Rattle.std.proofs.Common.{◌≡◌, ◌∷◌, take}
use Rattle.std.specs.List.{flat_map}
use Rattle.union_base.specs.Fields.{spelled_subfield}
use Rattle.union_base.proofs.body.Body.of_subfields.Given as goal

-- the indicators and the subfields so far are spelled
abbrev pub invariant-loop-subfield : goal.invariant-loop-subfield
invariant-loop-subfield l = l.spelling.items ≡ l.ind1 ∷ l.ind2 ∷ flat_map spelled_subfield (take l.subfield-index l.subfields)
