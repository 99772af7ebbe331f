use Rattle.std.proofs.Common.{◌≡◌, take}
use Rattle.std.specs.List.{flat_map}
use Rattle.catalogue_export.specs.Holdings.{holdings_in, holding_fields}
use Rattle.catalogue_export.specs.Owners.{record_fields}
use Rattle.catalogue_export.proofs.holdings.holdings_of.Given as goal

-- the holdings so far have the fields of the ids so far
abbrev pub invariant-loop-id : goal.invariant-loop-id
invariant-loop-id l = flat_map holding_fields (holdings_in l.holdings.items) ≡ flat_map (record_fields l.records) (take l.id-index l.ids)
