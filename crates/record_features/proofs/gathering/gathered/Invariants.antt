use Rattle.std.proofs.Common.{◌≡◌, ◌++◌, take}
use Rattle.std.specs.List.{flat_map}
use Rattle.record_features.specs.Gathering.{numbers_in, isbns_in, issns_in, title_in, name_in}
use Rattle.record_features.proofs.gathering.gathered.Given as goal

abbrev pub invariant-loop-field : goal.invariant-loop-field
invariant-loop-field l =
    (l.found.control.items ≡ l.fn.control.items ++ flat_map numbers_in (take l.field-index l.fields))
    × (l.found.isbns.items ≡ flat_map isbns_in (take l.field-index l.fields))
    × (l.found.issns.items ≡ flat_map issns_in (take l.field-index l.fields))
    × (l.found.titles.items ≡ flat_map title_in (take l.field-index l.fields))
    × (l.found.names.items ≡ flat_map name_in (take l.field-index l.fields))
