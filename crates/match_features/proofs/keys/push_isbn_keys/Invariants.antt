use Rattle.std.proofs.Common.{◌≡◌, ◌++◌, map, take}
use Rattle.match_features.specs.declared.keys.FeatureKey.TheVariants.{Isbn}
use Rattle.match_features.proofs.keys.push_isbn_keys.Given as goal

abbrev pub invariant-loop-isbn : goal.invariant-loop-isbn
invariant-loop-isbn l = l.found.items ≡ l.initial.found.items ++ map Isbn (take l.isbn-index l.isbns)
