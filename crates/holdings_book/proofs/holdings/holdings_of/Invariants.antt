use Rattle.std.proofs.Common.{◌≡◌, take}
use Rattle.holdings_book.specs.Holdings.{holdings_of}
use Rattle.holdings_book.proofs.holdings.holdings_of.Given as goal

abbrev pub invariant-loop-field : goal.invariant-loop-field
invariant-loop-field l = l.holdings.items ≡ holdings_of l.id (take l.field-index l.fields)
