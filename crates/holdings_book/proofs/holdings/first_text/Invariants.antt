use Rattle.std.proofs.Common.{◌≡◌}
use Rattle.holdings_book.specs.Holdings.{first_text}
use Rattle.holdings_book.proofs.holdings.first_text.Given as goal

-- the subfields that are left decide
abbrev pub invariant-loop-subfield : goal.invariant-loop-subfield
invariant-loop-subfield l = first_text l.code l.fn.subfields ≡ first_text l.code l.subfield-iterator
