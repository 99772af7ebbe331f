use Rattle.std.proofs.Common.{◌≡◌}
use Rattle.std.specs.List.{list_any}
use Rattle.union_base.specs.SortedLists.{has}
use Rattle.match_features.specs.Kept.{texts_cmp}
use Rattle.record_features.specs.Gathering.{isbn_in}
use Rattle.edition_sources.proofs.giving_fields.have_isbn.Given as goal

-- the subfields that are left decide
abbrev pub invariant-loop-subfield : goal.invariant-loop-subfield
invariant-loop-subfield l =
    list_any (λ s. has texts_cmp (isbn_in s) l.wanted) l.fn.subfields ≡ list_any (λ s. has texts_cmp (isbn_in s) l.wanted) l.subfield-iterator
