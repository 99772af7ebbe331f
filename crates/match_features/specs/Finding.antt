-- Which features an index finds for others: those that it has under a key which the others seek, whether the two meet or not.
use Rattle.std.specs.Prelude.{Bool, not, ◌&&◌, ◌||◌}
use Rattle.union_base.specs.SortedLists.{have_common}
use Rattle.match_features.specs.declared.features.Features.{Features}
use Rattle.match_features.specs.Kept.{texts_cmp, pairs_cmp}
use Rattle.match_features.specs.Posted.{has_few}

-- some date and some name are common, or one of the two has many triples of a title, a date and a name
abbrev pub are_told_together : Features → Features → Bool
are_told_together x y =
    not (has_few x && has_few y) || (have_common texts_cmp x.dates y.dates && have_common texts_cmp x.names y.names)

-- x is found for y by a control number, an ISBN or an ISSN that is common to both, or by a common title: where both have few
-- triples only together with a date and a name
abbrev pub is_found_for : Features → Features → Bool
is_found_for x y =
    have_common pairs_cmp x.control y.control
    || have_common texts_cmp x.isbns y.isbns
    || have_common texts_cmp x.issns y.issns
    || (have_common texts_cmp x.titles y.titles && are_told_together x y)
