-- What features merge to: the union of each list.
use Rattle.union_base.specs.SortedLists.{union}
use Rattle.match_features.specs.declared.features.Features.{Features}
use Rattle.match_features.specs.Kept.{texts_cmp, pairs_cmp}
use Rattle.match_features.specs.KeptLaws.{kept_unions}

-- two records' features merged: the union of each list
abbrev pub join : Features → Features → Features
join x y = record {
  control = union pairs_cmp x.control y.control;
  types = union texts_cmp x.types y.types;
  isbns = union texts_cmp x.isbns y.isbns;
  issns = union texts_cmp x.issns y.issns;
  titles = union texts_cmp x.titles y.titles;
  dates = union texts_cmp x.dates y.dates;
  names = union texts_cmp x.names y.names;
  kept = kept_unions x.control y.control x.types y.types x.isbns y.isbns x.issns y.issns x.titles y.titles x.dates y.dates x.names y.names x.kept;
}
