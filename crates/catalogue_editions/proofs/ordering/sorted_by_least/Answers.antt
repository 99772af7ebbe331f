use Rattle.std.proofs.Common.{rules}
use Rattle.std.specs.Ordering.{is_lt}
use Rattle.std.proofs.lemmas.List.MinMax.{ranks_by}
use Rattle.std.proofs.lemmas.List.Sorted.{answers_always}
use Rattle.field_merge.specs.KeptLaws.{id_total}
use Rattle.catalogue_editions.specs.Ids.{least, edition_cmp}
use Rattle.catalogue_editions.proofs.ordering.sorted_by_least.Goals as goal

pub returns-clause-ascending : goal.returns-clause-ascending
returns-clause-ascending c =
    c.in_ok-sort_by.ensures.sorted (λ a b. is_lt (edition_cmp a b)) (ranks_by id_total least)
    (answers_always _ _ _ (λ f a r q k. search rules))
