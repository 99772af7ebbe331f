use Rattle.std.proofs.Common.{rules}
use Rattle.std.specs.Ordering.{is_lt}
use Rattle.std.proofs.lemmas.List.MinMax.{ranks_by}
use Rattle.std.proofs.lemmas.List.Sorted.{answers_always}
use Rattle.field_merge.specs.KeptLaws.{id_total}
use Rattle.catalogue_editions.specs.Ids.{least, edition_cmp}
use Rattle.edition_blocks.proofs.LookingLaws.{sorted-editions}
use Rattle.gathered_catalogue.specs.declared.sorting.Named.{Named}
use Rattle.gathered_catalogue.proofs.sorting.in_order.Goals as goal

pub returns-clause-ascending : goal.returns-clause-ascending
returns-clause-ascending c =
    sorted-editions (λ (n : Named). n.edition) c.sort_by.new.self.items
    (c.in_ok-sort_by.ensures.sorted (λ a b. is_lt (edition_cmp a.edition b.edition)) (ranks_by id_total (λ (n : Named). least n.edition))
    (answers_always _ _ _ (λ f a r q k. search rules)))
