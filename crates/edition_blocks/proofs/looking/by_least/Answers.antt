use Rattle.std.proofs.Common.{◌≡◌, Bor, map, rules}
use Rattle.std.specs.Ordering.{is_lt}
use Rattle.std.proofs.lemmas.List.MinMax.{ranks_by}
use Rattle.std.proofs.lemmas.List.Sorted.{IsPermutation-map, answers_always}
use Rattle.std.proofs.lemmas.Result.{IfOk-weaker}
use Rattle.field_merge.specs.KeptLaws.{id_total}
use Rattle.catalogue_editions.specs.Ids.{least, edition_cmp}
use Rattle.catalogue_editions.specs.declared.edition.Edition.{Edition}
use Rattle.edition_blocks.specs.declared.looking.Named.{Named}
use Rattle.edition_blocks.proofs.LookingLaws.{sorted-editions}
use Rattle.edition_blocks.proofs.looking.by_least.Goals as goal

pub returns-clause-same : goal.returns-clause-same
returns-clause-same c =
    let all = c.sort_by.new.self.items in
    let named = rw c.as_slice.ensures.value at c.in_ok-all.ensures in
    let moved = rw named at (IsPermutation-map (λ (n : Named). n.edition.now) c.in_ok-all.all.items all c.in_ok-sort_by.ensures.permutation) in
    IfOk-weaker c.editions_of.result (λ sorted. map (λ (e : Bor Edition). e.now) sorted.items ≡ map (λ (n : Named). n.edition.now) all) _
    (λ sorted is. rw is moved)
    (rw c.as_slice-2.ensures.value at c.editions_of.ensures)

pub returns-clause-ascending : goal.returns-clause-ascending
returns-clause-ascending c =
    let all = c.sort_by.new.self.items in
    let up = sorted-editions (λ (n : Named). n.edition.now) all
    (c.in_ok-sort_by.ensures.sorted (λ a b. is_lt (edition_cmp a.edition.now b.edition.now)) (ranks_by id_total (λ (n : Named). least n.edition.now))
    (answers_always _ _ _ (λ f a r q k. search rules))) in
    IfOk-weaker c.editions_of.result (λ sorted. map (λ (e : Bor Edition). e.now) sorted.items ≡ map (λ (n : Named). n.edition.now) all) _
    (λ sorted is. rw is up)
    (rw c.as_slice-2.ensures.value at c.editions_of.ensures)
