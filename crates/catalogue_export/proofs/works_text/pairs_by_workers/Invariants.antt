use Rattle.std.proofs.Common.{◌≡◌, ◌++◌, Bor, List, map}
use Rattle.catalogue_editions.specs.declared.edition.Edition.{Edition}
use Rattle.record_editions.specs.EditionKeys.{work_pairs}
use Rattle.catalogue_export.proofs.ShareLaws.{AreShares}
use Rattle.catalogue_export.proofs.works_text.pairs_by_workers.Given as goal

-- the pairs of all editions but the rest were made, and the shares to come are those of the rest
abbrev pub invariant-loop-made : goal.invariant-loop-made
invariant-loop-made g l =
    (rest : List (Bor Edition)) × AreShares l.size (λ es part. part.items ≡ work_pairs l.names (map (λ (e : Bor Edition). e.now) es)) rest l.made-iterator.rest.items
    × (l.pairs.items ++ work_pairs l.names (map (λ (e : Bor Edition). e.now) rest) ≡ work_pairs l.names (map (λ (e : Bor Edition). e.now) l.editions))
