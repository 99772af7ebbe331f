use Rattle.std.proofs.Common.{◌≡◌, Bor, take, map}
use Rattle.catalogue_core.specs.Ids.{least}
use Rattle.catalogue_editions.specs.declared.edition.Edition.{Edition}
use Rattle.catalogue_query.specs.Lines.{edition_line}
use Rattle.catalogue_query.proofs.answering.lines_with_key.Given as goal

abbrev pub invariant-loop-edition : goal.invariant-loop-edition
invariant-loop-edition l = l.lines.items ≡ map (λ (e : Bor Edition). edition_line (least e.now)) (take l.edition-index l.edition-items)
