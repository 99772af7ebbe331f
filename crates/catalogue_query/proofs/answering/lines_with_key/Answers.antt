use Rattle.std.proofs.Common.{Bor, map, sym, ap, ◌∙◌, arith}
use Rattle.std.proofs.lemmas.List.{take_all}
use Rattle.std.proofs.lemmas.Simd.{map-map}
use Rattle.catalogue_core.specs.Ids.{least}
use Rattle.catalogue_editions.specs.declared.edition.Edition.{Edition}
use Rattle.catalogue_query.specs.Lines.{edition_line}
use Rattle.catalogue_query.proofs.answering.lines_with_key.Goals as goal

pub returns : goal.returns
returns c =
    let found = c.in_ok-editions.ensures in
    let seen = c.deref-edition-items.result.now in
    let line = λ (e : Bor Edition). edition_line (least e.now) in (
      found.0,
      found.1,
      c.loop-edition.invariant
          ∙ ap (map line) (take_all c.loop-edition.edition-index seen (omega arith) ∙ c.deref-edition-items.ensures.value)
          ∙ sym (map-map (λ e. edition_line (least e)) (λ (e : Bor Edition). e.now) c.in_ok-editions.editions.items)
          ∙ ap (map (λ e. edition_line (least e))) found.2,
    )
