use Rattle.std.proofs.Common.{◌≤◌, ◌+◌, Bor, length, map, sym, ap, ◌∙◌, arith}
use Rattle.std.proofs.lemmas.List.{take_all, length-map}
use Rattle.catalogue_editions.specs.declared.edition.Edition.{Edition}
use Rattle.catalogue_export.specs.Editions.{export_text}
use Rattle.catalogue_export.proofs.AroundLaws.{seen-at}
use Rattle.union_trial.proofs.SizeLaws.{size-more}
use Rattle.union_trial.proofs.measuring.records_size.Goals as goal

pub loop-edition-preserved : goal.loop-edition-preserved
loop-edition-preserved c =
    let before = c.loop-edition.invariant in
    let all = map (λ (e : Bor Edition). e.now) c.args.editions.now in
    let place = c.loop-edition.edition-index in
    let at = seen-at c.args.editions.now place c.edition-item.result c.loop-edition-test.true c.edition-item.is in
    let bound = c.in_ok-size.ensures.bound in
    record {
      sized = (λ i. before.sized i + c.in_ok-size.ensures.value i) ∙ sym (size-more c.args.catalogue.now.names all place c.edition-item.result.now at);
      within = omega (arith, before.within, bound);
    }

pub returns : goal.returns
returns c =
    let all = map (λ (e : Bor Edition). e.now) c.args.editions.now in
    let past : length all ≤ c.loop-edition.edition-index = omega (arith, length-map c.args.editions.now (λ (e : Bor Edition). e.now), c.loop-edition-test.false) in
    c.loop-edition.invariant.sized ∙ ap (λ es. length (export_text c.args.catalogue.now.names es)) (take_all c.loop-edition.edition-index all past)
