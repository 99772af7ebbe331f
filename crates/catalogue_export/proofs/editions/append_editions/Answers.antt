use Rattle.std.proofs.Common.{◌++◌, ◌≤◌, Bor, map, take, length, sym, ap, ◌∙◌, append-nil, append_assoc, arith}
use Rattle.std.specs.List.{flat_map}
use Rattle.std.proofs.lemmas.List.{take_all, length-map}
use Rattle.catalogue_core.proofs.WalkLaws.{told-more}
use Rattle.catalogue_editions.specs.declared.edition.Edition.{Edition}
use Rattle.catalogue_export.specs.Editions.{noted}
use Rattle.catalogue_export.specs.Sources.{left_of_one}
use Rattle.catalogue_export.proofs.AroundLaws.{seen-at}
use Rattle.catalogue_export.proofs.editions.append_editions.Goals as goal

pub loop-edition-init : goal.loop-edition-init
loop-edition-init g c = record { text = sym (append-nil c.args.into.now.items); left = sym (append-nil c.args.left.now.items) }

pub loop-edition-preserved : goal.loop-edition-preserved
loop-edition-preserved g c =
    let names = c.args.sources.now in
    let shown = g.F.ExportForm.shown names in
    let all = map (λ (e : Bor Edition). e.now) c.args.editions.now in
    let place = c.loop-edition.edition-index in
    let e = c.edition-item.result.now in
    let at = seen-at c.args.editions.now place c.edition-item.result c.loop-edition-test.true c.edition-item.is in
    record {
      text = c.in_ok-count.ensures.text ∙ ap (λ t. t ++ shown e) c.loop-edition.invariant.text ∙ append_assoc c.args.into.now.items (flat_map shown (take place all)) (shown e)
          ∙ ap (λ t. c.args.into.now.items ++ t) (sym (told-more shown all place e at));
      left = c.in_ok-note_left.ensures.noted ∙ ap (λ l. l ++ noted e c.in_ok-count.count) c.loop-edition.invariant.left
          ∙ append_assoc c.args.left.now.items (flat_map (left_of_one names) (take place all)) (noted e c.in_ok-count.count)
          ∙ ap (λ l. c.args.left.now.items ++ l) (ap (λ n. flat_map (left_of_one names) (take place all) ++ noted e n) c.in_ok-count.ensures.left
          ∙ sym (told-more (left_of_one names) all place e at));
    }

pub returns : goal.returns
returns g c =
    let names = c.args.sources.now in
    let all = map (λ (e : Bor Edition). e.now) c.args.editions.now in
    let past : length all ≤ c.loop-edition.edition-index = omega (arith, length-map c.args.editions.now (λ (e : Bor Edition). e.now), c.loop-edition-test.false) in
    let whole = take_all c.loop-edition.edition-index all past in
    record {
      text = c.loop-edition.invariant.text ∙ ap (λ es. c.args.into.now.items ++ flat_map (g.F.ExportForm.shown names) es) whole;
      left = c.loop-edition.invariant.left ∙ ap (λ es. c.args.left.now.items ++ flat_map (left_of_one names) es) whole;
    }
