use Rattle.std.proofs.Common.{◌≡◌, List, sym, ap, subst, ◌∙◌}
use Rattle.std.specs.Prelude.{IfOk}
use Rattle.catalogue_core.specs.Catalogues.{CatalogueValue}
use Rattle.catalogue_core.specs.Histories.{current, AreEditionsOf}
use Rattle.catalogue_editions.specs.declared.edition.Edition.{Edition}
use Rattle.catalogue_query.specs.Answers.{answer_lines}
use Rattle.gathered_catalogue.specs.Engines.{value_of}
use Rattle.load_sessions.proofs.served.answer_of.Goals as goal

pub returns-in_ok-catalogue-in-Gathered : goal.returns-in_ok-catalogue-in-Gathered
returns-in_ok-catalogue-in-Gathered c =
    let same : c.in_ok-catalogue-in-Gathered.catalogue ≡ c.args.engine.now =
    c.in_ok-catalogue-in-Gathered.ensures ∙ (sym (ap value_of c.in-Gathered.is) ∙ c.kind.ensures) in
    subst (λ (v : CatalogueValue). IfOk c.answer-in-Gathered.result (λ found. (all : List Edition) × AreEditionsOf v.history all
    × (found.lines ≡ answer_lines v.names c.args.query.now (current v.history) all)))
    same c.answer-in-Gathered.ensures
