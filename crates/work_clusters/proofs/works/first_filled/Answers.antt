use Rattle.std.proofs.Common.{rules, tests, refl, sym, ap, ◌∙◌}
use Rattle.std.specs.Option.{option_map}
use Rattle.std.specs.Map.Iter.{deref_pair}
use Rattle.std.proofs.lemmas.Iterator.Consumers.{YieldsList-from_rest}
use Rattle.std.proofs.lemmas.Iterator.Search.{find_from_yields_List}
use Rattle.work_clusters.specs.Works.{some}
use Rattle.work_clusters.proofs.works.first_filled.Goals as goal

pub returns-in-Some : goal.returns-in-Some
returns-in-Some c =
    ap (option_map (λ row. row.0)) (sym (ap (option_map deref_pair) c.in-Some.is) ∙ find_from_yields_List (λ row. some row.1.ids) _ _ c.find.result c.find.ensures.ran (YieldsList-from_rest c.args.rows refl) (λ x b q k. search (rules, tests)))

pub returns-in-None : goal.returns-in-None
returns-in-None c =
    ap (option_map (λ row. row.0)) (sym (ap (option_map deref_pair) c.in-None.is) ∙ find_from_yields_List (λ row. some row.1.ids) _ _ c.find.result c.find.ensures.ran (YieldsList-from_rest c.args.rows refl) (λ x b q k. search (rules, tests)))
