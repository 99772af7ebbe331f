use Rattle.gathered_catalogue.proofs.gathering.resolved_in_order.Goals as goal

pub returns : goal.returns
returns g c =
    c.sorted_resolution_is_ordered.ensures c.args.records.items c.in_ok-resolved.resolved.items c.in_ok-editions.editions.items c.in_ok-resolved.ensures
    c.in_ok-editions.ensures.same c.in_ok-editions.ensures.ascending
