use Rattle.std.proofs.Common.{Bor, map, ap, ◌∙◌}
use Rattle.catalogue_editions.specs.declared.edition.Edition.{Edition}
use Rattle.union_trial.proofs.SizeLaws.{sized-whole}
use Rattle.union_trial.proofs.measuring.export_size.Goals as goal

pub returns : goal.returns
returns c =
    let (all, are, same) = c.in_ok-editions.ensures in
    sized-whole c.args.catalogue.now.names c.records_size.result c.args.catalogue.now.history all (map (λ (e : Bor Edition). e.now) c.as_slice.result.now) are
    (ap (map (λ (e : Bor Edition). e.now)) c.as_slice.ensures.value ∙ same) c.records_size.ensures
