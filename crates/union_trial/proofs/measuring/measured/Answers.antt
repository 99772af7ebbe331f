use Rattle.std.proofs.Common.{length, ap, ◌∙◌}
use Rattle.catalogue_core.proofs.SameEditions.{same_editions_of}
use Rattle.catalogue_core.specs.EditionKeys.{work_pairs}
use Rattle.work_clusters.specs.Works.{works_of}
use Rattle.union_trial.proofs.measuring.measured.Goals as goal

pub returns : goal.returns
returns c =
    let history = c.args.catalogue.now.history in
    let sized = c.in_ok-bytes.ensures in
    let counted = c.edition_count.ensures in
    let worked = c.in_ok-works.ensures in
    record {
      all = sized.0;
      are = sized.1;
      records = c.record_count.ensures;
      editions = counted.2 ∙ ap length (same_editions_of history counted.0 sized.0 counted.1 sized.1);
      works = worked.2 ∙ ap (λ all. length (works_of (work_pairs c.args.catalogue.now.names all))) (same_editions_of history worked.0 sized.0 worked.1 sized.1);
      bytes = sized.2;
    }
