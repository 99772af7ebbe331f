use Rattle.std.proofs.Common.{◌∙◌}
use Rattle.std.proofs.lemmas.Result.{IfOk-weaker}
use Rattle.field_merge.specs.MergingLaws.{join_laws}
use Rattle.catalogue_editions.proofs.contents.Contents.joined.Goals as goal

pub returns-then-content_count : goal.returns-then-content_count
returns-then-content_count c =
    IfOk-weaker c.with_fewer.result _ _ (λ _ made. made ∙ join_laws.commutative c.args.other.now c.args.self.now) c.with_fewer.ensures
