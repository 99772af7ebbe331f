use Rattle.std.proofs.Common.{◌∙◌, ap}
use Rattle.match_features.specs.Kept.{has_some}
use Rattle.edition_doubts.specs.Doubts.{doubts_of}
use Rattle.edition_doubts.proofs.steps.is_doubtful_step.Goals as goal

pub returns : goal.returns
returns c =
    c.has_some.ensures
    ∙ ap has_some
    (c.as_slice-2.ensures.value ∙ c.in_ok-doubts.ensures ∙ ap doubts_of (c.as_slice.ensures.value ∙ c.in_ok-part.ensures))
