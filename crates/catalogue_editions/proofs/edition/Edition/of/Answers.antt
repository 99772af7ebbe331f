use Rattle.std.proofs.Common.{◌∙◌, ap}
use Rattle.std.proofs.lemmas.Result.{IfOk-weaker}
use Rattle.catalogue_editions.specs.Linked.{are_linked}
use Rattle.catalogue_editions.specs.Sound.{is_sound}
use Rattle.catalogue_editions.specs.Equal.{same_editions}
use Rattle.catalogue_editions.proofs.edition.Edition.of.Goals as goal

pub of-requires : goal.of-requires
of-requires c = ap is_sound c.into_both-features.ensures.content ∙ c.args.parts.sound

pub with_contents-requires : goal.with_contents-requires
with_contents-requires c =
    let features = c.into_both-features.ensures.features in
    let content = c.in_ok-contents.ensures ∙ c.into_both-features.ensures.content in
    record {
      linked = (λ i. are_linked (content i).contributors (features i).control) ∙ c.args.parts.linked;
      sound = ap is_sound content ∙ c.args.parts.sound;
    }

pub returns : goal.returns
returns c =
    IfOk-weaker c.with_contents.result _ _
    (λ e made. same_editions e c.args.parts (made.0 ∙ c.into_both-features.ensures.features) (made.1 ∙ c.in_ok-contents.ensures ∙ c.into_both-features.ensures.content))
    c.with_contents.ensures
