use Rattle.std.proofs.Common.{◌∙◌, ap}
use Rattle.std.proofs.lemmas.Result.{IfOk-weaker}
use Rattle.match_features.specs.Joining.{join as join_features}
use Rattle.field_merge.specs.Merging.{join as join_contents}
use Rattle.catalogue_editions.specs.Linked.{are_linked}
use Rattle.catalogue_editions.specs.Sound.{is_sound}
use Rattle.catalogue_editions.specs.Equal.{same_editions}
use Rattle.catalogue_editions.specs.Joining.{join}
use Rattle.catalogue_editions.proofs.joining.EditionJoin.joined.Goals as goal

pub with_contents-requires : goal.with_contents-requires
with_contents-requires c =
    let whole = join c.args.self.now c.args.other.now in
    let features = c.in_ok-features.ensures ∙ (λ i. join_features (c.features.ensures i) (c.features-2.ensures i)) in
    let content = c.in_ok-contents.ensures ∙ (λ i. join_contents (c.contents.ensures i) (c.contents-2.ensures i)) in
    record {
      linked = (λ i. are_linked (content i).contributors (features i).control) ∙ whole.linked;
      sound = ap is_sound content ∙ whole.sound;
    }

pub returns : goal.returns
returns c =
    let features = c.in_ok-features.ensures ∙ (λ i. join_features (c.features.ensures i) (c.features-2.ensures i)) in
    let content = c.in_ok-contents.ensures ∙ (λ i. join_contents (c.contents.ensures i) (c.contents-2.ensures i)) in
    IfOk-weaker c.with_contents.result _ _
    (λ e made. same_editions e (join c.args.self.now c.args.other.now) (made.0 ∙ features) (made.1 ∙ content)) c.with_contents.ensures
