use Rattle.std.proofs.Common.{ℕ, List, [], ◌∷◌, ◌++◌, ap, subst, ◌∙◌}
use Rattle.library_batches.specs.Streams.{Frame}
use Rattle.library_batches.specs.Blocks.{IsChecked}
use Rattle.library_batches.proofs.cut_frame.CutFrame.check.Goals as goal

pub returns : goal.returns
returns c = λ start taken before place checked.
    subst (λ (f : Frame). IsChecked c.args.origin.now.prefer.now c.args.origin.now.library.now start (taken ++ f ∷ []) c.check_next.new.ops.items before c.check_next.new.refused.items)
    (ap (λ (bytes : List ℕ). (c.self.inside.cut, bytes)) c.as_slice.ensures.value ∙ c.self.view_is)
    (c.in_ok-check_next.ensures.checked start taken before place checked)
