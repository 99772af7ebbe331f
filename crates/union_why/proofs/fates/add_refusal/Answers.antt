use Rattle.std.proofs.Common.{append_assoc}
use Rattle.union_why.specs.Fates.{refusal_text}
use Rattle.union_why.proofs.fates.add_refusal.Goals as goal

pub returns : goal.returns
unfolding refusal_text
returns c = rw (c.in_ok-add_failure.ensures, c.in_ok-extend_from_slice.ensures.items, c.in_ok-add_frame.ensures) (simp append_assoc)
