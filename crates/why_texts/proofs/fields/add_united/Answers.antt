use Rattle.std.proofs.Common.{append_assoc}
use Rattle.why_texts.specs.Fields.{united_text}
use Rattle.why_texts.proofs.fields.add_united.Goals as goal

pub returns : goal.returns
unfolding united_text
returns c =
    rw (
      c.in_ok-extend_from_slice-4.ensures.items,
      c.in_ok-add_body.ensures,
      c.in_ok-extend_from_slice-3.ensures.items,
      c.in_ok-add_each_having.ensures,
      c.in_ok-extend_from_slice-2.ensures.items,
      c.in_ok-extend_from_slice.ensures.items,
    )
    (simp append_assoc)
