use Rattle.std.proofs.Common.{append_assoc}
use Rattle.why_texts.specs.Fields.{parts_text}
use Rattle.why_texts.proofs.fields.add_parts.Goals as goal

pub returns : goal.returns
unfolding parts_text
returns c =
    rw (
      c.in_ok-add_part-7.ensures,
      c.in_ok-add_part-6.ensures,
      c.in_ok-add_part-5.ensures,
      c.in_ok-add_part-4.ensures,
      c.in_ok-add_part-3.ensures,
      c.in_ok-add_part-2.ensures,
      c.in_ok-add_part.ensures,
    )
    (simp append_assoc)
