use Rattle.std.proofs.Common.{append_assoc}
use Rattle.union_json.specs.Texts.{count_line}
use Rattle.union_json.proofs.lines.add_count_line.Goals as goal

pub returns : goal.returns
unfolding count_line
returns c =
    rw (
      c.in_ok-push.ensures.items,
      c.in_ok-add_counted-3.ensures,
      c.in_ok-add_counted-2.ensures,
      c.in_ok-add_counted.ensures,
      c.in_ok-extend_from_slice.ensures.items,
    )
    (simp append_assoc)
