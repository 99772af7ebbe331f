use Rattle.std.proofs.Common.{append_assoc}
use Rattle.union_json.specs.Texts.{refused_line}
use Rattle.union_json.proofs.lines.add_refused_line.Goals as goal

pub returns : goal.returns
unfolding refused_line
returns c =
    rw (
      c.in_ok-push.ensures.items,
      c.in_ok-add_counted-2.ensures,
      c.reason_name.ensures,
      c.reason_place.ensures,
      c.in_ok-add_counted.ensures,
      c.in_ok-extend_from_slice.ensures.items,
    )
    (simp append_assoc)
