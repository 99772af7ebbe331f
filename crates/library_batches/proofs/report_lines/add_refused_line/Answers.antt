use Rattle.std.proofs.Common.{append_assoc}
use Rattle.library_batches.specs.Reports.{refused_line}
use Rattle.library_batches.proofs.report_lines.add_refused_line.Goals as goal

pub returns : goal.returns
unfolding refused_line
returns c =
    rw (
      c.in_ok-push.ensures.items,
      c.in_ok-add_counted-2.ensures,
      c.name.ensures,
      c.from.ensures,
      c.in_ok-add_counted.ensures,
      c.in_ok-extend_from_slice.ensures.items,
    )
    (simp append_assoc)
