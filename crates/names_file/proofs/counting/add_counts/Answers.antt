use Rattle.std.proofs.Common.{append_assoc}
use Rattle.names_file.specs.NamesFiles.{counts_line}
use Rattle.names_file.proofs.counting.add_counts.Goals as goal

pub returns : goal.returns
unfolding counts_line
returns c =
    rw (
      c.in_ok-push.ensures.items,
      c.in_ok-add_counted-3.ensures,
      c.in_ok-add_counted-2.ensures,
      c.in_ok-add_counted.ensures,
      c.in_ok-extend_from_slice.ensures.items,
    )
    (simp append_assoc)
