use Rattle.std.proofs.Common.{append_assoc}
use Rattle.union_keys.specs.Lines.{line_of}
use Rattle.union_keys.proofs.line.add_columns.Goals as goal

pub returns : goal.returns
unfolding line_of
returns c =
    rw (
      c.in_ok-push-2.ensures.items,
      c.in_ok-add_all_keys.ensures,
      c.in_ok-add_places.ensures,
      c.in_ok-add_number-2.ensures,
      c.in_ok-push.ensures.items,
      c.in_ok-add_number.ensures,
    )
    (simp append_assoc)
