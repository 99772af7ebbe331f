use Rattle.std.proofs.Common.{◌+◌, ◌*◌}
use Rattle.key_groups.proofs.notes.+noting.Given as goal

abbrev pub decreases-notes_by : goal.decreases-notes_by
decreases-notes_by g l = 2 * l.workers

abbrev pub decreases-note_front : goal.decreases-note_front
decreases-note_front g l = 2 * l.fewer + 1

abbrev pub decreases-note_back : goal.decreases-note_back
decreases-note_back g l = 2 * l.others + 1
