use Rattle.snapshot_desk.proofs.applying.apply_batch.Given as goal

abbrev pub ghosts-apply_by : goal.ghosts-apply_by
ghosts-apply_by a = record { name = a.blank.name; parts = a.blank.parts }
