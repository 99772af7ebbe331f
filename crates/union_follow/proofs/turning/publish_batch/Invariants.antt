use Rattle.union_follow.proofs.turning.publish_batch.Given as goal

abbrev pub ghosts-apply_by : goal.ghosts-apply_by
ghosts-apply_by g a = record { name = a.blank.name; parts = a.blank.parts }
