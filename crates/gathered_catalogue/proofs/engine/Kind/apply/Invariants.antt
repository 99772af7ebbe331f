use Rattle.gathered_catalogue.proofs.engine.Kind.apply.Given as goal

abbrev pub ghosts-apply_standing : goal.ghosts-apply_standing
ghosts-apply_standing a = record { name = a.blank.name; parts = a.blank.parts }
