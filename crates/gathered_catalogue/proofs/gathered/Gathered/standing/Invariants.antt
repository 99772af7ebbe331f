use Rattle.gathered_catalogue.proofs.gathered.Gathered.standing.Given as goal

abbrev pub ghosts-standing_of : goal.ghosts-standing_of
ghosts-standing_of a = record { name = a.blank.name; parts = a.blank.parts }
