use Rattle.std.proofs.Common.{◌≡◌}
use Rattle.std.specs.Prelude.{drop}
use Rattle.union_words.specs.Meanings.{libraries_meaning}
use Rattle.union_load.specs.Sessions.{courses_of, first_failed}
use Rattle.union_load.proofs.faults.first_failed.Given as goal

abbrev pub invariant-loop-place : goal.invariant-loop-place
invariant-loop-place g l =
    let courses = courses_of g.S.Source.name l.sessions in
    let libraries = libraries_meaning l.libraries in
    first_failed courses (drop l.place libraries) ≡ first_failed courses libraries
