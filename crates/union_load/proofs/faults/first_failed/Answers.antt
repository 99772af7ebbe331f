use Rattle.std.proofs.Common.{sym, ap, ◌∙◌}
use Rattle.std.specs.Option.{option_map}
use Rattle.union_load.proofs.FaultLaws.{first-passed, first-found}
use Rattle.union_load.specs.Sessions.{courses_of}
use Rattle.union_words.specs.Meanings.{file_meaning, libraries_meaning}
use Rattle.union_words.specs.Words.{LibraryFile}
use Rattle.union_load.proofs.faults.first_failed.Goals as goal

pub returns-then-is_failed_in : goal.returns-then-is_failed_in
returns-then-is_failed_in g c =
    ap (option_map (λ (file : LibraryFile). file.library))
    (first-found (courses_of g.S.Source.name c.args.sessions.now) (libraries_meaning c.args.libraries.now) c.loop-place.place (file_meaning c.at-file.result)
    c.at-file.ensures (sym c.is_failed_in.ensures ∙ c.if-is_failed_in.true) c.loop-place.invariant)

pub loop-place-preserved : goal.loop-place-preserved
loop-place-preserved g c =
    first-passed (courses_of g.S.Source.name c.args.sessions.now) (libraries_meaning c.args.libraries.now) c.loop-place.place (file_meaning c.at-file.result)
    c.at-file.ensures (sym c.is_failed_in.ensures ∙ c.if-is_failed_in.false) c.loop-place.invariant
