use Rattle.std.proofs.Common.{◌≡◌, sym, subst, ◌∙◌}
use Rattle.std.proofs.lemmas.Option.{same_Some}
use Rattle.union_files.specs.Inputs.{FailsEarliest, inputs_of}
use Rattle.union_io.specs.Causes.{Rose}
use Rattle.union_io.specs.Counts.{SameElsewhere}
use Rattle.union_words.specs.Meanings.{libraries_meaning}
use Rattle.union_words.specs.Words.{LibraryFile}
use Rattle.union_words.specs.declared.input.Input.TheVariants.{Library}
use Rattle.union_follow.proofs.StatusLaws.{fails_first}
use Rattle.union_follow.specs.Turning.{HaltsAt}
use Rattle.union_follow.proofs.naming.status_of.Goals as goal

pub returns-in-Failed-clause-stops : goal.returns-in-Failed-clause-stops
returns-in-Failed-clause-stops c = λ file shelf at halts.
    let libraries = libraries_meaning c.args.libraries.now in
    let found = c.first_of.ensures in
    let same : found.2 ≡ file = same_Some found.2 file (sym found.3 ∙ at) in
    let cause : Rose (shelf.before file.path) (shelf.after file.path) × SameElsewhere shelf.before shelf.after file.path
    = subst (λ stop. HaltsAt stop file libraries shelf) c.in-Failed.is halts in
    let causes = subst (λ (f : LibraryFile). Rose (shelf.before f.path) (shelf.after f.path) × SameElsewhere shelf.before shelf.after f.path)
    (sym same) cause in
    subst (λ library. FailsEarliest (inputs_of libraries) shelf (Library library)) found.5
    (fails_first libraries c.args.halt.now.place found.0 found.1 found.2 shelf found.3 found.4 found.6 found.7 causes.0 causes.1)
