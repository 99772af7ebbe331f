use Rattle.std.specs.FinMap.{empty}
use Rattle.union_words.specs.Meanings.{libraries_meaning}
use Rattle.union_program.proofs.AnsweredLaws.{told-answered}
use Rattle.union_program.proofs.OpeningLaws.{load_in_turn}
use Rattle.union_program.proofs.answering.follow_and_answer.Goals as goal

pub returns-in-Ok-follow_and_ask-clause-told : goal.returns-in-Ok-follow_and_ask-clause-told
returns-in-Ok-follow_and_ask-clause-told g c =
    let watched = c.in-Ok-follow_and_ask.watched in
    rw (c.answered.ensures.loaded, c.answered.ensures.beside, c.answered.ensures.late)
    (told-answered empty 2 c.args.text.now watched.loaded.catalogue.history c.in-Ok.asked.questions.beside.items c.in-Ok.asked.questions.late.items
    watched.beside.items watched.late.items c.in-Ok.ensures.beside c.in-Ok.ensures.late c.in-Ok-follow_and_ask.ensures.beside c.in-Ok-follow_and_ask.ensures.late).0

pub returns-in-Ok-follow_and_ask-clause-timely : goal.returns-in-Ok-follow_and_ask-clause-timely
returns-in-Ok-follow_and_ask-clause-timely g c =
    let watched = c.in-Ok-follow_and_ask.watched in
    rw (c.answered.ensures.loaded, c.answered.ensures.beside, c.answered.ensures.late)
    (told-answered empty 2 c.args.text.now watched.loaded.catalogue.history c.in-Ok.asked.questions.beside.items c.in-Ok.asked.questions.late.items
    watched.beside.items watched.late.items c.in-Ok.ensures.beside c.in-Ok.ensures.late c.in-Ok-follow_and_ask.ensures.beside c.in-Ok-follow_and_ask.ensures.late).1

pub returns-in-Ok-follow_and_ask-clause-gathers : goal.returns-in-Ok-follow_and_ask-clause-gathers
returns-in-Ok-follow_and_ask-clause-gathers g c = rw c.answered.ensures.loaded c.in-Ok-follow_and_ask.ensures.gathers

pub returns-clause-in_turn : goal.returns-clause-in_turn
returns-clause-in_turn g c =
    load_in_turn (g.F.Shelf.files c.args.shelf.now) c.in-Err.status (libraries_meaning c.args.libraries.now)
    (g.F.Shelf.faults c.args.shelf.now) (g.F.Shelf.faults c.follow_and_ask.new.shelf)
    (g.F.Shelf.opened c.args.shelf.now) (g.F.Shelf.opened c.follow_and_ask.new.shelf) c.in-Err.ensures.gathers c.in-Err.ensures.in_order
