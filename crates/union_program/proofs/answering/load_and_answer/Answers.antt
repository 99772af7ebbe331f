use Rattle.union_program.proofs.AnsweredLaws.{told-answered}
use Rattle.union_program.proofs.answering.load_and_answer.Goals as goal

pub returns-in-Ok-load_by_names-clause-told : goal.returns-in-Ok-load_by_names-clause-told
returns-in-Ok-load_by_names-clause-told g c =
    let watched = c.in-Ok-load_by_names.watched in
    rw (c.answered.ensures.loaded, c.answered.ensures.beside, c.answered.ensures.late)
    (told-answered c.args.names.table c.args.loading.now.workers.number c.args.text.now watched.loaded.catalogue.history c.in-Ok.asked.questions.beside.items c.in-Ok.asked.questions.late.items
    watched.beside.items watched.late.items (rw c.number.ensures.value at c.in-Ok.ensures.beside) (rw c.number.ensures.value at c.in-Ok.ensures.late) c.in-Ok-load_by_names.ensures.beside c.in-Ok-load_by_names.ensures.late).0

pub returns-in-Ok-load_by_names-clause-timely : goal.returns-in-Ok-load_by_names-clause-timely
returns-in-Ok-load_by_names-clause-timely g c =
    let watched = c.in-Ok-load_by_names.watched in
    rw (c.answered.ensures.loaded, c.answered.ensures.beside, c.answered.ensures.late)
    (told-answered c.args.names.table c.args.loading.now.workers.number c.args.text.now watched.loaded.catalogue.history c.in-Ok.asked.questions.beside.items c.in-Ok.asked.questions.late.items
    watched.beside.items watched.late.items (rw c.number.ensures.value at c.in-Ok.ensures.beside) (rw c.number.ensures.value at c.in-Ok.ensures.late) c.in-Ok-load_by_names.ensures.beside c.in-Ok-load_by_names.ensures.late).1

pub returns-in-Ok-load_by_names-clause-gathers : goal.returns-in-Ok-load_by_names-clause-gathers
returns-in-Ok-load_by_names-clause-gathers g c = rw c.answered.ensures.loaded c.in-Ok-load_by_names.ensures.gathers
