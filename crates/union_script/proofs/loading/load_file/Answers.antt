use Rattle.std.proofs.Common.{◌∙◌, ap, subst}
use Rattle.union_io.specs.Causes.{Rose}
use Rattle.union_io.specs.Counts.{SameElsewhere}
use Rattle.union_io.specs.Files.{told_file}
use Rattle.union_words.specs.Flows.{InputFile}
use Rattle.union_words.specs.declared.input.Input.TheVariants.{Library}
use Rattle.union_files.proofs.FileLaws.{file_stops, stops_before, not_opened}
use Rattle.union_script.proofs.loading.load_file.Goals as goal

pub returns-in-Ok-open-clause-reads : goal.returns-in-Ok-open-clause-reads
returns-in-Ok-open-clause-reads g c =
    let file : InputFile = record { input = Library c.args.file.now.library; path = c.args.file.now.path.now } in
    let files = g.F.Shelf.files c.args.shelf.now in
    let before = g.F.Shelf.faults c.open.new.self in
    let after = g.F.Shelf.faults c.give_back.new.self in
    rw c.stopped_with.ensures
    (stops_before _ file files (g.F.Shelf.faults c.args.shelf.now) before after c.in-Ok-open.ensures.counts
    (file_stops c.in-Err.stop file files (g.F.Src.Source.name c.load_source-loaded.new.source) _ _ (g.F.Src.Source.faults c.load_source-loaded.new.source) before after
    (c.in-Err.ensures.name ∙ c.in-Ok-open.ensures.name ∙ c.in-Ok.ensures) (c.in-Ok-open.ensures.left ∙ ap (told_file files) c.in-Ok.ensures) c.in-Ok-open.ensures.fresh c.in-Err.ensures.reads
    c.give_back.ensures.raised c.give_back.ensures.calm c.give_back.ensures.others))

pub returns-in-Err-Failed-clause-reads : goal.returns-in-Err-Failed-clause-reads
returns-in-Err-Failed-clause-reads g c =
    let before = g.F.Shelf.faults c.args.shelf.now in
    let after = g.F.Shelf.faults c.open.new.self in
    not_opened (record { input = Library c.args.file.now.library; path = c.args.file.now.path.now }) (g.F.Shelf.files c.args.shelf.now) before after
    (subst (λ name. Rose (before name) (after name)) c.in-Ok.ensures (rw c.in-Err-Failed.field-0-is at c.in-Err-Failed.ensures.counts))
    (subst (λ name. SameElsewhere before after name) c.in-Ok.ensures c.in-Err-Failed.ensures.others)
