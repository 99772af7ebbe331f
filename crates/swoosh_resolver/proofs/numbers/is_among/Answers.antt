use Rattle.std.proofs.Common.{◌∙◌}
use Rattle.std.proofs.lemmas.List.{get_or_default}
use Rattle.feature_index.proofs.Ascending.{absent-from_gap, found-from_search, gap-from_search}
use Rattle.swoosh_resolver.proofs.numbers.is_among.Goals as goal

pub returns-in-Ok-clause-yes : goal.returns-in-Ok-clause-yes
returns-in-Ok-clause-yes c h =
    let xs = c.args.numbers.now in
    let place = c.in-Ok.field-0 in
    let (within, is) = found-from_search xs c.args.number place c.requires c.in-Ok.ensures.position in
    (place, within, get_or_default xs place c.args.number 0 within ∙ is)

pub returns-in-Err-clause-no : goal.returns-in-Err-clause-no
returns-in-Err-clause-no c h =
    let xs = c.args.numbers.now in
    absent-from_gap xs c.args.number c.in-Err.field-0 (gap-from_search xs c.args.number c.in-Err.field-0 c.requires c.in-Err.ensures.position)
