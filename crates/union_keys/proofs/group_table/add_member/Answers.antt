use Rattle.std.proofs.Common.{◌++◌, ap, sym, ◌∙◌}
use Rattle.std.proofs.lemmas.List.{append-nil}
use Rattle.std.proofs.lemmas.Option.{slice_get_past}
use Rattle.std.specs.Option.{option_to_list}
use Rattle.union_keys.proofs.group_table.add_member.Goals as goal

pub returns-in-None : goal.returns-in-None
returns-in-None c =
    let had = c.args.members.now.items in
    let past = slice_get_past c.args.standings.now c.args.number c.in-None.ensures.lookup.3 in
    sym (append-nil had) ∙ ap (λ found. had ++ option_to_list found) (sym past)
