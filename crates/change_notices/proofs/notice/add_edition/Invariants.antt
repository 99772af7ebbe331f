use Rattle.std.proofs.Common.{◌≡◌, ◌++◌, take, map}
use Rattle.std.specs.Prelude.{codes}
use Rattle.std.specs.BTreeMap.{get}
use Rattle.union_base.specs.RecordIds.{id_cmp}
use Rattle.workset_keys.specs.WorkKeys.{own_name}
use Rattle.change_notices.specs.Notices.{end_by}
use Rattle.change_notices.proofs.notice.add_edition.Given as goal

-- the lines of the contributors so far were added
abbrev pub invariant-loop-id : goal.invariant-loop-id
invariant-loop-id l =
    l.lines.items ≡ l.initial.lines.items ++ map (λ id. codes " " ++ own_name id ++ end_by l.words.moved.now l.words.alone.now (get id_cmp l.names id)) (take l.id-index l.ids)
