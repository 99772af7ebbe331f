use Rattle.std.proofs.Common.{◌≡◌, ◌++◌, take}
use Rattle.std.specs.List.{flat_map}
use Rattle.std.specs.BTreeMap.{get}
use Rattle.union_base.specs.RecordIds.{id_cmp}
use Rattle.change_notices.specs.Notices.{edition_lines}
use Rattle.change_notices.proofs.notice.add_side.Given as goal

-- the lines of the editions so far were added
abbrev pub invariant-loop-edition : goal.invariant-loop-edition
invariant-loop-edition l =
    l.lines.items ≡ l.initial.lines.items ++ flat_map (edition_lines l.words.head.now l.words.moved.now l.words.alone.now (get id_cmp l.names)) (take l.edition-index l.editions)
