use Rattle.std.proofs.Common.{◌≡◌, [], take}
use Rattle.edition_doubts.specs.Groups.{pairs_of, gathered}
use Rattle.edition_doubts.proofs.groups.all_without_members.Given as goal

abbrev pub invariant-loop-edition : goal.invariant-loop-edition
invariant-loop-edition l = pairs_of l.groups.items ≡ gathered [] (take l.edition-index l.editions)
