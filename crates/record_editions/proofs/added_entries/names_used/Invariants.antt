use Rattle.std.proofs.Common.{◌≡◌, Bor, take}
use Rattle.std.specs.Prelude.{fold}
use Rattle.field_merge.specs.declared.content.Content.{Content}
use Rattle.workset_keys.specs.WorkKeys.{lesser, least_of}
use Rattle.record_editions.specs.EditionKeys.{added_names}
use Rattle.record_editions.proofs.added_entries.names_used.Given as goal

-- the least name so far is the least of those of the contents so far
abbrev pub invariant-loop-other : goal.invariant-loop-other
invariant-loop-other l =
    least_of l.used.items
    ≡ fold (λ least (c : Bor Content). lesser least (least_of (added_names l.names c.now.united))) (least_of l.initial.used.items) (take l.other-index l.behind)
