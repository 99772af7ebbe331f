use Rattle.std.proofs.Common.{◌≡◌, ◌++◌, take}
use Rattle.why_texts.specs.Ids.{more_ids}
use Rattle.why_texts.proofs.ids.add_more.Given as goal

abbrev pub invariant-loop-id : goal.invariant-loop-id
invariant-loop-id l = l.text.items ≡ l.initial.text.items ++ more_ids (take l.id-index l.ids)
