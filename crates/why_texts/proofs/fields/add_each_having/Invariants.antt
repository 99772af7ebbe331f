use Rattle.std.proofs.Common.{◌≡◌, ◌++◌, take}
use Rattle.std.specs.List.{flat_map}
use Rattle.why_texts.specs.Fields.{having_text}
use Rattle.why_texts.proofs.fields.add_each_having.Given as goal

-- what the contents so far add
abbrev pub invariant-loop-content : goal.invariant-loop-content
invariant-loop-content l = l.text.items ≡ l.initial.text.items ++ flat_map (having_text l.field) (take l.content-index l.contents)
