use Rattle.std.proofs.Common.{◌≡◌, ◌++◌, take}
use Rattle.std.specs.List.{flat_map}
use Rattle.why_texts.specs.Fields.{united_text}
use Rattle.why_texts.proofs.fields.add_each_united.Given as goal

-- the lines of the fields so far
abbrev pub invariant-loop-field : goal.invariant-loop-field
invariant-loop-field l = l.text.items ≡ l.initial.text.items ++ flat_map (united_text l.contents) (take l.field-index l.fields)
