use Rattle.std.proofs.Common.{◌≡◌, ◌++◌, take}
use Rattle.std.specs.List.{flat_map}
use Rattle.why_texts.specs.Differences.{next_value}
use Rattle.why_texts.proofs.differences.add_later.Given as goal

abbrev pub invariant-loop-value : goal.invariant-loop-value
invariant-loop-value g l = l.text.items ≡ l.initial.text.items ++ flat_map (next_value g.K.Spelled.spelled) (take l.value-index l.values)
