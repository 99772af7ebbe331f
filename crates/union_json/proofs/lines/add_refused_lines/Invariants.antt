use Rattle.std.proofs.Common.{◌≡◌, ◌++◌, take}
use Rattle.union_json.specs.Texts.{refused_lines}
use Rattle.union_json.proofs.lines.add_refused_lines.Given as goal

abbrev pub invariant-loop-line : goal.invariant-loop-line
invariant-loop-line l = l.text.items ≡ l.initial.text.items ++ refused_lines l.library (take l.line-index l.lines)
