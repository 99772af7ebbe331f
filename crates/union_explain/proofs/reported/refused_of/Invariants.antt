use Rattle.std.proofs.Common.{◌≡◌, List, ◌++◌, length}
use Rattle.std.specs.List.{filter_map}
use Rattle.union_words.specs.Lines.{lines_of}
use Rattle.union_explain.specs.Reports.{refused_by, rising, IsRising}
use Rattle.union_explain.specs.declared.reported.Reported.{Reported}
use Rattle.union_explain.proofs.reported.refused_of.Given as goal

-- what was found, and what the lines that are left tell, is what the report tells
abbrev pub invariant-loop-line : goal.invariant-loop-line
invariant-loop-line l = record {
  told : l.found.items ++ rising l.last (filter_map (refused_by l.library) l.lines)
      ≡ rising 0 (filter_map (refused_by l.library) (lines_of l.report));
  rises : (rest : List Reported) → IsRising l.last rest → IsRising 0 (l.found.items ++ rest);
}

abbrev pub decreases-loop-line : goal.decreases-loop-line
decreases-loop-line l = length l.lines
