-- What is read of a line that a report has of a refused record.
use Rattle.std.specs.Prelude.{◌≡◌, ℕ, List, [], ◌∷◌, ◌++◌, Some}
use Rattle.library_batches.specs.Reports.{refused_line}
use Rattle.library_batches.specs.declared.refused.RefusedFrame.{RefusedFrame}
use Rattle.union_explain.specs.Reports.{refused_by}

-- of the line that a report has of a library's refused frame, without the line feed that ends it, its number, rule and place are read
abbrev pub IsReadBack : List ℕ → RefusedFrame → Type 0
IsReadBack library frame =
    (line : List ℕ) × (refused_line library frame ≡ line ++ 0x0A ∷ [])
    × (refused_by library line ≡ Some (record { number = frame.frame; rule = frame.rule; place = frame.place }))
