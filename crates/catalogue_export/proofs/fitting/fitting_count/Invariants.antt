use Rattle.std.proofs.Common.{◌≡◌, ◌++◌, ◌-◌, map, take, drop}
use Rattle.marc_fields.specs.Spelling.{longest_frame}
use Rattle.catalogue_export.specs.Fitting.{fitting_in, frame_rest}
use Rattle.catalogue_export.proofs.fitting.fitting_count.Given as goal

-- the fields so far fit, and the rest is to fit in what is left
abbrev pub invariant-loop-count : goal.invariant-loop-count
invariant-loop-count l =
    fitting_in (longest_frame - frame_rest) (map (λ f. f.now) l.fields)
    ≡ take l.count (map (λ f. f.now) l.fields) ++ fitting_in l.left (drop l.count (map (λ f. f.now) l.fields))
