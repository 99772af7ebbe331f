-- The refusals that a conversion from MARC-8 may mend.
use Rattle.std.specs.Prelude.{◌==◌, ◌&&◌, ℕ, Bool, not, List, codes, filter, nat_eq}
use Rattle.std.specs.List.{flat_map}
use Rattle.std.specs.Cmp.Lexicographic.{pointwise}
use Rattle.marc_fields.specs.RuleNames.{rule_name}
use Rattle.union_words.specs.Words.{LibraryFile}
use Rattle.union_explain.specs.Runs.{refused_in}
use Rattle.union_explain.specs.declared.reported.Reported.{Reported}

-- the record says that it is in MARC-8, and a field of it is not ASCII: Coding, at an entry
abbrev pub is_marc8 : Reported → Bool
is_marc8 told = not (told.place == 0) && pointwise nat_eq (rule_name told.rule) (codes "Coding")

-- those that a report has of these libraries
abbrev pub marc8_refusals : List ℕ → List LibraryFile → List Reported
marc8_refusals report libraries = flat_map (λ file. filter is_marc8 (refused_in report file.library)) libraries
