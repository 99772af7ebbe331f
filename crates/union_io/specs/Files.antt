-- Files by name.
use Rattle.std.specs.Prelude.{ℕ, List}
use Rattle.std.specs.Option.{option_map}
use Rattle.std.specs.declared.option.Option.{Option}

-- what is in the file of that name, where the files are told
abbrev pub told_file : Option (List ℕ → List ℕ) → List ℕ → Option (List ℕ)
told_file files name = option_map (λ contents. contents name) files
