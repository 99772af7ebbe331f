-- Which characters show in a form, read from the start.
use Rattle.std.specs.Prelude.{ℕ, ◌==◌, ◌&&◌, Bool, true, false, if◌then◌else◌, List}
use Rattle.std.specs.List.{list_any}
use Rattle.naco_normal.specs.declared.form.Comma.{Comma}
use Rattle.naco_normal.specs.declared.form.Comma.TheVariants.{First, None}
use Rattle.naco_normal.specs.Normal.{comma_sign, is_letter_or_number, is_kept}

-- an awaited comma shows where a letter or number stands after it, and any other character where it is kept
abbrev pub is_shown : ℕ → Bool → List ℕ → Bool
is_shown c awaiting after =
    if awaiting && (c == comma_sign) then list_any is_letter_or_number after else is_kept c

-- whether the first comma is awaited
abbrev pub keeps_first : Comma → Bool
keeps_first First = true
keeps_first None = false
