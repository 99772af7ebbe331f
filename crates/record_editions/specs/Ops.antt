-- What a record that a library delivers asks for.
use Rattle.std.specs.Prelude.{ℕ, List, Option, Some, if◌then◌else◌}
use Rattle.std.specs.Option.{option_map}
use Rattle.marc_parts.specs.declared.marc_record.Record.{Record}
use Rattle.marc_parts.specs.Parts.{control_number}
use Rattle.marc_parts.specs.Loads.{is_deleted}
use Rattle.record_editions.specs.Records.{edition}
use Rattle.catalogue_editions.specs.declared.op.Op.{Op}
use Rattle.catalogue_editions.specs.declared.op.Op.TheVariants.{Load, Withdraw}

-- a record of status `d` withdraws the record that the library has under its control number, whatever else it has; a record
-- of another status loads its edition, by the preference, where it can be loaded
abbrev pub op : List (List ℕ) → List ℕ → Record → Option Op
op prefer library r = (if is_deleted r.leader.status then Some (Withdraw (control_number r)) else option_map Load (edition prefer library r))
