-- What an accepted record has.
use Rattle.std.specs.Prelude.{◌≡◌, true}
use Rattle.std.specs.List.{list_all}
use Rattle.marc_parts.specs.declared.marc_record.Record.{Record}
use Rattle.marc_parts.specs.Loads.{is_utf8_field}
use Rattle.marc_rules.specs.Accepted.{IsAccepted}

-- the texts of an accepted record are UTF-8, those of one that withdraws too
abbrev pub AcceptedIsUtf8 : Type 0
AcceptedIsUtf8 = (r : Record) → IsAccepted r → list_all is_utf8_field r.fields ≡ true
