-- What an accepted record has.
use Rattle.std.specs.Prelude.{◌≡◌, true, false, ◌||◌, IsTrue}
use Rattle.std.specs.List.{list_all}
use Rattle.marc_leader.specs.Codes.{are_printable}
use Rattle.marc_fields.specs.Spelling.{is_short}
use Rattle.marc_parts.specs.declared.marc_record.Record.{Record}
use Rattle.marc_parts.specs.Loads.{is_deleted, is_loadable, is_withdrawal}
use Rattle.marc_rules.specs.Accepted.{IsAccepted}

-- an accepted record that is not deleted can be loaded
abbrev pub AcceptedIsLoadable : Type 0
AcceptedIsLoadable = (r : Record) → IsAccepted r → is_deleted r.leader.status ≡ false → is_loadable r ≡ true

-- an accepted record that is deleted withdraws
abbrev pub AcceptedIsWithdrawal : Type 0
AcceptedIsWithdrawal = (r : Record) → IsAccepted r → is_deleted r.leader.status ≡ true → is_withdrawal r ≡ true

-- an accepted record can be loaded or withdraws
abbrev pub AcceptedHasParts : Type 0
AcceptedHasParts = (r : Record) → IsAccepted r → (is_loadable r || is_withdrawal r) ≡ true

-- four digits can say how long each field of an accepted record is
abbrev pub AcceptedIsShort : Type 0
AcceptedIsShort = (r : Record) → IsAccepted r → list_all is_short r.fields ≡ true

-- the codes in the leader of an accepted record are graphics and blanks
abbrev pub AcceptedIsPrintable : Type 0
AcceptedIsPrintable = (r : Record) → IsAccepted r → IsTrue (are_printable r.leader)
