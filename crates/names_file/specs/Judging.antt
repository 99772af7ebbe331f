-- What becomes of a frame of a file of names: it is refused, or the table takes what its record gives.
use Rattle.std.specs.Prelude.{◌≡◌, ℕ, List, [], ◌++◌, Option, None, Some, codes}
use Rattle.authority_names.specs.Leads.{Table, IsTableOf}
use Rattle.authority_names.specs.Names.{Authority}
use Rattle.authority_names.specs.Records.{refusal_of, taken_of}
use Rattle.authority_names.specs.declared.refusal.NameRefusal.{NameRefusal}
use Rattle.authority_names.specs.declared.refusal.NameRefusal.TheVariants as refusals
use Rattle.iso2709_frame.specs.declared.cut.Cut.{Cut}
use Rattle.iso2709_frame.specs.declared.cut.Cut.TheVariants as cuts
use Rattle.library_batches.specs.Streams.{Frame}
use Rattle.marc_fields.specs.Rules.{first_failure}
use Rattle.marc_fields.specs.Spelling.{Spells}
use Rattle.marc_parts.specs.declared.marc_record.Record.{Record}
use Rattle.marc_fields.specs.declared.rules.Failure.{Failure}
use Rattle.marc_fields.specs.declared.rules.Rule.TheVariants.{Truncated, TooLong}
use Rattle.marc_fields.specs.RuleNames.{rule_name}
use Rattle.names_file.specs.declared.fault.NameFault.{NameFault}
use Rattle.names_file.specs.declared.fault.NameFault.TheVariants.{Rule, Kind, Coding, NotUtf8, Heading}

-- how a fault is named
abbrev pub fault_name : NameFault → List ℕ
fault_name (Rule rule place) = rule_name rule
fault_name Kind = codes "Kind"
fault_name Coding = codes "Coding"
fault_name NotUtf8 = codes "NotUtf8"
fault_name Heading = codes "Heading"

-- the place of a rule, and 0 where the record is refused as a whole
abbrev pub fault_place : NameFault → ℕ
fault_place (Rule rule place) = place
fault_place Kind = 0
fault_place Coding = 0
fault_place NotUtf8 = 0
fault_place Heading = 0

-- the fault for which the table refuses a record; lack of memory is none
abbrev pub fault_of : NameRefusal → Option NameFault
fault_of refusals.Kind = Some Kind
fault_of refusals.Coding = Some Coding
fault_of refusals.NotUtf8 = Some NotUtf8
fault_of refusals.Heading = Some Heading
fault_of refusals.Memory = None

-- the table takes what the record gives, or refuses it for the first reason that it has
abbrev pub IsRecordJudged : Option NameRefusal → Record → Option NameFault → List Authority → Type 0
IsRecordJudged None r fault taken = (fault ≡ None) × (taken ≡ taken_of r)
IsRecordJudged (Some refusal) r fault taken = (fault ≡ fault_of refusal) × (taken ≡ [])

-- a whole frame is refused for the first rule that fails, or else its record is judged
abbrev pub IsReadJudged : Option Failure → List ℕ → Option NameFault → List Authority → Type 0
IsReadJudged (Some failure) bytes fault taken = (fault ≡ Some (Rule failure.rule failure.place)) × (taken ≡ [])
IsReadJudged None bytes fault taken = (r : Record) × Spells bytes r × IsRecordJudged (refusal_of r) r fault taken

-- the same by how the frame was cut: one that was not cut whole is refused for that
abbrev pub IsCutJudged : Cut → List ℕ → Option NameFault → List Authority → Type 0
IsCutJudged cuts.Truncated bytes fault taken = (fault ≡ Some (Rule Truncated 0)) × (taken ≡ [])
IsCutJudged cuts.TooLong bytes fault taken = (fault ≡ Some (Rule TooLong 0)) × (taken ≡ [])
IsCutJudged cuts.Whole bytes fault taken = IsReadJudged (first_failure bytes) bytes fault taken

-- the frame is refused for that fault, if for any, and the table takes these records of it
abbrev pub IsJudged : Frame → Option NameFault → List Authority → Type 0
IsJudged frame fault taken = IsCutJudged frame.0 frame.1 fault taken

-- a frame, the fault for which it is refused, if it is, and what the table takes of it
pub record Judged : Type 0 where
  pub frame : Frame
  pub fault : Option NameFault
  pub taken : List Authority

-- the frame is judged so
abbrev pub IsSo : Judged → Type 0
IsSo one = IsJudged one.frame one.fault one.taken

-- the table has these records more
abbrev pub HasTaken : Table → List Authority → Table → Type 0
HasTaken before taken now = (records : List Authority) → IsTableOf before records → IsTableOf now (records ++ taken)

-- it is judged so whether there is a fault, and the table takes what is taken then
abbrev pub TakesAs : (Option NameFault → List Authority → Type 0) → Table → Table → Option NameFault → Type 0
TakesAs IsSo before now fault = (taken : List Authority) × IsSo fault taken × HasTaken before taken now
