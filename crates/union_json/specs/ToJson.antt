-- What `tojson` makes of a library's file.
use Rattle.std.specs.Prelude.{◌≡◌, ℕ, List, [], ◌∷◌, ◌++◌, length, codes, None, Some}
use Rattle.std.specs.List.{flat_map}
use Rattle.iso2709_frame.specs.Frames.{frames}
use Rattle.library_batches.specs.Refused.{refused}
use Rattle.library_batches.specs.Streams.{Frame, failure_of, accepted, AreSpelled}
use Rattle.marc_fields.specs.Spelling.{Spells}
use Rattle.marc_fields.specs.declared.rules.Rule.{Rule}
use Rattle.marc_parts.specs.declared.marc_record.Record.{Record}
use Rattle.marc_json.specs.Values.{json_line}
use Rattle.union_files.specs.Endings.{end_with}
use Rattle.library_batches.specs.Reports.{refused_lines}
use Rattle.union_json.specs.Texts.{Making, making_of, count_line}
use Rattle.union_json.specs.declared.made.Made.{Made}
use Rattle.union_json.specs.declared.written.Written.{Written}

-- the lines of JSON, one after the other
abbrev pub json_text : List Record → List ℕ
json_text records = flat_map json_line records

-- a line for each refused frame, and one of counts
abbrev pub to_json_notes : List ℕ → List Frame → List ℕ
to_json_notes library all =
    refused_lines library (refused all)
    ++ count_line library (codes "frames") (length all) (length (accepted all)) (length (refused all))

-- the lines of the accepted frames' records, in their order, and the notes
pub record IsToJson (library bytes : List ℕ) (made : Making) : Type 0 where
  pub records : List Record
  pub spelled : AreSpelled (accepted (frames bytes)) records
  pub shown : made.shown ≡ json_text records
  pub noted : made.noted ≡ to_json_notes library (frames bytes)
  pub end : made.end ≡ end_with (refused (frames bytes))

-- these frames were counted and written, and no others
pub record AreWritten (all : List Frame) (done : Written) : Type 0 where
  pub records : List Record
  pub spelled : AreSpelled (accepted all) records
  pub lines : done.lines ≡ json_text records
  pub frames : done.frames ≡ length all
  pub written : done.written ≡ length (accepted all)
  pub refused : done.refused.items ≡ refused all

-- the next frame was counted, whichever were counted before it
abbrev pub Counts : Written → Written → Frame → Type 0
Counts old new frame = (all : List Frame) → AreWritten all old → AreWritten (all ++ frame ∷ []) new

-- the frame is accepted, and the line is its record's
abbrev pub IsLineOf : List ℕ → Frame → Type 0
IsLineOf line frame = (failure_of frame ≡ None) × ((r : Record) × Spells frame.1 r × (line ≡ json_line r))

-- the frame breaks the rule there
abbrev pub Breaks : Rule → ℕ → Frame → Type 0
Breaks rule place frame = failure_of frame ≡ Some (record { rule = rule; place = place })

-- all frames of the file were counted and written
abbrev pub AreAllWritten : Written → List ℕ → Type 0
AreAllWritten done bytes = AreWritten (frames bytes) done

-- the notes on frames that were counted and written
abbrev pub AreNotesOn : List ℕ → Written → List ℕ → Type 0
AreNotesOn library done text = (all : List Frame) → AreWritten all done → text ≡ to_json_notes library all

-- the file was made into lines of JSON
abbrev pub MakesJson : List ℕ → Made → List ℕ → Type 0
MakesJson library made bytes = IsToJson library bytes (making_of made)
