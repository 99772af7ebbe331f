-- What is told of an id that has no current record.
use Rattle.std.specs.Prelude.{ℕ, Bool, List, [], ◌++◌, codes, decimal, Option, Some, None, is_some, if◌then◌else◌}
use Rattle.std.specs.List.{flat_map, list_any}
use Rattle.std.specs.Ordering.{is_eq}
use Rattle.marc_fields.specs.RuleNames.{rule_name}
use Rattle.marc_fields.specs.declared.rules.Failure.{Failure}
use Rattle.union_base.specs.RecordIds.{id_cmp}
use Rattle.union_base.specs.declared.record_id.RecordId.{RecordId}
use Rattle.union_keys.specs.declared.refused.Refused.{Refused}
use Rattle.union_keys.specs.declared.standing.Standing.{Standing}
use Rattle.why_texts.specs.Ids.{id_text}

-- a frame of a library's file: its number, and how many bytes are before it
unfoldable pub frame_text : List ℕ → ℕ → ℕ → List ℕ
frame_text library number first =
    codes "frame " ++ (decimal number ++ (codes " of " ++ (library ++ (codes ", at byte " ++ decimal first))))

-- a rule that is broken, and where, as a report has them
unfoldable pub failure_text : Failure → List ℕ
failure_text failure = rule_name failure.rule ++ (codes " " ++ decimal failure.place)

-- the last accepted record of the id withdraws it
unfoldable pub withdrawn_text : RecordId → Standing → List ℕ
withdrawn_text id last =
    id_text id ++ (codes " is not current: withdrawn by " ++ (frame_text last.id.library last.number last.first ++ codes "\n"))

-- a refused frame, and the rule that it breaks
unfoldable pub refusal_text : Refused → List ℕ
refusal_text frame =
    frame_text frame.id.library frame.number frame.first ++ (codes ", is refused: " ++ failure_text frame.failure)

-- a frame that shows the id is refused
unfoldable pub refused_text : RecordId → Refused → List ℕ
refused_text id frame = id_text id ++ (codes " is not current: " ++ (refusal_text frame ++ codes "\n"))

-- no accepted record has the id, and no refused frame shows it
abbrev pub absent_text : RecordId → List ℕ
absent_text id = id_text id ++ codes " is not current: no accepted record has this id, and no refused frame shows it\n"

-- whether the refused frame shows the id
abbrev pub shows : RecordId → Refused → Bool
shows id frame = is_eq (id_cmp id frame.id)

-- a line where the refused frame shows the id
abbrev pub shown_text : RecordId → Refused → List ℕ
shown_text id frame = (if shows id frame then refused_text id frame else [])

-- a line for each refused frame that shows the id, in the order of its file
abbrev pub refusals_text : RecordId → List Refused → List ℕ
refusals_text id refused = flat_map (shown_text id) refused

-- by the last accepted record of the id, if there is one, and the refused frames: nothing where that record is current
abbrev pub fate_text : RecordId → Option Standing → List Refused → List ℕ
fate_text id None refused = (if list_any (shows id) refused then refusals_text id refused else absent_text id)
fate_text id (Some last) refused = (if is_some last.edition then [] else withdrawn_text id last ++ refusals_text id refused)
