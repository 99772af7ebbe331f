-- One line more.
use Rattle.std.proofs.Common.{◌≡◌, List, [], ◌∷◌, ◌++◌, append-nil, ap, ◌∙◌}
use Rattle.std.proofs.lemmas.Grind.{flat_map-append}
use Rattle.library_batches.specs.Streams.{AreSpelled}
use Rattle.marc_fields.specs.Spelling.{Spells}
use Rattle.marc_parts.specs.declared.marc_record.Record.{Record}
use Rattle.marc_json.specs.Values.{json_line}
use Rattle.std.proofs.Common.{ℕ}
use Rattle.union_json.specs.ToJson.{json_text}

pub json_text-more : (records : List Record) (r : Record) → json_text (records ++ r ∷ []) ≡ json_text records ++ json_line r
json_text-more records r = flat_map-append json_line records (r ∷ []) ∙ ap (λ t. json_text records ++ t) (append-nil (json_line r))

pub spelled-more : (frames : List (List ℕ)) (records : List Record) (frame : List ℕ) (r : Record) → AreSpelled frames records → Spells frame r
    → AreSpelled (frames ++ frame ∷ []) (records ++ r ∷ [])
spelled-more [] [] frame r are is = (is, tt)
spelled-more [] (first ∷ records) frame r are is = absurd are
spelled-more (first ∷ frames) [] frame r are is = absurd are
spelled-more (first ∷ frames) (one ∷ records) frame r are is = (are.0, spelled-more frames records frame r are.1 is)
