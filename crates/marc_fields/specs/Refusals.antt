-- Which frames reading refuses.
use Rattle.std.specs.Prelude.{ℕ, List, Result, Ok, Err}
use Rattle.marc_fields.specs.Spelling.{Spells}
use Rattle.marc_parts.specs.declared.marc_record.Record.{Record}
use Rattle.marc_fields.specs.declared.decoding.DecodeRefusal.{DecodeRefusal}
use Rattle.marc_fields.specs.declared.decoding.DecodeRefusal.TheVariants.{Rule as RuleRefusal, Memory}

-- the answer is a record that the frame spells, or names a rule and then the frame spells none, or is lack of memory
abbrev pub RefusesUnspelled : Result Record DecodeRefusal → List ℕ → Type 0
RefusesUnspelled (Ok r) frame = Spells frame r
RefusesUnspelled (Err (RuleRefusal rule place)) frame = (r : Record) → Spells frame r → ⊥
RefusesUnspelled (Err Memory) frame = Unit {0}
