use Rattle.std.proofs.Common.{◌≡◌, ◌+◌, ◌≤◌, ◌++◌, drop, ℕ, Some}
use Rattle.marc_rules.specs.RequiredFields.{places}
use Rattle.marc_rules.proofs.RequiredLaws.{found_one}
use Rattle.marc_rules.proofs.required_fields.only_entry.Given as goal

-- the one that was found so far and the others are all
abbrev pub invariant-loop-i : goal.invariant-loop-i
invariant-loop-i l = record {
  places : places l.tag 1 l.entries ≡ found_one l.found ++ places l.tag (l.i + 1) (drop l.i l.entries);
  few : (number : ℕ) → l.found ≡ Some number → (1 ≤ number) × (number ≤ l.i);
}
