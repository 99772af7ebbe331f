use Rattle.std.proofs.Common.{◌≡◌, ◌++◌, ℕ, List, drop}
use Rattle.edition_doubts.specs.Groups.{pairs_of, AreEditions}
use Rattle.doubt_texts.specs.Editions.{AddsEach, doubts_in}
use Rattle.doubt_texts.proofs.editions.add_editions.Given as goal

-- the editions that are left go on with what was added, and resolve from their records
abbrev pub invariant-loop-group : goal.invariant-loop-group
invariant-loop-group l = record {
  text : (after : List ℕ) → AddsEach l.form (pairs_of (drop l.group-index l.groups)) l.text.items after
      → AddsEach l.form (pairs_of l.groups) l.initial.text.items after;
  doubts : l.all.items ++ doubts_in (pairs_of (drop l.group-index l.groups)) ≡ doubts_in (pairs_of l.groups);
  editions : AreEditions (pairs_of (drop l.group-index l.groups));
}
