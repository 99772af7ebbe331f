use Rattle.std.proofs.Common.{◌≡◌, ◌+◌, ◌<◌, ◌≤◌, List, ℕ, Some, length, slice_get, if◌then◌else◌}
use Rattle.std.specs.FinMap.{get}
use Rattle.std.specs.List.{list_any}
use Rattle.indexmap.specs.IndexMap.{keys, spare}
use Rattle.authority_names.specs.Names.{is_same}
use Rattle.authority_names.specs.Leads.{joined_lead}
use Rattle.authority_names.specs.Places.{table_of, HasPlaces}
use Rattle.authority_names.proofs.leads.lead_all.Given as goal

-- the variants so far lead to the place
abbrev pub invariant-loop-variant : goal.invariant-loop-variant
invariant-loop-variant l = record {
  can_next : (goal.iterator-loop-variant).can_next l.variant-iterator;
  is_finite : (goal.iterator-loop-variant).is_finite l.variant-iterator;
  room : length l.fn.variants.items ≤ spare l.headings + length l.yielded;
  places : HasPlaces l.headings.entries;
  place : l.place < length l.headings.entries;
  kept : (t : List ℕ) → slice_get (keys l.initial.headings) l.place ≡ Some t → slice_get (keys l.headings) l.place ≡ Some t;
  table : (t : List ℕ) → slice_get (keys l.initial.headings) l.place ≡ Some t → (x : List ℕ) → get (table_of l.headings.entries) x
      ≡ (if list_any (λ v. is_same v x) l.yielded then Some (joined_lead (get (table_of l.initial.headings.entries) x) t) else get (table_of l.initial.headings.entries) x);
}
