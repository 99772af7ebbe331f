use Rattle.std.proofs.Common.{rules}
use Rattle.std.proofs.lemmas.List.Sorted.{IsNonDecreasingBy-from_sort, answers_always}
use Rattle.key_groups.specs.declared.notes.Noted.{Noted}
use Rattle.key_groups.proofs.pairs.sorted.Goals as goal

pub returns-clause-sorted : goal.returns-clause-sorted
returns-clause-sorted c = IsNonDecreasingBy-from_sort (λ (note : Noted). note.hash) _ (c.sort_unstable_by_key.ensures.sorted (λ (note : Noted). note.hash) (answers_always _ _ _ (λ f a r g h. search rules)))
