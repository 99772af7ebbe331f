use Rattle.std.proofs.Common.{◌≡◌, IsTrue, length}
use Rattle.field_merge.specs.Preferences.{are_preferred, preference_of}
use Rattle.field_merge.proofs.PreferredLaws.{preference_after, texts_left}
use Rattle.field_merge.proofs.preference.Preference.read.Given as goal

-- the codes so far, and what the texts that are left make of them
abbrev pub invariant-loop-rest : goal.invariant-loop-rest
invariant-loop-rest l = record {
  preferred : IsTrue (are_preferred l.preference);
  left : preference_of l.fn.text ≡ preference_after l.preference (texts_left l.rest);
}

abbrev pub decreases-loop-rest : goal.decreases-loop-rest
decreases-loop-rest l = length (texts_left l.rest)
