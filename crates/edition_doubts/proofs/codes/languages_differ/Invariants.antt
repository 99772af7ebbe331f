use Rattle.std.proofs.Common.{◌≡◌, take}
use Rattle.std.specs.List.{flat_map}
use Rattle.edition_doubts.specs.Reasons.{language_of}
use Rattle.edition_doubts.proofs.codes.languages_differ.Given as goal

abbrev pub invariant-loop-content : goal.invariant-loop-content
invariant-loop-content l = l.languages.items ≡ flat_map language_of (take l.content-index l.contents)
