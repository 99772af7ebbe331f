use Rattle.std.proofs.Common.{◌≡◌, take}
use Rattle.std.specs.List.{flat_map}
use Rattle.edition_doubts.specs.Reasons.{form_of}
use Rattle.edition_doubts.proofs.codes.forms_differ.Given as goal

abbrev pub invariant-loop-content : goal.invariant-loop-content
invariant-loop-content l = l.forms.items ≡ flat_map form_of (take l.content-index l.contents)
