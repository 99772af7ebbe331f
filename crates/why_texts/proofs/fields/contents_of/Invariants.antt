use Rattle.std.proofs.Common.{◌≡◌, take}
use Rattle.why_texts.specs.Fields.{contents_of}
use Rattle.why_texts.proofs.fields.contents_of.Given as goal

-- what the records so far say
abbrev pub invariant-loop-rec : goal.invariant-loop-rec
invariant-loop-rec l = l.contents.items ≡ contents_of (take l.rec-index l.records)
