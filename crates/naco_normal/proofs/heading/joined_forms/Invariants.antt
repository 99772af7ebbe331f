use Rattle.std.proofs.Common.{◌≡◌, false, All, IsUtf8}
use Rattle.union_base.specs.Bodies.{Subfield}
use Rattle.naco_normal.specs.Parts.{parts_of}
use Rattle.naco_normal.specs.Words.{joined}
use Rattle.naco_normal.proofs.heading.joined_forms.Given as goal

-- the form so far, and what the subfields that are left add
abbrev pub invariant-loop-subfield : goal.invariant-loop-subfield
invariant-loop-subfield l = record {
  form : joined l.form.items (parts_of l.first l.seen l.codes l.subfield-iterator) ≡ parts_of l.first false l.codes l.fn.subfields;
  texts : All (λ (s : Subfield). IsUtf8 s.text) l.subfield-iterator;
}
