use Rattle.std.proofs.Common.{◌≡◌, ◌∙◌, ℕ, refl, ap}
use Rattle.union_base.specs.Bodies.{Body, Control, Data, subfields_of}
use Rattle.holdings_book.specs.Holdings.{first_text, text_in}
use Rattle.holdings_book.proofs.holdings.text_in.Goals as goal

-- a control field has no subfields, and so none with that code
of_subfields : (code : ℕ) (body : Body) → first_text code (subfields_of body) ≡ text_in code body
of_subfields code (Control text) = refl
of_subfields code (Data ind1 ind2 subfields) = refl

pub returns : goal.returns
returns c = c.first_text.ensures ∙ (ap (first_text c.args.code) c.subfields.ensures ∙ of_subfields c.args.code c.args.body.now)
