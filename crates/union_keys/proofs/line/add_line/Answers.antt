use Rattle.std.proofs.Common.{◌++◌, ap, ◌∙◌, arith}
use Rattle.union_keys.specs.Lines.{line_of}
use Rattle.union_keys.proofs.line.add_line.Goals as goal

pub returns : goal.returns
returns c = record {
  editions = c.in_ok-editions.editions.items;
  resolved = c.in_ok-editions.ensures;
  counted = omega (arith, c.len.ensures, c.in_ok-editions.editions.ok.0);
  text = c.in_ok-add_columns.ensures ∙ ap (λ e. c.args.text.now.items ++ line_of c.args.members.now e) c.as_slice.ensures.value;
}
