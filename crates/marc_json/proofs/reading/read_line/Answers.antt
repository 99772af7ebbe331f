use Rattle.std.proofs.Common.{◌≡◌, true, Option, Some, IfOk, IfErr, IsSomeAnd, sym, ◌∙◌, subst}
use Rattle.serde_json.specs.Data.{Data as Json}
use Rattle.serde_json.specs.View.{view}
use Rattle.marc_json.specs.Shapes.{value_in, StandsFor, IsCause}
use Rattle.marc_json.proofs.ShapeLaws.{value_in-utf8, no_value}
use Rattle.marc_json.proofs.reading.read_line.Goals as goal

pub returns-in-Ok-clause-found : goal.returns-in-Ok-clause-found
returns-in-Ok-clause-found c =
    let is : value_in c.args.line.now ≡ Some (view c.in-Ok.value) = value_in-utf8 c.args.line.now c.in-Ok.ensures.ok.0 ∙ c.in-Ok.ensures.ok.1 in
    let P : Option Json → Type 0 = λ value. IfOk c.record_in.result (λ r. IsSomeAnd value (λ v. StandsFor v r)) in
    subst P (sym is) c.record_in.ensures.found

pub returns-in-Ok-clause-refused : goal.returns-in-Ok-clause-refused
returns-in-Ok-clause-refused c =
    let is : value_in c.args.line.now ≡ Some (view c.in-Ok.value) = value_in-utf8 c.args.line.now c.in-Ok.ensures.ok.0 ∙ c.in-Ok.ensures.ok.1 in
    let P : Option Json → Type 0 = λ value. IfErr c.record_in.result (λ refusal. IsCause refusal value) in
    subst P (sym is) c.record_in.ensures.refused

pub returns-else-is_memory-clause-refused : goal.returns-else-is_memory-clause-refused
returns-else-is_memory-clause-refused c =
    no_value c.args.line.now (c.in-Err.ensures.err (λ m. let said : c.is_memory.result ≡ true = c.is_memory.ensures.1 m in cc))
