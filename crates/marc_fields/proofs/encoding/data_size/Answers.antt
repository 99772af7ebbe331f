use Rattle.std.proofs.Common.{true, false, ◌≡◌, length, map, refl, arith, None, Some}
use Rattle.std.specs.Prelude.{if◌then◌else◌, min}
use Rattle.std.specs.List.{flat_map, list_all}
use Rattle.marc_fields.specs.Spelling.{stored, is_short}
use Rattle.marc_fields.proofs.AppendingLaws.{length-stored, short-at, seen-at, seen-below}
use Rattle.marc_fields.proofs.encoding.data_size.Goals as goal

pub returns-then-more-gt-LONGEST_FIELD : goal.returns-then-more-gt-LONGEST_FIELD
returns-then-more-gt-LONGEST_FIELD g c =
    let field = g.F.HasField.field in
    let xs = c.args.fields.now in
    let fields = map field xs in
    let i = c.loop-each.each-index in
    let f = c.field.result.now in
    let below = seen-below field xs i c.loop-each-test.true in
    let is = seen-at field xs i c.each-item.result f c.loop-each-test.true c.each-item.is c.field.ensures in
    elim (list_all is_short fields) as (λ b. list_all is_short fields ≡ b
    → None ≡ (if b then Some (min (length (flat_map stored fields)) 100000) else None)) [
      | true ↦ λ all.
          absurd (omega (arith, c.if-more-gt-LONGEST_FIELD.true, c.stored_size-more.ensures, short-at fields i f all below is, length-stored f))
      | false ↦ λ _. refl
    ] refl
