use Rattle.std.proofs.Common.{◌≡◌, ◌+◌, ◌-◌, ◌∙◌, sym, ap, arith}
use Rattle.marc_fields.specs.Rows.{least_where_not}
use Rattle.marc_fields.specs.Rules.{has_digits, entry_texts}
use Rattle.marc_fields.proofs.DirectoryLaws.{row-here, row-later}
use Rattle.marc_fields.proofs.directory.first_undigited.Goals as goal

pub returns-then-not-are_numbers : goal.returns-then-not-are_numbers
returns-then-not-are_numbers c =
    let n = c.args.count - c.loop-i.i in
    sym (c.loop-i.invariant.row ∙ row-here has_digits (c.args.before + c.loop-i.i) n c.loop-i.rest.now c.split_at.result.0.now (omega arith) c.split_at.ensures.front
    (sym c.if-not-are_numbers.ensures))

pub loop-i-preserved : goal.loop-i-preserved
loop-i-preserved c =
    let n = c.args.count - c.loop-i.i in
    let m = c.args.count - (c.loop-i.i + 1) in
    let at = c.args.before + c.loop-i.i in
    let next : at + 1 + 1 ≡ c.args.before + (c.loop-i.i + 1) + 1 = omega arith in
    record {
      size = omega (arith, c.split_at.ensures.back_len, c.loop-i.invariant.size);
      row = c.loop-i.invariant.row ∙ (row-later has_digits at n m c.loop-i.rest.now c.split_at.result.0.now c.split_at.result.1.now
          (omega arith) (omega arith) c.split_at.ensures.front c.split_at.ensures.back (sym c.if-not-are_numbers.ensures)
          ∙ ap (λ k. least_where_not has_digits k (entry_texts m c.split_at.result.1.now)) next);
    }
