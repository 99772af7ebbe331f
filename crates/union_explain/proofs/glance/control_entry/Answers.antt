use Rattle.std.proofs.Common.{◌≡◌, ◌∙◌, ◌<◌, ◌-◌, sym, ap, take, find, false, arith}
use Rattle.marc_fields.specs.Rules.{entry_texts}
use Rattle.union_explain.specs.Glances.{is_control_entry}
use Rattle.union_explain.proofs.EntryLaws.{find-behind}
use Rattle.union_explain.proofs.glance.control_entry.Goals as goal

pub loop-left-preserved : goal.loop-left-preserved
loop-left-preserved c =
    let rest = c.loop-left.rest.now in
    let left = c.loop-left.left in
    let some : 0 < left = omega (arith, c.loop-left-test.true) in
    let other : is_control_entry (take 12 rest) ≡ false =
    ap is_control_entry (sym c.split_at.ensures.front) ∙ (sym c.is_control_entry.ensures ∙ c.if-is_control_entry.false) in
    record {
      found = ap (λ xs. find is_control_entry (entry_texts (left - 1) xs)) c.split_at.ensures.back
          ∙ (find-behind left rest some other ∙ c.loop-left.invariant.found);
      room = omega (arith, c.loop-left.invariant.room, c.split_at.ensures.back_len, some);
    }
