use Rattle.std.proofs.Common.{◌∙◌}
use Rattle.union_explain.proofs.RunLaws.{three_parts, counts_text-is}
use Rattle.union_explain.proofs.run.counts_text.Goals as goal

pub returns : goal.returns
returns c =
    three_parts c.new-text.result.items c.add_count.new.text.items c.add_count-2.new.text.items c.add_count-3.new.text.items
    c.push.new.self.items _ _ _ c.new-text.ensures.items c.in_ok-add_count.ensures c.in_ok-add_count-2.ensures c.in_ok-add_count-3.ensures
    c.in_ok-push.ensures.items
    ∙ counts_text-is c.told_lines-lines.result _ c.args.rows _ c.told_lines-lines.ensures c.saturating_sub.ensures
