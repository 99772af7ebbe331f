use Rattle.std.proofs.Common.{◌∙◌}
use Rattle.union_explain.specs.Reports.{refused_by}
use Rattle.union_explain.proofs.ReportLaws.{rising-taken, IsRising-taken}
use Rattle.union_explain.proofs.reported.refused_of.Goals as goal

pub loop-line-preserved-in-Continue-1 : goal.loop-line-preserved-in-Continue-1
loop-line-preserved-in-Continue-1 c = record {
  told = rising-taken (refused_by c.args.library.now) c.in-Some.line.now c.loop-line.lines c.next.new.self c.loop-line.found.items
      c.push.new.self.items c.loop-line.last c.in-Some-refused_by.reported c.in-Some.ensures c.in-Some-refused_by.ensures
      c.if-last-reported.true c.in_ok-push.ensures.items ∙ c.loop-line.invariant.told;
  rises = IsRising-taken c.loop-line.found.items c.push.new.self.items c.loop-line.last c.in-Some-refused_by.reported
      c.if-last-reported.true c.in_ok-push.ensures.items c.loop-line.invariant.rises;
}
