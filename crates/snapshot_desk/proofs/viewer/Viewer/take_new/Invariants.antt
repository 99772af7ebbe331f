use Rattle.std.proofs.Common.{◌≡◌}
use mathlib.Core.List.{IsPrefix}
use Rattle.snapshot_desk.proofs.viewer.Viewer.take_new.Given as goal

-- what was seen and what was learnt only grew
abbrev pub invariant-loop : goal.invariant-loop
invariant-loop l = (l.self.book ≡ l.initial.self.book) × IsPrefix l.initial.self.seen l.self.seen × IsPrefix l.initial.self.learnt l.self.learnt
