use Rattle.std.specs.Option.{option_cmp}
use Rattle.field_merge.specs.Orders.{slot_cmp, fixed_cmp}
use Rattle.field_merge.proofs.GreaterParts.{greater-either}
use Rattle.field_merge.proofs.laws.slots_of_a_merge.Goals as goal

pub returns : goal.returns
returns c = record {
  fixed = λ a b. greater-either fixed_cmp a.fixed b.fixed;
  f005 = λ a b. greater-either (option_cmp slot_cmp) a.f005 b.f005;
  f010 = λ a b. greater-either (option_cmp slot_cmp) a.f010 b.f010;
  f040 = λ a b. greater-either (option_cmp slot_cmp) a.f040 b.f040;
  f1xx = λ a b. greater-either (option_cmp slot_cmp) a.f1xx b.f1xx;
  f240 = λ a b. greater-either (option_cmp slot_cmp) a.f240 b.f240;
  f245 = λ a b. greater-either slot_cmp a.f245 b.f245;
}
