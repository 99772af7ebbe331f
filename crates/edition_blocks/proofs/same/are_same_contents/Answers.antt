use Rattle.std.proofs.Common.{ap}
use Rattle.field_merge.specs.Equal.{same_contents}
use Rattle.field_merge.specs.declared.content.Content.{Content}
use Rattle.edition_blocks.proofs.SameLaws.{nine-each, nine-all}
use Rattle.edition_blocks.proofs.same.are_same_contents.Goals as goal

pub returns : goal.returns
returns c = (
  λ t. (let each = nine-each c.are_same_lists-contributors.result c.are_same_fixed-fixed.result c.are_same_slots-f005.result c.are_same_slots-f010.result c.are_same_slots-f040.result c.are_same_slots-f1xx.result c.are_same_slots-f240.result c.is_same_slot-f245.result c.are_same_lists-united.result t in
      same_contents c.args.one.now c.args.other.now (record {
        contributors = c.are_same_lists-contributors.ensures.0 each.0;
        fixed = c.are_same_fixed-fixed.ensures.0 each.1;
        f005 = c.are_same_slots-f005.ensures.0 each.2;
        f010 = c.are_same_slots-f010.ensures.0 each.3;
        f040 = c.are_same_slots-f040.ensures.0 each.4;
        f1xx = c.are_same_slots-f1xx.ensures.0 each.5;
        f240 = c.are_same_slots-f240.ensures.0 each.6;
        f245 = c.is_same_slot-f245.ensures.0 each.7;
        united = c.are_same_lists-united.ensures.0 each.8;
      })),
  λ e. nine-all c.are_same_lists-contributors.result c.are_same_fixed-fixed.result c.are_same_slots-f005.result c.are_same_slots-f010.result c.are_same_slots-f040.result c.are_same_slots-f1xx.result c.are_same_slots-f240.result c.is_same_slot-f245.result c.are_same_lists-united.result
      (c.are_same_lists-contributors.ensures.1 (ap (λ (x : Content). x.contributors) e))
      (c.are_same_fixed-fixed.ensures.1 (ap (λ (x : Content). x.fixed) e))
      (c.are_same_slots-f005.ensures.1 (ap (λ (x : Content). x.f005) e))
      (c.are_same_slots-f010.ensures.1 (ap (λ (x : Content). x.f010) e))
      (c.are_same_slots-f040.ensures.1 (ap (λ (x : Content). x.f040) e))
      (c.are_same_slots-f1xx.ensures.1 (ap (λ (x : Content). x.f1xx) e))
      (c.are_same_slots-f240.ensures.1 (ap (λ (x : Content). x.f240) e))
      (c.is_same_slot-f245.ensures.1 (ap (λ (x : Content). x.f245) e))
      (c.are_same_lists-united.ensures.1 (ap (λ (x : Content). x.united) e)),
)
