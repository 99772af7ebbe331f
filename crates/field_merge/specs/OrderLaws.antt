-- Slots and fixed parts have total orders in which only equal ones tie.
use Rattle.std.proofs.Common.{refl, ap, rules}
use Rattle.std.specs.declared.option.Option.TheVariants.{Some, None}
use Rattle.std.specs.Option.{option_cmp}
use Rattle.std.specs.Cmp.{IsTotalOrder, nat_cmp_total, on_total, then_total}
use Rattle.std.specs.Cmp.Rules.{comparing}
use Rattle.std.specs.Cmp.Lexicographic.{options_total, nat_list_cmp_total}
use Rattle.std.specs.FinMap.{IsAntisymmetric, nat_cmp-IsAntisymmetric}
use Rattle.union_base.specs.Ties.{texts_apart, pairs_apart}
use Rattle.union_base.specs.FieldLaws.{field_cmp-IsAntisymmetric}
use Rattle.field_merge.specs.KeptLaws.{field_total}
use Rattle.field_merge.specs.Orders.{rank_cmp, slot_cmp, codes_cmp, fixed_cmp}

-- ranks are in a total order
pub rank_total : IsTotalOrder rank_cmp
rank_total = search (comparing, rules)

-- slots are in a total order
pub slot_total : IsTotalOrder slot_cmp
slot_total = then_total (on_total (λ s. s.rank) rank_total) (on_total (λ s. s.field) field_total)

-- slots that may be missing are in a total order
pub optional_slot_total : IsTotalOrder (option_cmp slot_cmp)
optional_slot_total = options_total slot_total

codes_total : IsTotalOrder codes_cmp
codes_total =
    let n = nat_cmp_total in
    then_total (on_total (λ c. c.status) n) (then_total (on_total (λ c. c.kind) n) (then_total (on_total (λ c. c.level) n)
    (then_total (on_total (λ c. c.control) n) (then_total (on_total (λ c. c.coding) n) (then_total (on_total (λ c. c.encoding) n)
    (then_total (on_total (λ c. c.form) n) (then_total (on_total (λ c. c.part) n) (on_total (λ c. c.last) n))))))))

-- fixed parts are in a total order
pub fixed_total : IsTotalOrder fixed_cmp
fixed_total =
    then_total (on_total (λ f. f.rank) rank_total) (then_total (on_total (λ f. f.codes) codes_total) (on_total (λ f. f.text) nat_list_cmp_total))

-- ranks that compare equal are one
pub ranks_apart : IsAntisymmetric rank_cmp
ranks_apart x y e =
    let same = pairs_apart nat_cmp-IsAntisymmetric (pairs_apart nat_cmp-IsAntisymmetric (pairs_apart texts_apart (pairs_apart texts_apart texts_apart)))
    (x.level, (x.class, (x.stamp, (x.library, x.control)))) (y.level, (y.class, (y.stamp, (y.library, y.control)))) e in
    λ i. record {
      level = (same i).0;
      class = (same i).1.0;
      stamp = (same i).1.1.0;
      library = (same i).1.1.1.0;
      control = (same i).1.1.1.1;
    }

-- slots that compare equal are one
pub slots_apart : IsAntisymmetric slot_cmp
slots_apart x y e =
    let same = pairs_apart ranks_apart field_cmp-IsAntisymmetric (x.rank, x.field) (y.rank, y.field) e in
    λ i. record { rank = (same i).0; field = (same i).1 }

-- slots that compare equal, or are both missing, are one
pub optional_slots_apart : IsAntisymmetric (option_cmp slot_cmp)
optional_slots_apart None None e = refl
optional_slots_apart None (Some y) e = cc
optional_slots_apart (Some x) None e = cc
optional_slots_apart (Some x) (Some y) e = ap Some (slots_apart x y e)

codes_apart : IsAntisymmetric codes_cmp
codes_apart x y e =
    let n = nat_cmp-IsAntisymmetric in
    let same = pairs_apart n (pairs_apart n (pairs_apart n (pairs_apart n (pairs_apart n (pairs_apart n (pairs_apart n (pairs_apart n n)))))))
    (x.status, (x.kind, (x.level, (x.control, (x.coding, (x.encoding, (x.form, (x.part, x.last))))))))
    (y.status, (y.kind, (y.level, (y.control, (y.coding, (y.encoding, (y.form, (y.part, y.last)))))))) e in
    λ i. record {
      status = (same i).0;
      kind = (same i).1.0;
      level = (same i).1.1.0;
      control = (same i).1.1.1.0;
      coding = (same i).1.1.1.1.0;
      encoding = (same i).1.1.1.1.1.0;
      form = (same i).1.1.1.1.1.1.0;
      part = (same i).1.1.1.1.1.1.1.0;
      last = (same i).1.1.1.1.1.1.1.1;
    }

-- fixed parts that compare equal are one
pub fixed_apart : IsAntisymmetric fixed_cmp
fixed_apart x y e =
    let same = pairs_apart ranks_apart (pairs_apart codes_apart texts_apart) (x.rank, (x.codes, x.text)) (y.rank, (y.codes, y.text)) e in
    λ i. record { rank = (same i).0; codes = (same i).1.0; text = (same i).1.1 }
