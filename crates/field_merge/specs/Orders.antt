-- The orders of ids, ranks, slots and fixed parts: by their fields, one after the other.
use Rattle.std.specs.declared.cmp.Ordering.{Ordering}
use Rattle.std.specs.Ordering.{nat_cmp, then_cmp, on}
use Rattle.std.specs.Cmp.Lexicographic.{slice_cmp}
use Rattle.union_base.specs.FieldOrder.{field_cmp}
use Rattle.marc_leader.specs.Codes.{Codes}
use Rattle.field_merge.specs.declared.rank.Rank.{Rank}
use Rattle.field_merge.specs.declared.slot.Slot.{Slot}
use Rattle.field_merge.specs.declared.fixed.Fixed.{Fixed}

-- by rank: level, class, stamp, library, control number
abbrev pub rank_cmp : Rank → Rank → Ordering
rank_cmp =
    then_cmp (on (λ r. r.level) nat_cmp) (then_cmp (on (λ r. r.class) nat_cmp) (then_cmp (on (λ r. r.stamp) (slice_cmp nat_cmp))
    (then_cmp (on (λ r. r.library) (slice_cmp nat_cmp)) (on (λ r. r.control) (slice_cmp nat_cmp)))))

-- slots are compared by rank, and then by their fields
abbrev pub slot_cmp : Slot → Slot → Ordering
slot_cmp = then_cmp (on (λ s. s.rank) rank_cmp) (on (λ s. s.field) field_cmp)

-- by the nine codes in the order of their places
abbrev pub codes_cmp : Codes → Codes → Ordering
codes_cmp =
    then_cmp (on (λ c. c.status) nat_cmp) (then_cmp (on (λ c. c.kind) nat_cmp) (then_cmp (on (λ c. c.level) nat_cmp)
    (then_cmp (on (λ c. c.control) nat_cmp) (then_cmp (on (λ c. c.coding) nat_cmp) (then_cmp (on (λ c. c.encoding) nat_cmp)
    (then_cmp (on (λ c. c.form) nat_cmp) (then_cmp (on (λ c. c.part) nat_cmp) (on (λ c. c.last) nat_cmp))))))))

-- fixed parts are compared by rank, then by the leader's codes, then by the text of 008
abbrev pub fixed_cmp : Fixed → Fixed → Ordering
fixed_cmp = then_cmp (on (λ f. f.rank) rank_cmp) (then_cmp (on (λ f. f.codes) codes_cmp) (on (λ f. f.text) (slice_cmp nat_cmp)))
