-- What a library does with its records in one turn.
use Rattle.std.specs.Prelude.{ℕ, Bool, true, false, ◌&&◌, ◌==◌, nat_eq, nat_le, List, [], ◌∷◌, length, Option}
use Rattle.std.specs.List.{list_all}
use Rattle.std.specs.Option.{option_map_or}
use Rattle.std.specs.Cmp.Lexicographic.{pointwise}
use Rattle.union_base.specs.declared.record_id.RecordId.{RecordId}
use Rattle.field_merge.specs.Preferences.{most_codes}
use Rattle.field_merge.specs.declared.content.Content.{Content}
use Rattle.field_merge.specs.declared.slot.Slot.{Slot}
use Rattle.catalogue_editions.specs.declared.edition.Edition.{Edition}
use Rattle.catalogue_editions.specs.declared.op.Op.{Op}
use Rattle.catalogue_editions.specs.declared.op.Op.TheVariants.{Load, Withdraw}

-- there is one id, of that library
abbrev pub is_one_of : List ℕ → List RecordId → Bool
is_one_of library [] = false
is_one_of library (id ∷ []) = pointwise nat_eq id.library library
is_one_of library (id ∷ more ∷ rest) = false

-- the slot has that level in its rank, where there is one
abbrev pub is_at_level : ℕ → Option Slot → Bool
is_at_level level slot = option_map_or (λ s. s.rank.level == level) slot true

-- the fixed part and all slots have one level in their ranks, which a preference gives
abbrev pub has_one_level : Content → Bool
has_one_level c =
    let level = c.fixed.rank.level in
    (nat_le level most_codes && (c.f245.rank.level == level))
    && ((is_at_level level c.f005 && (is_at_level level c.f010 && is_at_level level c.f040)) && (is_at_level level c.f1xx && is_at_level level c.f240))

-- an edition of one record, of that library, at one level
abbrev pub is_own : List ℕ → Edition → Bool
is_own library e = is_one_of library e.content.contributors && has_one_level e.content

-- an operation on a record of that library
abbrev pub is_own_op : List ℕ → Op → Bool
is_own_op library (Load e) = is_own library e
is_own_op library (Withdraw number) = true

-- the most operations of one turn
abbrev pub largest_batch : ℕ
largest_batch = 256

-- the operations of one turn
abbrev pub is_batch : List ℕ → List Op → Bool
is_batch library ops = (nat_le 1 (length ops) && nat_le (length ops) largest_batch) && list_all (is_own_op library) ops
