-- The fields that stand before the united ones in a record, with those that the catalogue makes itself.
use Rattle.std.specs.Prelude.{List, [], ◌∷◌, ◌++◌}
use Rattle.std.specs.Option.{option_to_list}
use Rattle.union_base.specs.declared.field.Field.{Field}
use Rattle.field_merge.specs.declared.content.Content.{Content}
use Rattle.catalogue_export.specs.Exported.{slot_field}
use Rattle.catalogue_export.specs.declared.own_fields.OwnFields.{OwnFields}

-- the slots, with this field 008 among them
abbrev pub slots_around : Field → Content → List Field
slots_around fixed c =
    slot_field c.f005 ++ ((fixed ∷ []) ++ (slot_field c.f010 ++ (slot_field c.f040
    ++ (slot_field c.f1xx ++ (slot_field c.f240 ++ c.f245.field ∷ [])))))

-- the fields before the united ones
abbrev pub own_list : OwnFields → Content → List Field
own_list own c =
    option_to_list own.number ++ ((own.catalogue ∷ []) ++ (slots_around own.fixed c
    ++ ((own.key ∷ []) ++ own.contributors.items)))

-- all fields, in the order in which they are kept where not all of them fit
abbrev pub all_fields : OwnFields → Content → List Field
all_fields own c = own_list own c ++ c.united
