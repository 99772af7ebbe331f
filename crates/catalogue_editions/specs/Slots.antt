-- Slots that are borrowed from where they lie.
use Rattle.std.specs.Prelude.{◌≡◌, IsTrue}
use Rattle.field_merge.specs.declared.content.Content.{Content}
use Rattle.catalogue_editions.specs.Sound.{is_sound}
use Rattle.catalogue_editions.specs.declared.slots.Slots.{Slots}

-- the fixed part and each slot are those of the content
pub record AreSlotsOf (s : Slots) (c : Content) : Type 0 where
  pub fixed : s.fixed.now ≡ c.fixed
  pub f005 : s.f005.now ≡ c.f005
  pub f010 : s.f010.now ≡ c.f010
  pub f040 : s.f040.now ≡ c.f040
  pub f1xx : s.f1xx.now ≡ c.f1xx
  pub f240 : s.f240.now ≡ c.f240
  pub f245 : s.f245.now ≡ c.f245

-- they are those of a sound content
pub record AreSoundSlots (s : Slots) (c : Content) : Type 0 where
  pub slots : AreSlotsOf s c
  pub sound : IsTrue (is_sound c)
