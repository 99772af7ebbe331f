-- What the current records of a catalogue say, as an export finds it.
use Rattle.std.specs.Prelude.{◌≡◌}
use Rattle.std.specs.Option.{option_map}
use Rattle.union_base.specs.declared.record_id.RecordId.{RecordId}
use Rattle.catalogue_editions.specs.declared.edition.Edition.{Edition}
use Rattle.turn_plans.specs.Histories.{MapOf, at_id}
use Rattle.catalogue_export.specs.declared.holding.Holding.{Holding}

-- what the record of that id says, whose edition is e
abbrev pub held : RecordId → Edition → Holding
held id e = record { library = id.library; content = e.content }

-- what each of these editions says is found under its id, and nothing else is found
pub record AreHeld (holdings : MapOf Holding) (editions : MapOf Edition) : Type 0 where
  pub found : (id : RecordId) → at_id holdings id ≡ option_map (held id) (at_id editions id)
