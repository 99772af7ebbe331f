-- A catalogue as a value: its history, and its table of names, which no turn changes.
use Rattle.std.specs.Prelude.{refl, List, []}
use Rattle.std.specs.Coded.{Coded, code_by, coded×, coded_list, coded_option, coded_ℕ}
use Rattle.std.specs.FinMap.{code, empty}
use Rattle.authority_names.specs.Leads.{Table}
use Rattle.catalogue_editions.specs.contracts.history_entry.HistoryEntry.{the_row}
use Rattle.catalogue_editions.specs.declared.history_entry.HistoryEntry.{HistoryEntry}

-- what contracts see of a catalogue
pub record CatalogueValue : Type 0 where
  pub history : List HistoryEntry
  pub names : Table

-- by which proofs tell such values apart: the codes of the two parts
abbrev pub catalogue_code : Coded CatalogueValue
catalogue_code =
    code_by (List HistoryEntry × Table) (coded× (coded_list the_row.coded) (code (coded_list coded_ℕ) (coded_option (coded_list coded_ℕ))))
    (λ c. (c.history, c.names)) (λ p. record { history = p.0; names = p.1 }) (λ _. refl)

-- a catalogue by this table, without history
abbrev pub by_names : Table → CatalogueValue
by_names names = record { history = []; names = names }

-- the empty catalogue has no names
abbrev pub empty_catalogue : CatalogueValue
empty_catalogue = by_names empty
