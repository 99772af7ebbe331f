-- The work keys of the blocks that a change closes.
use Rattle.std.specs.Prelude.{ℕ, List, Option, filter_map}
use Rattle.std.specs.Option.{option_map}
use Rattle.union_base.specs.declared.record_id.RecordId.{RecordId}
use Rattle.swoosh_resolver.specs.Tables.{Entry, block_at}
use Rattle.record_editions.specs.EditionKeys.{work_key_by}
use Rattle.authority_names.specs.Leads.{Table}
use Rattle.catalogue_editions.specs.Ids.{least}
use Rattle.catalogue_editions.specs.declared.edition.Edition.{Edition}

-- the work keys of the editions of the blocks under the numbers, each with the id by which its edition is named
abbrev pub closed_pairs : Table → List (Option (Entry Edition ℕ)) → List ℕ → List (List ℕ × RecordId)
closed_pairs names blocks closed = filter_map (λ n. option_map (λ e. (work_key_by names e.value, least e.value)) (block_at blocks n)) closed
