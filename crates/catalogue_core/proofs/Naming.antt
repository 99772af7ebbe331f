-- Which editions the homes of contributors name.
use Rattle.std.specs.Prelude.{ℕ, if◌then◌else◌, List, filter_map, Option, Some, None}
use Rattle.std.specs.Option.{option_and_then}
use Rattle.std.specs.BTreeMap.{is_at}
use Rattle.union_base.specs.declared.record_id.RecordId.{RecordId}
use Rattle.union_base.specs.RecordIds.{id_cmp}
use Rattle.swoosh_resolver.specs.Tables.{block_at}
use Rattle.catalogue_editions.specs.Ids.{least}
use Rattle.catalogue_editions.specs.declared.edition.Edition.{Edition}
use Rattle.turn_plans.specs.Histories.{MapOf}
use Rattle.turn_plans.specs.Homes.{Block}
use Rattle.record_homes.specs.declared.home.Home.{Home}

-- the edition that is the block of the home, where its least contributor is the id
abbrev pub named : List (Option Block) → RecordId × Home → Option Edition
named blocks (id, home) = option_and_then (λ e. if is_at (id_cmp id) (least e.value) then Some e.value else None) (block_at blocks home.block)

-- the editions, in the order of their least contributors
abbrev pub named_in : List (Option Block) → MapOf Home → List Edition
named_in blocks homes = filter_map (named blocks) homes
