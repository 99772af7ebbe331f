use Rattle.std.proofs.Common.{◌≡◌, Some, map, ◌∙◌, ap}
use Rattle.std.specs.Map.{keys_of}
use Rattle.feature_index.specs.Postings.{key_at}
use Rattle.swoosh_resolver.specs.Tables.{ArePlaced, HasOwn, standings_of}
use Rattle.swoosh_resolver.proofs.Moving.{all-moved, based-moved, row-within, values-moved}
use Rattle.swoosh_resolver.proofs.install.moved.Goals as goal

pub moved_all-requires : goal.moved_all-requires
moved_all-requires g c e there place among =
    let table = c.into_parts-values.result.1 in
    let are : map (key_at c.rows_of.new.postings) c.as_slice.result.now ≡ map Some (keys_of table) = rw c.as_slice.ensures.value (rw c.in_ok-keys.ensures at c.in_ok-rows.ensures.places) in
    let placed : ArePlaced (HasOwn g.R.Resolvable.is_posted) table c.into_parts-values.result.0.items = rw c.into_parts-values.ensures.values c.into_parts-values.ensures.placed in
    row-within c.rows_of.new.postings table c.as_slice.result.now are place ((placed e there).rows place among)

pub returns-clause-values : goal.returns-clause-values
returns-clause-values g c =
    rw c.in_ok-moved.ensures (values-moved c.as_slice.result.now c.into_parts-values.result.0.items ∙ ap standings_of c.into_parts-values.ensures.values)

pub returns-clause-placed : goal.returns-clause-placed
returns-clause-placed g c =
    let table = c.into_parts-values.result.1 in
    let are : map (key_at c.rows_of.new.postings) c.as_slice.result.now ≡ map Some (keys_of table) = rw c.as_slice.ensures.value (rw c.in_ok-keys.ensures at c.in_ok-rows.ensures.places) in
    let placed : ArePlaced (HasOwn g.R.Resolvable.is_posted) table c.into_parts-values.result.0.items = rw c.into_parts-values.ensures.values c.into_parts-values.ensures.placed in
    rw c.in_ok-moved.ensures (all-moved c.rows_of.new.postings table c.as_slice.result.now are g.R.Resolvable.is_posted c.into_parts-values.result.0.items placed)

pub returns-clause-based : goal.returns-clause-based
returns-clause-based g c =
    rw c.in_ok-moved.ensures (based-moved c.as_slice.result.now c.into_parts-values.result.0.items (rw c.into_parts-values.ensures.values c.into_parts-values.ensures.based))
