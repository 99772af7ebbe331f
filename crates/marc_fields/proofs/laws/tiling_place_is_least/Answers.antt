use Rattle.marc_fields.proofs.TilingPlaces.{tiling-place}
use Rattle.marc_fields.proofs.laws.tiling_place_is_least.Goals as goal

pub returns : goal.returns
returns c = tiling-place
