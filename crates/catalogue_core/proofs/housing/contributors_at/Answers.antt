use Rattle.std.proofs.Common.{◌∙◌}
use Rattle.std.specs.Prelude.{Some, None}
use Rattle.swoosh_resolver.specs.Tables.{block_at}
use Rattle.catalogue_core.proofs.StayLaws.{contributors-answered}
use Rattle.catalogue_core.proofs.housing.contributors_at.Goals as goal

pub returns-in-Some : goal.returns-in-Some
returns-in-Some c =
    c.as_slice.ensures.value ∙ c.contributors.ensures
    ∙ contributors-answered (block_at c.args.blocks.now.blocks c.args.number) (Some c.in-Some.edition.now) c.in-Some.ensures

pub returns-in-None : goal.returns-in-None
returns-in-None c = contributors-answered (block_at c.args.blocks.now.blocks c.args.number) None c.in-None.ensures
