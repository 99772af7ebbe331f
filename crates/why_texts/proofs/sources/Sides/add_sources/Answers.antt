use Rattle.std.proofs.Common.{refl}
use Rattle.why_texts.specs.Sources.{sources_text}
use Rattle.why_texts.proofs.sources.Sides.add_sources.Goals as goal

pub returns : goal.returns
unfolding sources_text
returns c = rw (c.in_ok-add_rules.ensures, c.features-y.ensures, c.features-x.ensures) refl
