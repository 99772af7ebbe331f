use Rattle.edition_sources.proofs.MemberFields.{of-members, shown-in}
use Rattle.edition_sources.proofs.laws.fields_are_of_members.Goals as goal

pub returns : goal.returns
returns c = record { of = of-members; shown = shown-in }
