use Rattle.marc_fields.specs.Spelling.{leader_bytes}
use Rattle.marc_fields.proofs.AppendingLaws.{Appends-extended}
use Rattle.marc_fields.proofs.SpellingLaws.{leader_of-printable}
use Rattle.marc_fields.proofs.encoding.append_leader.Goals as goal

pub returns-clause-text : goal.returns-clause-text
unfolding leader_bytes
returns-clause-text c = Appends-extended c.extend_from_slice.result _ _ _ _ c.write_leader.ensures.text c.extend_from_slice.ensures.items

pub returns-clause-codes : goal.returns-clause-codes
returns-clause-codes c = leader_of-printable c.write_leader.new.into _ c.write_leader.auto.into c.write_leader.ensures.read
