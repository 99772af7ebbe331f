use Rattle.serde_json.specs.Data.{no_members}
use Rattle.serde_json.specs.View.{view, members_view}
use Rattle.marc_json.proofs.ShapeLaws.{third_member}
use Rattle.marc_json.proofs.reading.data_members.Goals as goal

pub returns-in_err-subfields-clause-missing : goal.returns-in_err-subfields-clause-missing
returns-in_err-subfields-clause-missing c =
    rw c.from_residual-in_err-subfields.ensures
    (λ ind1 ind2 subfields e. c.in_err-subfields.ensures.missing subfields no_members
    (third_member (view c.args.value.now) ind1 ind2 subfields (view c.in_ok-ind1.ind1.now) (view c.in_ok-ind2.ind2.now)
    (members_view c.iter-members.result) (members_view c.next_under.new.members) (members_view c.next_under-2.new.members)
    (rw c.iter-members.ensures.rest c.in_ok-as_object.ensures) c.in_ok-ind1.ensures.found c.in_ok-ind2.ensures.found e))
