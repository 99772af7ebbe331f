use Rattle.std.proofs.Common.{◌≡◌, ◌^◌, ◌<◌, true, rules, arith, ap, ◌∙◌}
use Rattle.marc_leader.specs.Codes.{are_printable}
use Rattle.marc_leader.specs.Leader.{leader_text, leader_of}
use Rattle.marc_leader.proofs.LeaderLaws.{leader_of-text}
use Rattle.marc_leader.proofs.leader.write_leader.Goals as goal

pub returns-clause-read : goal.returns-clause-read
returns-clause-read c =
    let text : c.copy_from_slice.new.self ≡ leader_text c.args.leader.now = search rules in
    let printable : are_printable c.args.leader.now.codes ≡ true = rw (← c.codes.view_is) c.codes.invariant in
    let long : c.args.leader.now.length < 10 ^ 5 = omega arith in
    let far : c.args.leader.now.base < 10 ^ 5 = omega arith in
    ap leader_of text ∙ leader_of-text c.args.leader.now.length c.args.leader.now.base c.args.leader.now.codes printable long far
