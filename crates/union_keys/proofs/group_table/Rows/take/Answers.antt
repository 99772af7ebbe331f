use Rattle.std.proofs.Common.{◌-◌, arith}
use Rattle.union_keys.proofs.TableLaws.{group-ended, member-added}
use Rattle.union_keys.proofs.group_table.Rows.take.Goals as goal

pub returns-in_ok-end_group-clause-groups : goal.returns-in_ok-end_group-clause-groups
returns-in_ok-end_group-clause-groups c =
    let rows = c.args.self.now in
    let ended = c.end_group.new.self in
    λ later after t.
    group-ended c.args.standings.now rows.members.items ended.members.items later rows.number ended.number c.args.word rows.text.items ended.text.items after
    c.if-word-eq0.true c.in_ok-end_group.ensures.rows c.in_ok-end_group.ensures.number c.in_ok-end_group.ensures.members t

pub returns-in_ok-add_member-clause-groups : goal.returns-in_ok-add_member-clause-groups
returns-in_ok-add_member-clause-groups c =
    let rows = c.args.self.now in
    let word = c.args.word in
    λ later after t.
    member-added c.args.standings.now rows.members.items c.add_member.new.members.items later rows.number word (word - 1) rows.text.items after
    (omega (arith, c.if-word-eq0.false)) c.in_ok-add_member.ensures t
