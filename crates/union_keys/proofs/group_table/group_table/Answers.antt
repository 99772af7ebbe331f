use Rattle.std.proofs.Common.{◌/◌, ◌++◌, length, ap, subst, ◌∙◌, arith}
use Rattle.union_keys.specs.GroupTables.{groups_by, groups_in, groups_of, AddsGroups}
use Rattle.union_keys.specs.Tables.{record_rows}
use Rattle.union_keys.proofs.TableLaws.{word-first, word-front, groups-last}
use Rattle.union_keys.proofs.group_table.group_table.Goals as goal

pub loop-rest-init : goal.loop-rest-init
loop-rest-init c =
    let all = c.args.standings.now in
    let groups = c.args.groups.now in
    let rows = c.in_ok-add_records.ensures ∙ ap (λ text. text ++ record_rows all) c.new-text.ensures.items in
    record {
      added = λ after t.
          subst (λ text. AddsGroups 0 (groups_of all groups) text after) rows
          (subst (λ members. AddsGroups 0 (groups_in all (length groups / 8) groups members) c.add_records.new.text.items after) c.new.ensures.items t);
      few = omega arith;
    }

pub loop-rest-preserved : goal.loop-rest-preserved
loop-rest-preserved c =
    let all = c.args.standings.now in
    let rest = c.loop-rest.rest.now in
    let behind = c.split_at.result.1.now in
    let rows = c.loop-rest.rows in
    let later = groups_in all (length behind / 8) behind in
    let is = c.word_in.ensures ∙ word-front rest c.split_at.result.0.now c.loop-rest-test.true c.split_at.ensures.front in
    record {
      added = λ after t.
          c.loop-rest.invariant.added after
          (word-first all rest behind rows.members.items rows.number rows.text.items after c.loop-rest-test.true c.split_at.ensures.back
          (subst (λ w. AddsGroups rows.number (groups_by all w rows.members.items later) rows.text.items after) is
          (c.in_ok-take.ensures.groups later after t)));
      few = omega (arith, c.loop-rest.invariant.few, c.split_at.ensures.back_len, c.in_ok-take.ensures.number);
    }

pub returns : goal.returns
returns c =
    c.loop-rest.invariant.added c.loop-rest.rows.text.items
    (groups-last c.args.standings.now c.loop-rest.rest.now c.loop-rest.rows.members.items c.loop-rest.rows.number c.loop-rest.rows.text.items c.loop-rest-test.false)
