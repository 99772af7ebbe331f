use Rattle.std.proofs.Common.{◌++◌, ap, ◌∙◌}
use Rattle.std.specs.Prelude.{codes, Option}
use Rattle.std.specs.BTreeMap.{get}
use Rattle.union_base.specs.declared.record_id.RecordId.{RecordId}
use Rattle.union_base.specs.RecordIds.{id_cmp}
use Rattle.workset_keys.specs.WorkKeys.{own_name}
use Rattle.change_notices.specs.Notices.{end_by}
use Rattle.change_notices.proofs.NoticeLaws.{pushed-more}
use Rattle.change_notices.proofs.notice.add_edition.Goals as goal

pub loop-id-preserved : goal.loop-id-preserved
loop-id-preserved c =
    let moved = c.args.words.now.moved.now in
    let alone = c.args.words.now.alone.now in
    let id = c.id-item.result in
    pushed-more (λ (id : RecordId). codes " " ++ own_name id ++ end_by moved alone (get id_cmp c.args.names.now id)) c.as_slice-ids.result.now c.loop-id.id-index id
    c.push.new.self.items c.loop-id.lines.items c.push-in-loop-id.new.self.items c.in_ok-contributor_line.field-0 c.loop-id-test.true c.id-item.is
    (c.in_ok-contributor_line.ensures ∙ ap (λ (n : Option RecordId). codes " " ++ own_name id ++ end_by moved alone n) c.get.ensures.value)
    c.loop-id.invariant c.in_ok-push-2.ensures.items
