use Rattle.std.proofs.Common.{◌≡◌, ◌+◌, true, false, not, cond, sym, ap, ◌∙◌, add-zero}
use Rattle.std.proofs.lemmas.List.{length_push}
use Rattle.marc_parts.specs.Loads.{is_deleted}
use Rattle.union_watch.proofs.TallyLaws.{withdrawals-one_more, loads-one_more}
use Rattle.union_files.proofs.FrameLaws.{refused-accepted_more}
use Rattle.library_batches.specs.Reports.{loads, withdrawals}
use Rattle.union_watch.proofs.tally.Tally.accept.Goals as goal

pub returns-then-is_deleted-clause-counted : goal.returns-then-is_deleted-clause-counted
returns-then-is_deleted-clause-counted c =
    λ frame is all before.
    let deleted : is_deleted c.args.status ≡ true = sym c.is_deleted.ensures ∙ c.if-is_deleted.true in
    record {
      frames = ap (λ n. n + 1) before.frames ∙ sym (length_push all frame);
      loads = before.loads ∙ sym (loads-one_more all frame c.args.status is.0 is.1 ∙ (ap (λ b. loads all + cond (not b) 1 0) deleted ∙ add-zero _));
      withdrawals = ap (λ n. n + 1) before.withdrawals ∙ sym (withdrawals-one_more all frame c.args.status is.0 is.1 ∙ ap (λ b. withdrawals all + cond b 1 0) deleted);
      refused = before.refused ∙ sym (refused-accepted_more all frame is.0);
    }

pub returns-else-is_deleted-clause-counted : goal.returns-else-is_deleted-clause-counted
returns-else-is_deleted-clause-counted c =
    λ frame is all before.
    let deleted : is_deleted c.args.status ≡ false = sym c.is_deleted.ensures ∙ c.if-is_deleted.false in
    record {
      frames = ap (λ n. n + 1) before.frames ∙ sym (length_push all frame);
      loads = ap (λ n. n + 1) before.loads ∙ sym (loads-one_more all frame c.args.status is.0 is.1 ∙ ap (λ b. loads all + cond (not b) 1 0) deleted);
      withdrawals = before.withdrawals ∙ sym (withdrawals-one_more all frame c.args.status is.0 is.1 ∙ (ap (λ b. withdrawals all + cond b 1 0) deleted ∙ add-zero _));
      refused = before.refused ∙ sym (refused-accepted_more all frame is.0);
    }
