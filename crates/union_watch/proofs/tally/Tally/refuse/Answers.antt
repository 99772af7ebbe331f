use Rattle.std.proofs.Common.{◌+◌, sym, ap, ◌∙◌}
use Rattle.std.specs.Prelude.{count_by, not}
use Rattle.std.proofs.lemmas.List.{length_push}
use Rattle.union_files.proofs.FrameLaws.{accepted-refused_more, refused-one_more}
use Rattle.library_batches.specs.Reports.{is_withdrawing}
use Rattle.union_watch.proofs.tally.Tally.refuse.Goals as goal

pub returns-clause-counted : goal.returns-clause-counted
returns-clause-counted c =
    λ frame fails all before.
    record {
      frames = ap (λ n. n + 1) before.frames ∙ sym (length_push all frame);
      loads = before.loads ∙ sym (ap (count_by (λ f. not (is_withdrawing f))) (accepted-refused_more all frame _ fails));
      withdrawals = before.withdrawals ∙ sym (ap (count_by is_withdrawing) (accepted-refused_more all frame _ fails));
      refused = rw before.refused at c.in_ok-push.ensures.items
          ∙ sym (refused-one_more all frame _ (c.args.self.now.frames + 1) (ap (λ n. n + 1) before.frames) fails);
    }
