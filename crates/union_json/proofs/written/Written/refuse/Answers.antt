use Rattle.std.proofs.Common.{◌+◌, length, sym, ap, subst, ◌∙◌}
use Rattle.std.proofs.lemmas.List.{length_push}
use Rattle.library_batches.specs.Streams.{AreSpelled}
use Rattle.union_files.proofs.FrameLaws.{accepted-refused_more, refused-one_more}
use Rattle.union_json.proofs.written.Written.refuse.Goals as goal

pub returns-clause-counted : goal.returns-clause-counted
returns-clause-counted c =
    λ frame fails all before.
    let same = accepted-refused_more all frame _ fails in
    record {
      records = before.records;
      spelled = subst (λ frames. AreSpelled frames before.records) (sym same) before.spelled;
      lines = before.lines;
      frames = ap (λ n. n + 1) before.frames ∙ sym (length_push all frame);
      written = before.written ∙ sym (ap length same);
      refused = rw before.refused at c.in_ok-push.ensures.items
          ∙ sym (refused-one_more all frame _ (c.args.self.now.frames + 1) (ap (λ n. n + 1) before.frames) fails);
    }
