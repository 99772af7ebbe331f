use Rattle.std.proofs.Common.{◌++◌, ◌+◌, sym, ap, ◌∙◌, add-zero, append-nil}
use Rattle.std.proofs.lemmas.List.{length_push}
use Rattle.union_json.specs.Counts.{is_read, is_written, read, written, refused, refusal_at}
use Rattle.std.specs.Prelude.{cond}
use Rattle.union_json.specs.Outcomes.{Ended}
use Rattle.union_json.proofs.CountLaws.{read-more, written-more, frames_of-more, refused-more}
use Rattle.union_json.proofs.findings.Findings.count.Goals as goal

pub returns-in-Skipped-clause-counted : goal.returns-in-Skipped-clause-counted
returns-in-Skipped-clause-counted c =
    λ all before.
    let ended : Ended = (c.args.outcome, c.args.frame.now) in
    record {
      lines = ap (λ n. n + 1) before.lines ∙ sym (length_push all ended);
      read = before.read ∙ sym (read-more all ended ∙ ap (λ o. read all + cond (is_read o) 1 0) c.in-Skipped.is ∙ add-zero (read all));
      written = before.written ∙ sym (written-more all ended ∙ ap (λ o. written all + cond (is_written o) 1 0) c.in-Skipped.is ∙ add-zero (written all));
      refused = before.refused ∙ sym (refused-more all ended (c.args.self.now.lines + 1) (ap (λ n. n + 1) before.lines)
          ∙ ap (λ o. refused all ++ refusal_at (c.args.self.now.lines + 1) o) c.in-Skipped.is ∙ append-nil (refused all));
      frames = c.in_ok-add.ensures ∙ ap (λ t. t ++ c.args.frame.now) before.frames ∙ sym (frames_of-more all ended);
    }

pub returns-in-Written-clause-counted : goal.returns-in-Written-clause-counted
returns-in-Written-clause-counted c =
    λ all before.
    let ended : Ended = (c.args.outcome, c.args.frame.now) in
    record {
      lines = ap (λ n. n + 1) before.lines ∙ sym (length_push all ended);
      read = ap (λ n. n + 1) before.read ∙ sym (read-more all ended ∙ ap (λ o. read all + cond (is_read o) 1 0) c.in-Written.is);
      written = ap (λ n. n + 1) before.written ∙ sym (written-more all ended ∙ ap (λ o. written all + cond (is_written o) 1 0) c.in-Written.is);
      refused = before.refused ∙ sym (refused-more all ended (c.args.self.now.lines + 1) (ap (λ n. n + 1) before.lines)
          ∙ ap (λ o. refused all ++ refusal_at (c.args.self.now.lines + 1) o) c.in-Written.is ∙ append-nil (refused all));
      frames = c.in_ok-add.ensures ∙ ap (λ t. t ++ c.args.frame.now) before.frames ∙ sym (frames_of-more all ended);
    }

pub returns-in_ok-push-in-Refused-clause-counted : goal.returns-in_ok-push-in-Refused-clause-counted
returns-in_ok-push-in-Refused-clause-counted c =
    λ all before.
    let ended : Ended = (c.args.outcome, c.args.frame.now) in
    record {
      lines = ap (λ n. n + 1) before.lines ∙ sym (length_push all ended);
      read = ap (λ n. n + 1) before.read ∙ sym (read-more all ended ∙ ap (λ o. read all + cond (is_read o) 1 0) c.in-Refused.is);
      written = before.written ∙ sym (written-more all ended ∙ ap (λ o. written all + cond (is_written o) 1 0) c.in-Refused.is ∙ add-zero (written all));
      refused = rw before.refused at c.in_ok-push-in-Refused.ensures.items
          ∙ sym (refused-more all ended (c.args.self.now.lines + 1) (ap (λ n. n + 1) before.lines)
          ∙ ap (λ o. refused all ++ refusal_at (c.args.self.now.lines + 1) o) c.in-Refused.is);
      frames = c.in_ok-add.ensures ∙ ap (λ t. t ++ c.args.frame.now) before.frames ∙ sym (frames_of-more all ended);
    }
