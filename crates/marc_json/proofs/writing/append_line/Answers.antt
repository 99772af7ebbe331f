use Rattle.std.proofs.Common.{◌≡◌, ◌++◌, ap, ◌∙◌}
use Rattle.marc_json.specs.Tokens.{value_tokens}
use Rattle.marc_json.specs.Values.{record_value}
use Rattle.marc_json.proofs.TokenLaws.{line_appended}
use Rattle.marc_json.proofs.writing.append_line.Goals as goal

pub returns : goal.returns
returns c =
    let rec = c.args.rec.now in
    let same : c.write_record-answer.new.out.before ≡ c.args.into.now.items =
    c.write_record-answer.ensures.before ∙ c.new-out.ensures.before ∙ ap (λ v. v.items) c.replace.ensures.value in
    let sent : c.write_record-answer.new.out.tokens ≡ c.new-out.result.tokens ++ value_tokens (record_value rec) = rw c.in_ok-answer.was at c.write_record-answer.ensures.ok in
    line_appended c.args.into.now.items c.write_record-answer.new.out.before c.into_inner.result.items c.push.new.self.items c.write_record-answer.new.out.tokens rec
    same (sent ∙ ap (λ ts. ts ++ value_tokens (record_value rec)) c.new-out.ensures.tokens) c.into_inner.ensures.items c.in_ok-push.ensures.items
