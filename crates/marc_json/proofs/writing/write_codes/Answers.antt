use Rattle.std.proofs.Common.{[], ◌∷◌, ◌++◌, ap, ◌∙◌}
use Rattle.std.proofs.lemmas.Result.{on_ok_weaker}
use Rattle.std.specs.Str.{is_utf8}
use Rattle.json.specs.Token.{string}
use Rattle.marc_json.specs.Tokens.{value_tokens}
use Rattle.marc_json.proofs.TextLaws.{leader_text_is_utf8}
use Rattle.marc_json.proofs.writing.write_codes.Goals as goal

pub as_text-requires : goal.as_text-requires
as_text-requires c = ap is_utf8 c.write_leader.ensures.text ∙ leader_text_is_utf8 c.args.codes c.prints.ensures

pub returns : goal.returns
unfolding value_tokens
returns c = record {
  ok = on_ok_weaker c.string.result (λ e. e ∙ ap (λ s. c.args.out.now.tokens ++ string s ∷ []) (c.as_text.ensures ∙ c.write_leader.ensures.text)) c.string.ensures.ok;
  before = c.string.ensures.room.0;
}
