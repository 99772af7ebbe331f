use Rattle.std.specs.Cmp.{both_ways}
use Rattle.std.specs.Str.{is_utf8}
use Rattle.std.proofs.lemmas.Str.{IsUtf8-from_is_utf8, is_utf8-from_IsUtf8}
use Rattle.authority_names.proofs.texts.is_utf8.Goals as goal

pub returns : goal.returns
returns c =
    both_ways c.is_utf8.result (is_utf8 c.args.text.now) (λ h. is_utf8-from_IsUtf8 c.args.text.now (c.is_utf8.ensures.0 h))
    (λ h. c.is_utf8.ensures.1 (IsUtf8-from_is_utf8 c.args.text.now h))
