use Rattle.std.proofs.Common.{◌≡◌, ℕ, List, OnOk, encode_utf8_all, sym, subst}
use Rattle.std.proofs.lemmas.Str.{chars-IsAscii}
use Rattle.naco_normal.specs.Normal.{normal_form}
use Rattle.naco_normal.specs.Words.{joined}
use Rattle.naco_normal.proofs.form.append_text.Goals as goal

pub returns-then-is_ascii : goal.returns-then-is_ascii
returns-then-is_ascii c =
    subst (λ (cs : List ℕ). OnOk c.append_ascii.result (c.append_ascii.new.form.items ≡ joined c.args.form.now.items (encode_utf8_all (normal_form c.args.comma cs))))
    (sym (chars-IsAscii c.args.text.now c.if-is_ascii.ensures.cases)) c.append_ascii.ensures
