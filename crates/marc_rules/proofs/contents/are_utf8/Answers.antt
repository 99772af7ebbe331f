use Rattle.std.proofs.Common.{◌≡◌, ℕ, Bool, true, false, List, refl, sym}
use Rattle.std.proofs.lemmas.Str.{IsUtf8-from_is_utf8, is_utf8-from_IsUtf8}
use Rattle.std.specs.Str.{is_utf8, IsUtf8}
use Rattle.marc_rules.proofs.contents.are_utf8.Goals as goal

-- bytes that are not UTF-8 do not pass the test
not_utf8 : (text : List ℕ) → (IsUtf8 text → ⊥) → is_utf8 text ≡ false
not_utf8 text none = of (is_utf8 text) refl
  where
    of : (test : Bool) → is_utf8 text ≡ test → test ≡ false
    of true is = absurd (none (IsUtf8-from_is_utf8 text is))
    of false is = refl

pub returns-in-Ok : goal.returns-in-Ok
returns-in-Ok c = sym (is_utf8-from_IsUtf8 c.args.text.now c.in-Ok.ensures.1)

pub returns-in-Err : goal.returns-in-Err
returns-in-Err c = sym (not_utf8 c.args.text.now c.in-Err.ensures)
