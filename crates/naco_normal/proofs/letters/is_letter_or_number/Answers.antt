use Rattle.std.proofs.Common.{sym, ◌∙◌, ltb-true}
use Rattle.naco_normal.proofs.AsciiLemmas.{agree_on_ascii}
use Rattle.naco_normal.proofs.letters.is_letter_or_number.Goals as goal

-- the table of categories agrees with the test of ASCII
pub returns-then-is_ascii : goal.returns-then-is_ascii
returns-then-is_ascii c =
    let small = ltb-true c.args.c 128 (sym c.if-is_ascii.ensures) in
    c.is_ascii_alphanumeric.ensures.value ∙ sym (agree_on_ascii c.args.c small).number
