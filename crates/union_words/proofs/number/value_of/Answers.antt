use Rattle.std.proofs.Common.{refl}
use Rattle.union_words.proofs.NumberLaws.{utf8_of_number, too_large}
use Rattle.union_words.proofs.number.value_of.Goals as goal

pub returns-in-Err-parse : goal.returns-in-Err-parse
returns-in-Err-parse c =
    rw (too_large c.in-Ok.text.now c.args.digits.now c.in-Ok.ensures.cases.0 c.requires c.in-Err-parse.ensures.value.0) refl

pub returns-in-Err : goal.returns-in-Err
returns-in-Err c = absurd (c.in-Err.ensures.cases.0 (utf8_of_number c.args.digits.now c.requires))
