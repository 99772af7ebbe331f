use Rattle.std.proofs.Common.{◌++◌, length, drop, refl, ap, ◌∙◌, append_assoc}
use Rattle.std.specs.Prelude.{codes, decimal}
use Rattle.catalogue_query.specs.LineTexts.{six_digits}
use Rattle.catalogue_query.proofs.DigitLaws.{zeros-before}
use Rattle.catalogue_query.proofs.line_texts.add_six_digits.Goals as goal

pub returns : goal.returns
unfolding six_digits
returns c =
    let digits = decimal c.args.number in
    let zeros = codes "000000" in
    rw (
      c.in_ok-extend_from_slice-2.ensures.items,
      c.in_ok-extend_from_slice.ensures.items,
      c.min.ensures,
      c.as_bytes-digits.ensures.value,
      c.format.ensures.text,
    )
    (ap (λ front. (c.args.text.now.items ++ front) ++ digits) (zeros-before (length digits) 6 zeros refl)
    ∙ append_assoc c.args.text.now.items (drop (length digits) zeros) digits)
