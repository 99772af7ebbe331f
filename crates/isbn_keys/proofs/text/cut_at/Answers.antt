use Rattle.std.proofs.Common.{◌+◌, ◌<◌, eqb, take, drop, length, sym, ap, ◌∙◌, arith}
use Rattle.std.specs.List.{position_or_len}
use Rattle.isbn_keys.proofs.CutLemmas.{list_any-none, list_any-some, slice_rest}
use Rattle.isbn_keys.proofs.text.cut_at.Goals as goal

pub returns-then-place-text : goal.returns-then-place-text
returns-then-place-text c = list_any-none (λ b. eqb b c.args.byte) c.args.text.now (sym c.place_of-place.ensures.value ∙ c.if-place-text.true)

pub returns : goal.returns
returns c =
    let text = c.args.text.now in
    let place = c.place_of-place.ensures.value in
    let found : position_or_len (λ b. eqb b c.args.byte) text < length text = omega (arith, place) in (
      list_any-some (λ b. eqb b c.args.byte) text found,
      ap (λ n. take n text) place,
      slice_rest text (c.place_of-place.result + 1) ∙ ap (λ n. drop (n + 1) text) place,
    )
