use Rattle.std.proofs.Common.{length, ◌≤◌, sym, ap, ◌∙◌, drop_of_length-le, arith}
use Rattle.naco_normal.proofs.WordsLemmas.{read_on, read_on-spaced}
use Rattle.naco_normal.proofs.letters.append_letters.Goals as goal

pub returns : goal.returns
returns c =
    let all : length c.args.letters.now ≤ c.loop-place.place = omega arith in
    sym (ap (read_on c.loop-place.form.items c.loop-place.gap c.loop-place.awaiting) (drop_of_length-le c.args.letters.now all))
    ∙ c.loop-place.invariant
    ∙ read_on-spaced c.args.comma c.args.letters.now c.args.form.now.items
