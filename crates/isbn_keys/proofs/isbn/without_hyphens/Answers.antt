use Rattle.std.proofs.Common.{◌<◌, ◌+◌, ◌++◌, ◌∷◌, [], take, length, get_or, refl, sym, ap, ◌∙◌, add-one, length-append, length-take, length-set, arith}
use Rattle.std.proofs.Math.Seq.{take-suc-set}
use Rattle.isbn_keys.specs.Isbn.{without_hyphens}
use Rattle.isbn_keys.proofs.KeyLemmas.{without_hyphens-kept, length-without_hyphens-take}
use Rattle.isbn_keys.proofs.isbn.without_hyphens.Goals as goal

pub returns-then-len-eq-KEY_LENGTH : goal.returns-then-len-eq-KEY_LENGTH
returns-then-len-eq-KEY_LENGTH c =
    let part = c.args.part.now in
    let i = c.loop-c.c-index in
    let here = get_or part i 0 in
    let more = ap length (without_hyphens-kept part i here c.loop-c-test.true refl c.if-c-eq45.false) in
    omega (arith, more, length-append (without_hyphens (take i part)) (here ∷ []), ap length c.loop-c.invariant.kept, length-take c.loop-c.len c.loop-c.characters, length-without_hyphens-take part (i + 1))

pub loop-c-preserved : goal.loop-c-preserved
loop-c-preserved c =
    let part = c.args.part.now in
    let i = c.loop-c.c-index in
    let here = get_or part i 0 in
    let inside : c.loop-c.len < length c.loop-c.characters = omega arith in
    record {
      kept =
          rw add-one (take-suc-set c.loop-c.characters c.loop-c.len here inside)
          ∙ ap (λ l. l ++ here ∷ []) c.loop-c.invariant.kept
          ∙ sym (without_hyphens-kept part i here c.loop-c-test.true refl c.if-c-eq45.false);
      few = omega arith;
      room = simp length-set c.loop-c.invariant.room;
    }
