use Rattle.std.proofs.Common.{◌≡◌, false, [], ◌∷◌, ◌++◌, sym, subst, ap, ◌∙◌, append_assoc, arith}
use Rattle.std.proofs.lemmas.List.Elements.{All-append}
use Rattle.union_json.proofs.LineLaws.{feed_parts, lines_held, open_by_place}
use Rattle.union_json.specs.Converting.{HasTaken}
use Rattle.union_json.specs.Lines.{is_feed}
use Rattle.union_json.proofs.converter.Converter.take.Goals as goal

pub loop-at-preserved : goal.loop-at-preserved
loop-at-preserved c =
    let before = c.loop-at.invariant in
    let part = c.split_at.result.0.now in
    let rest = c.loop-at.rest.now in
    let later = c.split_at-in-Some.result.1.now in
    record {
      front = before.front ++ (part ++ 0x0A ∷ []);
      split =
          before.split
          ∙ ap (λ t. before.front ++ t)
          (feed_parts rest part c.split_at.result.1.now later c.in-Some.at c.in-Some.ensures.0.high c.in-Some.ensures.1 c.split_at.ensures.front c.split_at.ensures.back
          c.split_at-in-Some.ensures.back)
          ∙ sym (append_assoc before.front (part ++ 0x0A ∷ []) later);
      taken = λ text old. subst (λ t. HasTaken t c.end_line.new.self) (append_assoc text before.front (part ++ 0x0A ∷ []))
          (c.in_ok-end_line.ensures.taken (text ++ before.front) (before.taken text old));
      few = omega (arith, before.few, c.in_ok-end_line.ensures.lines, c.split_at.ensures.back_len, c.split_at-in-Some.ensures.back_len);
    }

pub returns-clause-taken : goal.returns-clause-taken
returns-clause-taken c =
    let before = c.loop-at.invariant in
    let rest = c.loop-at.rest.now in
    λ text old.
    let taken = before.taken text old in
    rw (before.split, ← append_assoc text before.front rest)
    (record {
      done = taken.done;
      begun = taken.begun ++ rest;
      lines = lines_held (text ++ before.front) taken.begun rest taken.done taken.lines;
      unended = All-append (λ b. is_feed b ≡ false) taken.begun rest taken.unended
          (open_by_place rest (λ k lt is. c.in_default.ensures k (omega arith) lt is));
      held = c.in_ok-add.ensures taken.begun taken.held;
      all = taken.all;
      outcomes = taken.outcomes;
      counted = taken.counted;
    })
