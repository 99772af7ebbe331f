use Rattle.std.proofs.Common.{◌+◌, take, drop, take_all, sym, ap, ◌∙◌, arith}
use Rattle.std.proofs.lemmas.List.{drop_all}
use Rattle.std.specs.List.{position_or_len}
use Rattle.union_base.specs.Blanks.{is_blank}
use Rattle.union_base.proofs.BlankLaws.{blank_at, no_blank}
use Rattle.union_base.proofs.blanks.cut_at_blank.Goals as goal

pub returns-in-Some-clause-before : goal.returns-in-Some-clause-before
returns-in-Some-clause-before c =
    let text = c.args.text.now in
    let place = blank_at text c.in-Some.at c.in-Some.ensures.0.high (λ k lt is. c.in-Some.ensures.0.before k (omega arith) lt is) c.in-Some.ensures.1 in
    c.split_at.ensures.front ∙ ap (λ n. take n text) (sym place)

pub returns-in-Some-clause-behind : goal.returns-in-Some-clause-behind
returns-in-Some-clause-behind c =
    let text = c.args.text.now in
    let place = blank_at text c.in-Some.at c.in-Some.ensures.0.high (λ k lt is. c.in-Some.ensures.0.before k (omega arith) lt is) c.in-Some.ensures.1 in
    c.split_at-in-Some.ensures.back ∙ ap (λ n. drop (n + 1) text) (sym place)

pub returns-in-None-clause-before : goal.returns-in-None-clause-before
returns-in-None-clause-before c =
    let text = c.args.text.now in
    let end = no_blank text (λ k lt is. c.in-None.ensures k (omega arith) lt is) in
    sym (take_all (position_or_len is_blank text) text (omega (arith, end)))

pub returns-in-None-clause-behind : goal.returns-in-None-clause-behind
returns-in-None-clause-behind c =
    let text = c.args.text.now in
    let end = no_blank text (λ k lt is. c.in-None.ensures k (omega arith) lt is) in
    sym (drop_all (position_or_len is_blank text + 1) text (omega (arith, end)))
