use Rattle.std.proofs.Common.{◌++◌, ap, sym, ◌∙◌}
use Rattle.caseless.proofs.CaselessLemmas.{default_case_fold-nil}
use Rattle.unicode.specs.CaseFolding.{full_fold}
use Rattle.naco_normal.proofs.LettersLemmas.{fold_more}
use Rattle.naco_normal.proofs.letters.case_folded.Goals as goal

pub loop-c-init : goal.loop-c-init
loop-c-init c = c.in_ok-folded.ensures.items ∙ sym default_case_fold-nil

pub loop-c-preserved : goal.loop-c-preserved
loop-c-preserved c =
    c.in_ok-push_folded.ensures
    ∙ ap (λ l. l ++ full_fold c.c-item.result) c.loop-c.invariant
    ∙ sym (fold_more c.args.source.now c.loop-c.c-index c.c-item.result c.loop-c-test.true (sym c.c-item.is))
