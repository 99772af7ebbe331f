use Rattle.std.proofs.Common.{◌≡◌, ℕ, List, Option, IfOk, subst}
use Rattle.isbn_keys.proofs.SystemLemmas.{system_key-parts}
use Rattle.isbn_keys.proofs.control.system_number.Goals as goal

pub returns-in-Some-cut_at : goal.returns-in-Some-cut_at
returns-in-Some-cut_at c =
    let opened = c.in-Some.ensures.cases in
    let closed = c.in-Some-cut_at.ensures in
    subst (λ (k : Option (List ℕ × List ℕ)). IfOk c.pair.result (λ key. key ≡ k)) (system_key-parts c.args.text.now c.trimmed.result.now c.in-Some.rest.now c.in-Some-cut_at.source.now c.in-Some-cut_at.number.now c.trimmed.ensures opened.0 opened.1 closed.0 closed.1 closed.2)
    c.pair.ensures
