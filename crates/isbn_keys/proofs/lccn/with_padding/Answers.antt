use Rattle.std.proofs.Common.{ℕ, List, ◌≤◌, ◌++◌, take, replicate, ap, ◌∙◌, append_assoc, arith}
use Rattle.std.proofs.lemmas.List.{take-replicate}
use Rattle.isbn_keys.proofs.lccn.with_padding.Goals as goal

pub returns : goal.returns
returns c =
    let prefix = c.args.prefix.now in
    let serial = c.args.serial.now in
    let padding : List ℕ = take c.saturating_sub.result (replicate 6 48) in
    let first = c.in_ok-extend_from_slice.ensures.items ∙ ap (λ l. l ++ prefix) c.in_ok-key.ensures.items in
    let second = c.in_ok-extend_from_slice-2.ensures.items ∙ ap (λ l. l ++ padding) first in
    let few : c.saturating_sub.result ≤ 6 = omega (arith, c.saturating_sub.ensures) in
    c.in_ok-extend_from_slice-3.ensures.items ∙ ap (λ l. l ++ serial) second ∙ append_assoc prefix padding serial
    ∙ ap (λ l. prefix ++ (l ++ serial)) (take-replicate c.saturating_sub.result 6 48 few ∙ ap (λ n. replicate n 48) c.saturating_sub.ensures)
