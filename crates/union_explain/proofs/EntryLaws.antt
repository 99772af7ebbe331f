-- How an entry is looked for.
use Rattle.std.proofs.Common.{◌≡◌, ◌<◌, ◌-◌, ℕ, zero, suc, false, cond, List, take, drop, find, Some, sym, ap, ◌∙◌, arith}
use Rattle.marc_fields.specs.Rules.{entry_texts}
use Rattle.union_explain.specs.Glances.{is_control_entry}

-- where the first entry is of another field, it is among the others
pub find-behind : (left : ℕ) (rest : List ℕ) → 0 < left → is_control_entry (take 12 rest) ≡ false
    → find is_control_entry (entry_texts (left - 1) (drop 12 rest)) ≡ find is_control_entry (entry_texts left rest)
find-behind zero rest some other = absurd (omega arith)
find-behind (suc n) rest some other =
    let less : suc n - 1 ≡ n = omega arith in
    ap (λ k. find is_control_entry (entry_texts k (drop 12 rest))) less
    ∙ sym (ap (λ t. cond t (Some (take 12 rest)) (find is_control_entry (entry_texts n (drop 12 rest)))) other)
