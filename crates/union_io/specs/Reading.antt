-- When a read answers the end.
use Rattle.std.specs.Prelude.{ℕ, ◌≡◌, ◌↔◌, List, [], Result, IfOk, IfSome}
use Rattle.std.specs.declared.option.Option.{Option}

-- 0 exactly at the end, where it is told what is left
abbrev pub EndsExactly : {E : Type 0} → Option (List ℕ) → Result ℕ E → Type 0
EndsExactly left result = IfSome left (λ bytes. IfOk result (λ count. (count ≡ 0) ↔ (bytes ≡ [])))
