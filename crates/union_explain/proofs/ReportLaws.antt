-- How the refused records of a report are found line by line.
use Rattle.std.proofs.Common.{◌≡◌, ◌<◌, ℕ, cond, List, [], ◌∷◌, ◌++◌, Some, sym, ap, ◌∙◌, subst, append_assoc}
use Rattle.std.specs.Prelude.{Option}
use Rattle.std.specs.List.{filter_map, cons_option}
use Rattle.std.proofs.lemmas.Bool.{lt-ltb}
use Rattle.union_explain.specs.Reports.{rising, IsRising}
use Rattle.union_explain.specs.declared.reported.Reported.{Reported}

-- the line of a record with a greater number
pub rising-taken : (h : List ℕ → Option Reported) (line : List ℕ) (all lines : List (List ℕ)) (found now : List Reported) (last : ℕ) (told : Reported)
    → all ≡ line ∷ lines → Some told ≡ h line → last < told.number → now ≡ found ++ told ∷ []
    → now ++ rising told.number (filter_map h lines) ≡ found ++ rising last (filter_map h all)
rising-taken h line all lines found now last told first is lt pushed =
    ap (λ xs. xs ++ rising told.number (filter_map h lines)) pushed
    ∙ (append_assoc found (told ∷ []) (rising told.number (filter_map h lines))
    ∙ ap (λ xs. found ++ xs)
    (sym (ap (λ xs. rising last (filter_map h xs)) first
    ∙ (ap (λ o. rising last (cons_option o (filter_map h lines))) (sym is)
    ∙ ap (λ t. cond t (told ∷ rising told.number (filter_map h lines)) (rising last (filter_map h lines))) (lt-ltb last told.number lt)))))

-- and the numbers still rise
pub IsRising-taken : (found now : List Reported) (last : ℕ) (told : Reported) → last < told.number → now ≡ found ++ told ∷ []
    → ((rest : List Reported) → IsRising last rest → IsRising 0 (found ++ rest))
    → (rest : List Reported) → IsRising told.number rest → IsRising 0 (now ++ rest)
IsRising-taken found now last told lt pushed rises rest h =
    let joined : found ++ told ∷ rest ≡ now ++ rest =
    sym (ap (λ xs. xs ++ rest) pushed ∙ append_assoc found (told ∷ []) rest) in
    subst (IsRising 0) joined (rises (told ∷ rest) (lt, h))
