-- What case folding makes of a text that grows by one character.
use Rattle.std.proofs.Common.{◌≡◌, ℕ, ◌+◌, ◌<◌, List, [], ◌∷◌, ◌++◌, take, length, get_or, ap, ◌∙◌, append-nil}
use Rattle.std.proofs.lemmas.List.{take_more}
use Rattle.unicode.specs.CaseFolding.{full_fold}
use Rattle.caseless.specs.Caseless.{default_case_fold}
use Rattle.caseless.proofs.CaselessLemmas.{default_case_fold-append, default_case_fold-cons, default_case_fold-nil}

-- a text of one character
fold_one : (c : ℕ) → default_case_fold (c ∷ []) ≡ full_fold c
fold_one c = default_case_fold-cons c [] ∙ ap (λ l. full_fold c ++ l) default_case_fold-nil ∙ append-nil (full_fold c)

-- the character at the next place is folded after those before it
pub fold_more : (xs : List ℕ) (i c : ℕ) → i < length xs → get_or xs i c ≡ c → default_case_fold (take (i + 1) xs) ≡ default_case_fold (take i xs) ++ full_fold c
fold_more xs i c h e =
    ap default_case_fold (take_more xs i c h ∙ ap (λ x. take i xs ++ (x ∷ [])) e)
    ∙ default_case_fold-append (take i xs) (c ∷ [])
    ∙ ap (λ l. default_case_fold (take i xs) ++ l) (fold_one c)
