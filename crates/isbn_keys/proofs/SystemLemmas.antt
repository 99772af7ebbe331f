-- The key of a system number by its parts.
use Rattle.std.proofs.Common.{◌≡◌, ℕ, ◌&&◌, true, cond, List, Option, None, drop, sym, ap, ◌∙◌}
use Rattle.std.specs.Prelude.{codes}
use Rattle.std.specs.List.{list_any, before_first, after_first}
use Rattle.isbn_keys.specs.Text.{begins_with}
use Rattle.union_base.specs.Blanks.{trimmed}
use Rattle.isbn_keys.specs.Control.{closes, pair_key, system_key}

-- the key of a trimmed text, with what follows its first byte
abbrev key_of : List ℕ → List ℕ → Option (List ℕ × List ℕ)
key_of text rest = cond (begins_with (codes "(") text && list_any closes rest) (pair_key (before_first closes rest) (after_first closes rest)) None

pub system_key-parts : (text inner rest source number : List ℕ) → inner ≡ trimmed text → begins_with (codes "(") inner ≡ true → rest ≡ drop 1 inner → list_any closes rest ≡ true
    → source ≡ before_first closes rest → number ≡ after_first closes rest → pair_key source number ≡ system_key text
system_key-parts text inner rest source number trim opens after closed first second =
    let key = pair_key (before_first closes rest) (after_first closes rest) in
    ap (λ s. pair_key s number) first
    ∙ ap (λ n. pair_key (before_first closes rest) n) second
    ∙ sym (ap (λ b. cond (b && list_any closes rest) key None) opens ∙ ap (λ b. cond b key None) closed)
    ∙ ap (λ r. key_of inner r) after
    ∙ ap (λ t. key_of t (drop 1 t)) trim
