-- What comes of a source that was read piece by piece.
use Rattle.std.proofs.Common.{◌≡◌, ℕ, ◌<◌, ◌≤◌, List, [], ◌++◌, length, sym, ap, subst, ◌∙◌, arith, length-append, append-nil}
use Rattle.std.specs.Prelude.{Option, Some, None, IfSome}
use Rattle.std.specs.Io.KnownBytes.{Consumes}

-- what follows of told bytes
pub on_told : {P Q : List ℕ → Type 0} (told : Option (List ℕ)) → ((bytes : List ℕ) → P bytes → Q bytes) → IfSome told P → IfSome told Q
on_told None follows holds = tt
on_told (Some bytes) follows holds = follows bytes holds

-- a source that gave more bytes than that has more
pub long_source : (limit : ℕ) (told now : Option (List ℕ)) (content : List ℕ) → Consumes told now content → limit < length content
    → IfSome told (λ bytes. limit < length bytes)
long_source limit None now content taken more = tt
long_source limit (Some bytes) None content taken more = absurd taken
long_source limit (Some bytes) (Some rest) content taken more = omega (arith, ap length taken, length-append content rest)

-- a source that gives no more gave all that it has
pub whole_source : (limit : ℕ) (told now : Option (List ℕ)) (content : List ℕ) → Consumes told now content → length content ≤ limit
    → IfSome now (λ rest. rest ≡ []) → IfSome told (λ bytes. (length bytes ≤ limit) × (content ≡ bytes))
whole_source limit None now content taken fits none = tt
whole_source limit (Some bytes) None content taken fits none = absurd taken
whole_source limit (Some bytes) (Some rest) content taken fits none =
    let all : bytes ≡ content = taken ∙ ap (λ more. content ++ more) none ∙ append-nil content in
    (subst (λ xs. length xs ≤ limit) (sym all) fits, sym all)
