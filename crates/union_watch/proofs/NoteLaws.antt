-- Texts that are written in parts.
use Rattle.std.proofs.Common.{◌≡◌, ℕ, ◌+◌, List, ◌++◌, length, take, append_assoc, sym, ap, subst, ◌∙◌, arith, length-append}
use Rattle.std.specs.Prelude.{Option, Some, None, Result, Ok, Err, OnErr}
use Rattle.std.proofs.Math.Seq.{take-append-add}
use Rattle.std.specs.Io.KnownBytes.{Appends}
use Rattle.union_io.specs.Writing.{AppendsFront}

Appends-more : (old middle new : Option (List ℕ)) (a b : List ℕ) → Appends old middle a → Appends middle new b → Appends old new (a ++ b)
Appends-more None middle new a b p q = tt
Appends-more (Some xs) None new a b p q = absurd p
Appends-more (Some xs) (Some ys) None a b p q = absurd q
Appends-more (Some xs) (Some ys) (Some zs) a b p q = q ∙ ap (λ front. front ++ b) p ∙ append_assoc xs a b

take_more : (a b : List ℕ) (n : ℕ) → take (length a + n) (a ++ b) ≡ a ++ take n b
take_more a b n = take-append-add a b n

-- a text, and a prefix of the next
AppendsFront-more : (old middle new : Option (List ℕ)) (a b : List ℕ) → Appends old middle a → AppendsFront middle new b → AppendsFront old new (a ++ b)
AppendsFront-more old middle new a b p q =
    (length a + q.0, omega (arith, length-append a b, q.1), subst (λ text. Appends old new text) (sym (take_more a b q.0)) (Appends-more old middle new a (take q.0 b) p q.2))

pub front_more : {E : Type 0} (answer : Result (Unit {0}) E) (old middle new : Option (List ℕ)) (a b : List ℕ) → Appends old middle a
    → OnErr answer (AppendsFront middle new b) → OnErr answer (AppendsFront old new (a ++ b))
front_more (Ok done) old middle new a b p q = tt
front_more (Err failed) old middle new a b p q = AppendsFront-more old middle new a b p q
