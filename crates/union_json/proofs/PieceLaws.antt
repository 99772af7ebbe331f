-- Texts that are written in pieces.
use Rattle.std.proofs.Common.{◌≡◌, ◌<◌, ◌≤◌, ℕ, suc, ◌+◌, List, [], ◌++◌, length, take, drop, get_or, drop-cons, append-nil, take-append-drop, sym, ap, subst, ◌∙◌, arith, length-append, add-one}
use Rattle.std.proofs.KnownBytes.{Appends-trans}
use Rattle.std.proofs.Math.Seq.{take-append-add}
use Rattle.std.proofs.lemmas.Grind.{flat_map-append}
use Rattle.std.proofs.lemmas.List.{take-append-le}
use Rattle.std.specs.Io.KnownBytes.{Appends}
use Rattle.std.specs.List.{flat_map}
use Rattle.std.specs.Prelude.{Option, Result, Ok, Err, OnErr}
use Rattle.union_io.specs.Writing.{AppendsFront}

-- what was written, and then a prefix of the next piece of a longer text
pub front_within : (old middle new : Option (List ℕ)) (before piece rest : List ℕ) → Appends old middle before → AppendsFront middle new piece
    → AppendsFront old new (before ++ (piece ++ rest))
front_within old middle new before piece rest written front =
    let short : front.0 ≤ length piece = front.1 in
    let is : take (length before + front.0) (before ++ (piece ++ rest)) ≡ before ++ take front.0 piece
    = take-append-add before (piece ++ rest) front.0 ∙ ap (λ t. before ++ t) (take-append-le front.0 piece rest short) in
    let within : length before + front.0 ≤ length (before ++ (piece ++ rest))
    = omega (arith, length-append before (piece ++ rest), length-append piece rest) in
    (length before + front.0, within, subst (Appends old new) (sym is) (Appends-trans old middle new before (take front.0 piece) written front.2))

-- a prefix of a text is one of a longer text
pub front_longer : (old new : Option (List ℕ)) (piece rest : List ℕ) → AppendsFront old new piece → AppendsFront old new (piece ++ rest)
front_longer old new piece rest front =
    let short : front.0 ≤ length piece = front.1 in
    let within : front.0 ≤ length (piece ++ rest) = omega (arith, length-append piece rest) in
    (front.0, within, subst (Appends old new) (sym (take-append-le front.0 piece rest short)) front.2)

-- what was written, and then a prefix of the last piece
pub front_last : {E : Type 0} (answer : Result (Unit {0}) E) (old middle new : Option (List ℕ)) (before piece : List ℕ) → Appends old middle before
    → OnErr answer (AppendsFront middle new piece) → OnErr answer (AppendsFront old new (before ++ piece))
front_last (Ok done) old middle new before piece written front = tt
front_last (Err failed) old middle new before piece written front =
    subst (λ text. AppendsFront old new (before ++ text)) (append-nil piece) (front_within old middle new before piece [] written front)

-- a list of pieces, with one of them in the middle
pub around : {X A : Type 0} (f : X → List A) (xs : List X) (i : ℕ) (x : X) → i < length xs → x ≡ get_or xs i x
    → flat_map f xs ≡ flat_map f (take i xs) ++ (f x ++ flat_map f (drop (i + 1) xs))
around f xs i x within is =
    ap (flat_map f) (sym (take-append-drop i xs))
    ∙ flat_map-append f (take i xs) (drop i xs)
    ∙ ap (λ ys. flat_map f (take i xs) ++ flat_map f ys) (drop-cons xs i x within)
    ∙ ap (λ y. flat_map f (take i xs) ++ (f y ++ flat_map f (drop (suc i) xs))) (sym is)
    ∙ ap (λ n. flat_map f (take i xs) ++ (f x ++ flat_map f (drop n xs))) (sym (add-one i))
