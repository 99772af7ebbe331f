-- Prefixes of lists.
use Rattle.std.proofs.Common.{◌≡◌, ℕ, zero, suc, ◌≤◌, List, [], ◌∷◌, ◌++◌, length, refl, ap, sym, ◌∙◌, arith, append_assoc, append-nil, length-append}
use Rattle.std.specs.Prelude.{take}
use mathlib.Core.List.{IsPrefix}

-- each list is a prefix of itself
pub prefix_self : {A : Type 0} (xs : List A) → IsPrefix xs xs
prefix_self xs = ([], append-nil xs)

pub prefix_trans : {A : Type 0} (xs ys zs : List A) → IsPrefix xs ys → IsPrefix ys zs → IsPrefix xs zs
prefix_trans xs ys zs p q = (p.0 ++ q.0, sym (append_assoc xs p.0 q.0) ∙ (ap (λ w. w ++ q.0) p.1 ∙ q.1))

pub prefix_length : {A : Type 0} (xs ys : List A) → IsPrefix xs ys → length xs ≤ length ys
prefix_length xs ys p = omega (arith, sym (ap length p.1) ∙ length-append xs p.0)

-- a prefix as long as the whole is the whole
pub prefix_whole : {A : Type 0} (xs ys : List A) → IsPrefix xs ys → length ys ≤ length xs → xs ≡ ys
prefix_whole [] [] p le = refl
prefix_whole [] (y ∷ ys) p le = absurd (omega arith)
prefix_whole (x ∷ xs) [] p le = absurd (cc (p.1))
prefix_whole (x ∷ xs) (y ∷ ys) p le =
    let rest = prefix_whole xs ys (p.0, cc (p.1)) (omega arith) in cc (p.1, rest)

-- of a longer list more entries are taken
pub prefix_more : {A : Type 0} (m n : ℕ) (old new : List A) → m ≤ length old → IsPrefix old new → m ≤ n → IsPrefix (take m old) (take n new)
prefix_more zero n old new le p more = (take n new, refl)
prefix_more (suc m) zero old new le p more = absurd (omega arith)
prefix_more (suc m) (suc n) [] new le p more = absurd (omega arith)
prefix_more (suc m) (suc n) (x ∷ old) [] le p more = absurd (cc (p.1))
prefix_more (suc m) (suc n) (x ∷ old) (y ∷ new) le p more =
    let heads : x ≡ y = cc (p.1) in
    let rest = prefix_more m n old new (omega arith) (p.0, cc (p.1)) (omega arith) in
    (rest.0, cc (heads, rest.1))

-- a prefix of at most n entries is a prefix of the first n
pub prefix_taken : {A : Type 0} (n : ℕ) (xs ys : List A) → length xs ≤ n → IsPrefix xs ys → IsPrefix xs (take n ys)
prefix_taken n [] ys le p = (take n ys, refl)
prefix_taken zero (x ∷ xs) ys le p = absurd (omega arith)
prefix_taken (suc n) (x ∷ xs) [] le p = absurd (cc (p.1))
prefix_taken (suc n) (x ∷ xs) (y ∷ ys) le p =
    let heads : x ≡ y = cc (p.1) in
    let rest = prefix_taken n xs ys (omega arith) (p.0, cc (p.1)) in
    (rest.0, cc (heads, rest.1))

-- the entry at the end of a list comes next after a prefix of the same whole that is as long as what stands before it
pub prefix_next : {A : Type 0} (seen all : List A) (place : ℕ) (log : List A) (entry : A) → IsPrefix seen all → IsPrefix log all → length log ≡ suc place
    → take place log ++ entry ∷ [] ≡ log → place ≡ length seen → IsPrefix (seen ++ entry ∷ []) all
prefix_next [] all zero log entry p q long ends same = (q.0, ap (λ w. w ++ q.0) ends ∙ q.1)
prefix_next [] all (suc place) log entry p q long ends same = absurd (omega arith)
prefix_next (x ∷ seen) all zero log entry p q long ends same = absurd (omega arith)
prefix_next (x ∷ seen) [] (suc place) log entry p q long ends same = absurd (cc (p.1))
prefix_next (x ∷ seen) (a ∷ all) (suc place) [] entry p q long ends same = absurd (omega arith)
prefix_next (x ∷ seen) (a ∷ all) (suc place) (y ∷ log) entry p q long ends same =
    let heads : x ≡ a = cc (p.1) in
    let rest = prefix_next seen all place log entry (p.0, cc (p.1)) (q.0, cc (q.1)) (omega (arith, long)) (cc ends) (omega (arith, same)) in
    (rest.0, cc (heads, rest.1))

-- what is taken of a list is a prefix of each prefix that is long enough
pub prefix_under : {A : Type 0} (n : ℕ) (xs ys : List A) → IsPrefix xs ys → n ≤ length xs → IsPrefix (take n ys) xs
prefix_under zero xs ys p le = (xs, refl)
prefix_under (suc n) [] ys p le = absurd (omega arith)
prefix_under (suc n) (x ∷ xs) [] p le = absurd (cc (p.1))
prefix_under (suc n) (x ∷ xs) (y ∷ ys) p le =
    let heads : x ≡ y = cc (p.1) in
    let rest = prefix_under n xs ys (p.0, cc (p.1)) (omega arith) in
    (rest.0, cc (sym heads, rest.1))
