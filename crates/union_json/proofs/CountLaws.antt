-- One line more.
use Rattle.std.proofs.Common.{◌≡◌, ℕ, suc, ◌+◌, Bool, cond, List, [], ◌∷◌, ◌++◌, length, append_assoc, append-nil, sym, ap, ◌∙◌, arith, add-zero}
use Rattle.std.specs.Prelude.{count_by}
use Rattle.std.proofs.lemmas.Grind.{flat_map-append}
use Rattle.std.proofs.lemmas.List.Sums.{fold-append}
use Rattle.union_json.specs.Counts.{refusal_at, refused_from, refused, is_read, is_written, read, written, frames_of}
use Rattle.union_json.specs.Outcomes.{Ended}

count_by-one_more : {A : Type 0} (p : A → Bool) (xs : List A) (x : A) → count_by p (xs ++ x ∷ []) ≡ count_by p xs + cond (p x) 1 0
count_by-one_more p xs x = fold-append (λ (a : ℕ) x. a + cond (p x) 1 0) 0 xs (x ∷ [])

pub read-more : (all : List Ended) (ended : Ended) → read (all ++ ended ∷ []) ≡ read all + cond (is_read ended.0) 1 0
read-more all ended = count_by-one_more (λ (e : Ended). is_read e.0) all ended

pub written-more : (all : List Ended) (ended : Ended) → written (all ++ ended ∷ []) ≡ written all + cond (is_written ended.0) 1 0
written-more all ended = count_by-one_more (λ (e : Ended). is_written e.0) all ended

pub frames_of-more : (all : List Ended) (ended : Ended) → frames_of (all ++ ended ∷ []) ≡ frames_of all ++ ended.1
frames_of-more all ended =
    flat_map-append (λ (e : Ended). e.1) all (ended ∷ []) ∙ ap (λ t. frames_of all ++ t) (append-nil ended.1)

refused_from-more : (n : ℕ) (all : List Ended) (ended : Ended)
    → refused_from n (all ++ ended ∷ []) ≡ refused_from n all ++ refusal_at (n + length all) ended.0
refused_from-more n [] ended = append-nil (refusal_at n ended.0) ∙ ap (λ k. refusal_at k ended.0) (sym (add-zero n))
refused_from-more n (first ∷ all) ended =
    let place : suc n + length all ≡ n + suc (length all) = omega arith in
    ap (λ ls. refusal_at n first.0 ++ ls)
    (refused_from-more (suc n) all ended ∙ ap (λ k. refused_from (suc n) all ++ refusal_at k ended.0) place)
    ∙ sym (append_assoc (refusal_at n first.0) (refused_from (suc n) all) (refusal_at (n + suc (length all)) ended.0))

pub refused-more : (all : List Ended) (ended : Ended) (line : ℕ) → line ≡ length all + 1
    → refused (all ++ ended ∷ []) ≡ refused all ++ refusal_at line ended.0
refused-more all ended line is =
    let place : 1 + length all ≡ line = omega arith in
    refused_from-more 1 all ended ∙ ap (λ k. refused_from 1 all ++ refusal_at k ended.0) place
