-- One frame more.
use Rattle.std.proofs.Common.{◌≡◌, ℕ, suc, ◌+◌, Bool, true, false, List, [], ◌∷◌, ◌++◌, length, append_assoc, append-nil, refl, sym, ap, ◌∙◌, arith, add-zero}
use Rattle.std.specs.Prelude.{map, filter, is_none, Some, None}
use Rattle.std.proofs.lemmas.List.{map-append}
use Rattle.std.proofs.lemmas.List.Elements.{filter-append}
use Rattle.marc_fields.specs.declared.rules.Failure.{Failure}
use Rattle.library_batches.specs.Streams.{Frame, failure_of, is_accepted, accepted}
use Rattle.library_batches.specs.Refused.{refusal_of, refused_from, refused}

pub passed_one : {A : Type 0} (p : A → Bool) (x : A) → p x ≡ true → filter p (x ∷ []) ≡ x ∷ []
passed_one p x h = rw h refl

pub failed_one : {A : Type 0} (p : A → Bool) (x : A) → p x ≡ false → filter p (x ∷ []) ≡ []
failed_one p x h = rw h refl

-- an accepted frame more
pub accepted-one_more : (all : List Frame) (frame : Frame) → failure_of frame ≡ None → accepted (all ++ frame ∷ []) ≡ accepted all ++ frame.1 ∷ []
accepted-one_more all frame none =
    ap (map (λ (f : Frame). f.1)) (filter-append is_accepted all (frame ∷ []) ∙ ap (λ fs. filter is_accepted all ++ fs) (passed_one is_accepted frame (ap is_none none)))
    ∙ map-append (λ (f : Frame). f.1) (filter is_accepted all) (frame ∷ [])

-- a refused frame more
pub accepted-refused_more : (all : List Frame) (frame : Frame) (failure : Failure) → failure_of frame ≡ Some failure
    → accepted (all ++ frame ∷ []) ≡ accepted all
accepted-refused_more all frame failure fails =
    ap (map (λ (f : Frame). f.1)) (filter-append is_accepted all (frame ∷ [])
    ∙ (ap (λ fs. filter is_accepted all ++ fs) (failed_one is_accepted frame (ap is_none fails)) ∙ append-nil (filter is_accepted all)))

refused_from-more : (n : ℕ) (all : List Frame) (frame : Frame)
    → refused_from n (all ++ frame ∷ []) ≡ refused_from n all ++ refusal_of (n + length all) (failure_of frame)
refused_from-more n [] frame = append-nil (refusal_of n (failure_of frame)) ∙ ap (λ k. refusal_of k (failure_of frame)) (sym (add-zero n))
refused_from-more n (first ∷ all) frame =
    let place : suc n + length all ≡ n + suc (length all) = omega arith in
    ap (λ fs. refusal_of n (failure_of first) ++ fs)
    (refused_from-more (suc n) all frame ∙ ap (λ k. refused_from (suc n) all ++ refusal_of k (failure_of frame)) place)
    ∙ sym (append_assoc (refusal_of n (failure_of first)) (refused_from (suc n) all) (refusal_of (n + suc (length all)) (failure_of frame)))

pub refused-accepted_more : (all : List Frame) (frame : Frame) → failure_of frame ≡ None → refused (all ++ frame ∷ []) ≡ refused all
refused-accepted_more all frame none =
    refused_from-more 1 all frame ∙ (ap (λ o. refused_from 1 all ++ refusal_of (1 + length all) o) none ∙ append-nil (refused_from 1 all))

pub refused-one_more : (all : List Frame) (frame : Frame) (failure : Failure) (number : ℕ) → number ≡ length all + 1 → failure_of frame ≡ Some failure
    → refused (all ++ frame ∷ []) ≡ refused all ++ record { frame = number; rule = failure.rule; place = failure.place } ∷ []
refused-one_more all frame failure number is_next fails =
    let place : 1 + length all ≡ number = omega arith in
    refused_from-more 1 all frame
    ∙ (ap (λ o. refused_from 1 all ++ refusal_of (1 + length all) o) fails
    ∙ ap (λ k. refused_from 1 all ++ refusal_of k (Some failure)) place)
