-- The counts of frames, one frame more.
use Rattle.std.proofs.Common.{◌≡◌, ℕ, ◌+◌, Bool, not, cond, List, [], ◌∷◌, ◌++◌, ap, ◌∙◌}
use Rattle.std.specs.Prelude.{count_by, None}
use Rattle.std.proofs.lemmas.List.Sums.{fold-append}
use Rattle.marc_parts.specs.Loads.{is_deleted}
use Rattle.marc_rules.specs.NineteenRules.{status_of}
use Rattle.library_batches.specs.Streams.{Frame, failure_of, accepted}
use Rattle.union_files.proofs.FrameLaws.{accepted-one_more}
use Rattle.library_batches.specs.Reports.{is_withdrawing, loads, withdrawals}

pub count_by-one_more : {A : Type 0} (p : A → Bool) (xs : List A) (x : A) → count_by p (xs ++ x ∷ []) ≡ count_by p xs + cond (p x) 1 0
count_by-one_more p xs x = fold-append (λ (a : ℕ) x. a + cond (p x) 1 0) 0 xs (x ∷ [])

pub withdrawals-one_more : (all : List Frame) (frame : Frame) (status : ℕ) → failure_of frame ≡ None → status_of frame.1 ≡ status
    → withdrawals (all ++ frame ∷ []) ≡ withdrawals all + cond (is_deleted status) 1 0
withdrawals-one_more all frame status none has =
    ap (count_by is_withdrawing) (accepted-one_more all frame none)
    ∙ (count_by-one_more is_withdrawing (accepted all) frame.1 ∙ ap (λ s. withdrawals all + cond (is_deleted s) 1 0) has)

pub loads-one_more : (all : List Frame) (frame : Frame) (status : ℕ) → failure_of frame ≡ None → status_of frame.1 ≡ status
    → loads (all ++ frame ∷ []) ≡ loads all + cond (not (is_deleted status)) 1 0
loads-one_more all frame status none has =
    ap (count_by (λ f. not (is_withdrawing f))) (accepted-one_more all frame none)
    ∙ (count_by-one_more (λ f. not (is_withdrawing f)) (accepted all) frame.1 ∙ ap (λ s. loads all + cond (not (is_deleted s)) 1 0) has)
