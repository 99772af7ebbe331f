-- One more frame of a block is checked, or more frames.
use Rattle.std.proofs.Common.{◌≡◌, ℕ, suc, ◌+◌, Bool, true, false, List, [], ◌∷◌, ◌++◌, length, append_assoc, append-nil, refl, sym, ap, ◌∙◌, arith, add-zero}
use Rattle.std.specs.Prelude.{map, filter, is_none, Some, None, IsTrue}
use Rattle.std.specs.List.{AllZip, list_all}
use Rattle.std.proofs.lemmas.List.{map-append}
use Rattle.std.proofs.lemmas.List.Elements.{filter-append}
use Rattle.std.proofs.lemmas.List.Folds.{list_all-append}
use Rattle.marc_fields.specs.Spelling.{Spells}
use Rattle.marc_parts.specs.declared.marc_record.Record.{Record}
use Rattle.marc_fields.specs.declared.rules.Failure.{Failure}
use Rattle.catalogue_editions.specs.Batches.{is_own_op}
use Rattle.record_editions.specs.Ops.{op}
use Rattle.catalogue_editions.specs.declared.op.Op.{Op}
use Rattle.library_batches.specs.Streams.{Frame, failure_of, is_accepted, accepted}
use Rattle.library_batches.specs.Refused.{refusal_of, refused_from}
use Rattle.library_batches.specs.Batches.{IsOpOf}
use Rattle.library_batches.specs.Blocks.{IsChecked}
use Rattle.library_batches.specs.declared.refused.RefusedFrame.{RefusedFrame}

passed_one : {A : Type 0} (p : A → Bool) (x : A) → p x ≡ true → filter p (x ∷ []) ≡ x ∷ []
passed_one p x h = rw h refl

failed_one : {A : Type 0} (p : A → Bool) (x : A) → p x ≡ false → filter p (x ∷ []) ≡ []
failed_one p x h = rw h refl

-- an accepted frame more
accepted-one_more : (all : List Frame) (frame : Frame) → failure_of frame ≡ None → accepted (all ++ frame ∷ []) ≡ accepted all ++ frame.1 ∷ []
accepted-one_more all frame none =
    ap (map (λ (f : Frame). f.1)) (filter-append is_accepted all (frame ∷ []) ∙ ap (λ fs. filter is_accepted all ++ fs) (passed_one is_accepted frame (ap is_none none)))
    ∙ map-append (λ (f : Frame). f.1) (filter is_accepted all) (frame ∷ [])

-- a refused frame more
accepted-refused_more : (all : List Frame) (frame : Frame) (failure : Failure) → failure_of frame ≡ Some failure
    → accepted (all ++ frame ∷ []) ≡ accepted all
accepted-refused_more all frame failure fails =
    ap (map (λ (f : Frame). f.1)) (filter-append is_accepted all (frame ∷ [])
    ∙ (ap (λ fs. filter is_accepted all ++ fs) (failed_one is_accepted frame (ap is_none fails)) ∙ append-nil (filter is_accepted all)))

-- the refused ones of frames in two parts
pub refused_from-append : (n : ℕ) (xs ys : List Frame) → refused_from n (xs ++ ys) ≡ refused_from n xs ++ refused_from (n + length xs) ys
refused_from-append n [] ys = ap (λ k. refused_from k ys) (sym (add-zero n))
refused_from-append n (x ∷ xs) ys =
    let place : suc n + length xs ≡ n + suc (length xs) = omega arith in
    ap (λ fs. refusal_of n (failure_of x) ++ fs) (refused_from-append (suc n) xs ys ∙ ap (λ k. refused_from (suc n) xs ++ refused_from k ys) place)
    ∙ sym (append_assoc (refusal_of n (failure_of x)) (refused_from (suc n) xs) (refused_from (n + suc (length xs)) ys))

refused_from-one_more : (n : ℕ) (all : List Frame) (frame : Frame)
    → refused_from n (all ++ frame ∷ []) ≡ refused_from n all ++ refusal_of (n + length all) (failure_of frame)
refused_from-one_more n all frame =
    refused_from-append n all (frame ∷ []) ∙ ap (λ xs. refused_from n all ++ xs) (append-nil (refusal_of (n + length all) (failure_of frame)))

-- two lists that go together place by place, and one more of each
AllZip-one_more : {A B : Type 0} (R : A → B → Type 0) (xs : List A) (ys : List B) (x : A) (y : B) → AllZip R xs ys → R x y
    → AllZip R (xs ++ x ∷ []) (ys ++ y ∷ [])
AllZip-one_more R [] [] x y all one = (one, tt)
AllZip-one_more R [] (b ∷ ys) x y all one = absurd all
AllZip-one_more R (a ∷ xs) [] x y all one = absurd all
AllZip-one_more R (a ∷ xs) (b ∷ ys) x y all one = (all.0, AllZip-one_more R xs ys x y all.1 one)

-- two lists that go together, and two more behind them
AllZip-more : {A B : Type 0} (R : A → B → Type 0) (xs : List A) (ys : List B) (vs : List A) (ws : List B) → AllZip R xs ys → AllZip R vs ws
    → AllZip R (xs ++ vs) (ys ++ ws)
AllZip-more R [] [] vs ws all more = more
AllZip-more R [] (b ∷ ys) vs ws all more = absurd all
AllZip-more R (a ∷ xs) [] vs ws all more = absurd all
AllZip-more R (a ∷ xs) (b ∷ ys) vs ws all more = (all.0, AllZip-more R xs ys vs ws all.1 more)

-- one more that passes
list_all-one_more : {A : Type 0} (p : A → Bool) (xs : List A) (x : A) → list_all p xs ≡ true → p x ≡ true → list_all p (xs ++ x ∷ []) ≡ true
list_all-one_more p xs x all one = list_all-append p xs (x ∷ []) ∙ (rw (all, one) refl)

-- more that pass
list_all-more : {A : Type 0} (p : A → Bool) (xs ys : List A) → list_all p xs ≡ true → list_all p ys ≡ true → list_all p (xs ++ ys) ≡ true
list_all-more p xs ys all more = list_all-append p xs ys ∙ (rw (all, more) refl)

-- the accepted ones of frames in two parts
accepted-append : (xs ys : List Frame) → accepted (xs ++ ys) ≡ accepted xs ++ accepted ys
accepted-append xs ys =
    ap (map (λ (f : Frame). f.1)) (filter-append is_accepted xs ys) ∙ map-append (λ (f : Frame). f.1) (filter is_accepted xs) (filter is_accepted ys)

-- nothing is checked at first
pub IsChecked-none : (prefer : List (List ℕ)) (library : List ℕ) (start : ℕ) (before : List RefusedFrame) → IsChecked prefer library start [] [] before before
IsChecked-none prefer library start before = record {
  asked = tt;
  own = refl;
  refused = sym (append-nil before);
}

-- an accepted frame more
pub IsChecked-accepted : (prefer : List (List ℕ)) (library : List ℕ) (start : ℕ) (taken : List Frame) (frame : Frame) (ops ops' : List Op) (before now : List RefusedFrame)
    (r : Record) (asked : Op) → failure_of frame ≡ None → Spells frame.1 r → op prefer library r ≡ Some asked → IsTrue (is_own_op library asked)
    → ops' ≡ ops ++ asked ∷ [] → IsChecked prefer library start taken ops before now → IsChecked prefer library start (taken ++ frame ∷ []) ops' before now
IsChecked-accepted prefer library start taken frame ops ops' before now r asked none spells is own more checked = record {
  asked = rw (accepted-one_more taken frame none, more) (AllZip-one_more (IsOpOf prefer library) (accepted taken) ops frame.1 asked checked.asked (r, spells, is));
  own = rw more (list_all-one_more (is_own_op library) ops asked checked.own own);
  refused = checked.refused ∙ sym (ap (λ xs. before ++ xs) (refused_from-one_more start taken frame
      ∙ (ap (λ f. refused_from start taken ++ refusal_of (start + length taken) f) none ∙ append-nil (refused_from start taken))));
}

-- a refused frame more
pub IsChecked-refused : (prefer : List (List ℕ)) (library : List ℕ) (start number : ℕ) (taken : List Frame) (frame : Frame) (ops : List Op) (before now now' : List RefusedFrame)
    (failure : Failure) → failure_of frame ≡ Some failure → number ≡ start + length taken
    → now' ≡ now ++ record { frame = number; rule = failure.rule; place = failure.place } ∷ []
    → IsChecked prefer library start taken ops before now → IsChecked prefer library start (taken ++ frame ∷ []) ops before now'
IsChecked-refused prefer library start number taken frame ops before now now' failure fails place more checked = record {
  asked = rw (accepted-refused_more taken frame failure fails) checked.asked;
  own = checked.own;
  refused = more ∙ (ap (λ xs. xs ++ record { frame = number; rule = failure.rule; place = failure.place } ∷ []) checked.refused
      ∙ (append_assoc before _ _ ∙ sym (ap (λ xs. before ++ xs) (refused_from-one_more start taken frame
      ∙ (ap (λ f. refused_from start taken ++ refusal_of (start + length taken) f) fails
      ∙ ap (λ k. refused_from start taken ++ refusal_of k (Some failure)) (sym place))))));
}

-- frames, and more frames behind them
pub IsChecked-more : (prefer : List (List ℕ)) (library : List ℕ) (start : ℕ) (xs ys : List Frame) (ops more : List Op) (before now later : List RefusedFrame)
    → IsChecked prefer library start xs ops before now → IsChecked prefer library (start + length xs) ys more [] later
    → IsChecked prefer library start (xs ++ ys) (ops ++ more) before (now ++ later)
IsChecked-more prefer library start xs ys ops more before now later one two = record {
  asked = rw (accepted-append xs ys) (AllZip-more (IsOpOf prefer library) (accepted xs) ops (accepted ys) more one.asked two.asked);
  own = list_all-more (is_own_op library) ops more one.own two.own;
  refused = ap (λ r. r ++ later) one.refused ∙ (append_assoc before (refused_from start xs) later
      ∙ (ap (λ r. before ++ (refused_from start xs ++ r)) two.refused ∙ sym (ap (λ r. before ++ r) (refused_from-append start xs ys))));
}
