-- The shares of frames that several workers checked, put together.
use Rattle.std.proofs.Common.{◌≡◌, ℕ, suc, zero, ◌+◌, ◌*◌, ◌/◌, ◌%◌, ◌<◌, ◌≤◌, List, [], ◌∷◌, ◌++◌, length, get_or, take, drop, append_assoc, append-nil, refl, sym, ap, subst, ◌∙◌, arith, add-zero, suc-mul, zero-mul, length-append, length-drop}
use Rattle.std.specs.Prelude.{Result, Ok, IfOk, min}
use Rattle.std.proofs.lemmas.List.{drop-drop, length-take-le, nil_from_length, take-append-drop}
use Rattle.std.proofs.lemmas.Nat.{div-add-mod', mod_below}
use Rattle.catalogue_editions.specs.declared.op.Op.{Op}
use Rattle.library_batches.specs.Streams.{Frame}
use Rattle.library_batches.specs.Blocks.{IsChecked}
use Rattle.library_batches.specs.Shares.{IsShare, AreShares, KeepsFront}
use Rattle.library_batches.specs.declared.refused.RefusedFrame.{RefusedFrame}
use Rattle.library_batches.specs.declared.shares.Checked.{Checked}
use Rattle.library_batches.proofs.CheckedLaws.{IsChecked-none, IsChecked-more}

-- what is left after `whole` shares is one share more
reach : (whole left count size total : ℕ) → whole * size + left ≡ total → left < size → count ≡ whole + min 1 left → total ≤ count * size
reach whole zero count size total all few is =
    let same : count ≡ whole = omega (arith, is) in
    omega (arith, all, ap (λ n. n * size) same)
reach whole (suc left) count size total all few is =
    let same : count ≡ suc whole = omega (arith, is) in
    omega (arith, all, few, ap (λ n. n * size) same ∙ suc-mul whole size)

-- so many shares reach over all the frames
pub shares-reach : (count size total : ℕ) → 0 < size → count ≡ total / size + min 1 (total % size) → total ≤ count * size
shares-reach count size total some is = reach (total / size) (total % size) count size total (div-add-mod' total size) (mod_below total size some) is

-- the shares are those of the frames, where that is known of each by its place
pub are-shares : {E : Type 0} (prefer : List (List ℕ)) (library : List ℕ) (size start : ℕ) (frames : List Frame) (made : List (Result Checked E))
    → length frames ≤ length made * size
    → ((n : ℕ) (d : Result Checked E) → n < length made
    → (n * size < length frames) × IfOk (get_or made n d) (IsShare prefer library (start + n * size) (take size (drop (n * size) frames))))
    → AreShares prefer library size start frames made
are-shares prefer library size start frames [] few each = nil_from_length frames (omega (arith, few, zero-mul size))
are-shares prefer library size start frames (one ∷ more) few each =
    let here : start + 0 * size ≡ start = ap (λ k. start + k) (zero-mul size) ∙ add-zero start in (
      subst (λ k. IfOk one (IsShare prefer library k (take size frames))) here
          (subst (λ k. IfOk one (IsShare prefer library (start + 0 * size) (take size (drop k frames)))) (zero-mul size) (each 0 one (omega arith)).1),
      are-shares prefer library size (start + length (take size frames)) (drop size frames) more
          (omega (arith, few, suc-mul (length more) size, length-drop size frames))
          (λ n d within.
          let next = each (suc n) d (omega (arith, within)) in
          let far : suc n * size ≡ n * size + size = suc-mul n size in
          let whole : length (take size frames) ≡ size = length-take-le size frames (omega (arith, next.0, far)) in
          let place : start + suc n * size ≡ (start + length (take size frames)) + n * size = omega (arith, far, whole) in
          let turned : suc n * size ≡ size + n * size = omega (arith, far) in
          let rest : drop (suc n * size) frames ≡ drop (n * size) (drop size frames) = ap (λ k. drop k frames) turned ∙ sym (drop-drop (n * size) size frames) in (
            omega (arith, next.0, far, length-drop size frames),
            subst (λ k. IfOk (get_or more n d) (IsShare prefer library k (take size (drop (n * size) (drop size frames))))) place
                (subst (λ fs. IfOk (get_or more n d) (IsShare prefer library (start + suc n * size) (take size fs))) rest next.1),
          )),
    )

-- the shares of some of the frames were put together, and those to come are the shares of the rest
pub record IsJoined {E : Type 0} (prefer : List (List ℕ)) (library : List ℕ) (size start : ℕ) (frames : List Frame) (still : List (Result Checked E))
    (ops : List Op) (before now : List RefusedFrame) : Type 0 where
  pub done : List Frame
  pub rest : List Frame
  pub all : frames ≡ done ++ rest
  pub come : AreShares prefer library size (start + length done) rest still
  pub checked : IsChecked prefer library start done ops before now

-- none is put together at first
pub joined-none : {E : Type 0} (prefer : List (List ℕ)) (library : List ℕ) (size start : ℕ) (frames : List Frame) (made still : List (Result Checked E)) (ops : List Op)
    (before : List RefusedFrame) → still ≡ made → ops ≡ [] → AreShares prefer library size start frames made
    → IsJoined prefer library size start frames still ops before before
joined-none prefer library size start frames made still ops before same none shares = record {
  done = [];
  rest = frames;
  all = refl;
  come = subst (λ k. AreShares prefer library size k frames still) (sym (add-zero start)) (subst (λ list. AreShares prefer library size start frames list) (sym same) shares);
  checked = subst (λ list. IsChecked prefer library start [] list before before) (sym none) (IsChecked-none prefer library start before);
}

-- one more share
pub joined-more : {E : Type 0} (prefer : List (List ℕ)) (library : List ℕ) (size start : ℕ) (frames : List Frame) (still more : List (Result Checked E)) (part : Checked)
    (ops ops' : List Op) (before now now' : List RefusedFrame) → still ≡ Ok part ∷ more → ops' ≡ ops ++ part.ops.items → now' ≡ now ++ part.refused.items
    → IsJoined prefer library size start frames still ops before now → IsJoined prefer library size start frames more ops' before now'
joined-more {E} prefer library size start frames still more part ops ops' before now now' next asked refused joined =
    let come = subst (λ (list : List (Result Checked E)). AreShares prefer library size (start + length joined.done) joined.rest list) next joined.come in
    let place : (start + length joined.done) + length (take size joined.rest) ≡ start + length (joined.done ++ take size joined.rest) =
    omega (arith, length-append joined.done (take size joined.rest)) in
    record {
      done = joined.done ++ take size joined.rest;
      rest = drop size joined.rest;
      all = joined.all ∙ ap (λ fs. joined.done ++ fs) (sym (take-append-drop size joined.rest)) ∙ sym (append_assoc joined.done (take size joined.rest) (drop size joined.rest));
      come = subst (λ k. AreShares prefer library size k (drop size joined.rest) more) place come.1;
      checked = rw (asked, refused)
          (IsChecked-more prefer library start joined.done (take size joined.rest) ops part.ops.items before now part.refused.items joined.checked come.0);
    }

-- no share is to come
pub joined-all : {E : Type 0} (prefer : List (List ℕ)) (library : List ℕ) (size start : ℕ) (frames : List Frame) (still : List (Result Checked E)) (ops : List Op)
    (before now : List RefusedFrame) → still ≡ [] → IsJoined prefer library size start frames still ops before now → IsChecked prefer library start frames ops before now
joined-all {E} prefer library size start frames still ops before now last joined =
    let none = subst (λ (list : List (Result Checked E)). AreShares prefer library size (start + length joined.done) joined.rest list) last joined.come in
    subst (λ fs. IsChecked prefer library start fs ops before now) (sym (joined.all ∙ ap (λ fs. joined.done ++ fs) none ∙ append-nil joined.done)) joined.checked

-- the shares that were put together are those of the first of the frames
pub joined-front : {E : Type 0} (prefer : List (List ℕ)) (library : List ℕ) (size start : ℕ) (frames : List Frame) (still : List (Result Checked E)) (ops : List Op)
    (before now : List RefusedFrame) → IsJoined prefer library size start frames still ops before now → KeepsFront start frames before now
joined-front {E} prefer library size start frames still ops before now joined = record {
  checked = joined.done;
  rest = joined.rest;
  all = joined.all;
  refused = joined.checked.refused;
}

-- none was checked
pub front-none : (start : ℕ) (frames : List Frame) (before : List RefusedFrame) → KeepsFront start frames before before
front-none start frames before = record { checked = []; rest = frames; all = refl; refused = sym (append-nil before) }
