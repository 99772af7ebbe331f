-- A text that is written in pieces.
use Rattle.std.proofs.Common.{◌≡◌, ◌≤◌, ℕ, List, [], ◌++◌, length, take, drop, sym, ap, subst, ◌∙◌, append_assoc, append-nil, arith, length-append, take-append-drop}
use Rattle.std.proofs.Math.Seq.{take-append_seam}
use Rattle.std.proofs.KnownBytes.{Appends-trans, Appends-kept}
use Rattle.std.specs.declared.option.Option.{Option}
use Rattle.std.specs.Io.KnownBytes.{Appends, Keeps}
use Rattle.union_io.specs.Writing.{AppendsFront}

-- a prefix of the text is written, and the rest is to come
pub record IsWrittenUpTo (old new : Option (List ℕ)) (text rest : List ℕ) : Type 0 where
  pub front : List ℕ
  pub split : text ≡ front ++ rest
  pub grown : Appends old new front

-- nothing is to come: the whole text is written
pub all_written : (old new : Option (List ℕ)) (text rest : List ℕ) → IsWrittenUpTo old new text rest → rest ≡ [] → Appends old new text
all_written old new text rest so_far empty =
    let whole : so_far.front ≡ text = sym (so_far.split ∙ ap (λ l. so_far.front ++ l) empty ∙ append-nil so_far.front) in
    subst (Appends old new) whole so_far.grown

-- one piece more is written
pub written_more : (old mid new : Option (List ℕ)) (text rest : List ℕ) (taken : ℕ)
    → IsWrittenUpTo old mid text rest → Appends mid new (take taken rest) → IsWrittenUpTo old new text (drop taken rest)
written_more old mid new text rest taken so_far piece = record {
  front = so_far.front ++ take taken rest;
  split = so_far.split ∙ ap (λ l. so_far.front ++ l) (sym (take-append-drop taken rest)) ∙ sym (append_assoc so_far.front (take taken rest) (drop taken rest));
  grown = Appends-trans old mid new so_far.front (take taken rest) so_far.grown piece;
}

-- a failure that wrote nothing leaves a prefix of the text written
pub front_written : (old mid new : Option (List ℕ)) (text rest : List ℕ) → IsWrittenUpTo old mid text rest → Keeps mid new → AppendsFront old new text
front_written old mid new text rest so_far kept =
    let within : length so_far.front ≤ length text = omega (arith, length-append so_far.front rest, ap length so_far.split) in
    let is_front : take (length so_far.front) text ≡ so_far.front =
    ap (take (length so_far.front)) so_far.split ∙ take-append_seam so_far.front rest in
    (length so_far.front, within, subst (Appends old new) (sym is_front) (Appends-kept old mid new so_far.front so_far.grown kept))
