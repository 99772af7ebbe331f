-- How the frames of a stream come of its parts.
use Rattle.std.proofs.Common.{◌≡◌, ℕ, zero, suc, ◌<◌, Bool, true, false, not, ◌||◌, cond, nat_lt, List, [], ◌∷◌, ◌++◌, length, replicate, refl, sym, ◌∙◌, ap, inl, inr, arith, append_assoc, length-append}
use Rattle.std.proofs.lemmas.Bool.{or_parts, or_from, or_right, lt-ltb, ltb-true, cases_Bool}
use Rattle.std.proofs.lemmas.Bool.Decides.{nat_tests}
use Rattle.std.proofs.lemmas.List.{append-nil, length-replicate}
use Rattle.std.proofs.lemmas.List.Folds.{list_any-append}
use Rattle.std.specs.List.{list_any, flat_map}
use Rattle.iso2709_frame.specs.Cutting.{too_long, largest}
use Rattle.iso2709_frame.specs.Frames.{frames, first_piece, later_pieces, cut_piece, cut_of, skip_breaks, is_terminator, is_break}
use Rattle.iso2709_frame.specs.declared.cut.Cut.TheVariants.{Whole, TooLong, Truncated}

-- the text has no record terminator
abbrev pub IsOpen : List ℕ → Type 0
IsOpen text = list_any is_terminator text ≡ false

-- the text begins, and not with CR or LF
abbrev pub is_headed : List ℕ → Bool
is_headed [] = false
is_headed (byte ∷ rest) = not (is_break byte)

-- no terminator in either part, none in both
pub IsOpen-append : (a b : List ℕ) → IsOpen a → IsOpen b → IsOpen (a ++ b)
IsOpen-append a b h k = list_any-append is_terminator a b ∙ or_from (list_any is_terminator a) (list_any is_terminator b) h k

-- the first piece reaches through an open text
pub first_piece-open : (a s : List ℕ) → IsOpen a → first_piece (a ++ s) ≡ a ++ first_piece s
first_piece-open [] s h = refl
first_piece-open (b ∷ a) s h =
    let both = or_parts (is_terminator b) (list_any is_terminator a) h in
    ap (λ t. b ∷ cond t [] (first_piece (a ++ s))) both.0 ∙ ap (λ r. b ∷ r) (first_piece-open a s both.1)

-- the later pieces begin after an open text
pub later_pieces-open : (a s : List ℕ) → IsOpen a → later_pieces (a ++ s) ≡ later_pieces s
later_pieces-open [] s h = refl
later_pieces-open (b ∷ a) s h =
    let both = or_parts (is_terminator b) (list_any is_terminator a) h in
    ap (λ t. cond t (first_piece (a ++ s) ∷ later_pieces (a ++ s)) (later_pieces (a ++ s))) both.0 ∙ later_pieces-open a s both.1

-- the frames of a stream that begins with an open text
pub frames-open : (a s : List ℕ) → IsOpen a → frames (a ++ s) ≡ cut_piece (a ++ first_piece s) ++ flat_map cut_piece (later_pieces s)
frames-open a s h =
    ap (λ first. cut_piece first ++ flat_map cut_piece (later_pieces (a ++ s))) (first_piece-open a s h)
    ∙ ap (λ later. cut_piece (a ++ first_piece s) ++ flat_map cut_piece later) (later_pieces-open a s h)

-- the frames of a stream that begins with an ended text
pub frames-ended : (a s : List ℕ) → IsOpen a → frames (a ++ 29 ∷ s) ≡ cut_piece (a ++ 29 ∷ []) ++ frames s
frames-ended a s h = frames-open a (29 ∷ s) h

-- an open text is one piece
pub frames-rest : (a : List ℕ) → IsOpen a → frames a ≡ cut_piece a
frames-rest a h =
    let all : a ++ [] ≡ a = append-nil a in
    ap frames (sym all) ∙ (frames-open a [] h ∙ (append-nil (cut_piece (a ++ [])) ∙ ap cut_piece all))

-- CR and LF are skipped once
pub skip_breaks-again : (a s : List ℕ) → skip_breaks (skip_breaks a ++ s) ≡ skip_breaks (a ++ s)
skip_breaks-again [] s = refl
skip_breaks-again (b ∷ a) s = elim (cases_Bool (is_break b)) [
  | inl e ↦ rw e (skip_breaks-again a s)
  | inr e ↦ rw e (rw e refl)
]

-- CR and LF are skipped for good
pub skip_breaks-twice : (a : List ℕ) → skip_breaks (skip_breaks a) ≡ skip_breaks a
skip_breaks-twice a =
    ap skip_breaks (sym (append-nil (skip_breaks a))) ∙ (skip_breaks-again a [] ∙ ap skip_breaks (append-nil a))

-- what is skipped is no terminator
pub list_any-skip_breaks : (a : List ℕ) → list_any is_terminator (skip_breaks a) ≡ list_any is_terminator a
list_any-skip_breaks [] = refl
list_any-skip_breaks (b ∷ a) = elim (cases_Bool (is_break b)) [
  | inl e ↦ let t : is_terminator b ≡ false = grind (arith, nat_tests) in rw (e, t) (list_any-skip_breaks a)
  | inr e ↦ rw e refl
]

-- what is left after CR and LF does not begin with them
pub skip_breaks-headed : (a : List ℕ) → 0 < length (skip_breaks a) → is_headed (skip_breaks a) ≡ true
skip_breaks-headed [] h = absurd (omega arith)
skip_breaks-headed (b ∷ a) h = elim (cases_Bool (is_break b)) [
  | inl e ↦ rw e (skip_breaks-headed a (rw e at h))
  | inr e ↦ rw e (rw e refl)
]

-- nothing is skipped before a text that does not begin with CR or LF
pub headed-skip_breaks : (a s : List ℕ) → is_headed a ≡ true → skip_breaks (a ++ s) ≡ a ++ s
headed-skip_breaks [] s h = cc
headed-skip_breaks (b ∷ a) s h = elim (cases_Bool (is_break b)) [
  | inl e ↦ cc
  | inr e ↦ rw e refl
]

-- nothing is skipped after bytes of which nothing was
pub gathered-skip_breaks : (held s : List ℕ) → skip_breaks held ≡ held → 0 < length held → skip_breaks (held ++ s) ≡ held ++ s
gathered-skip_breaks held s kept some =
    let left : 0 < length (skip_breaks held) = omega (arith, ap length kept) in
    headed-skip_breaks held s (ap is_headed (sym kept) ∙ skip_breaks-headed held left)

-- a terminator after a text is not skipped
pub skip_breaks-push : (a : List ℕ) → skip_breaks (a ++ 29 ∷ []) ≡ skip_breaks a ++ 29 ∷ []
skip_breaks-push [] = refl
skip_breaks-push (b ∷ a) = elim (cases_Bool (is_break b)) [
  | inl e ↦ rw e (skip_breaks-push a)
  | inr e ↦ rw e refl
]

-- CR and LF before an open text make no difference
pub frames-skip_breaks : (a s : List ℕ) → IsOpen a → frames (a ++ s) ≡ frames (skip_breaks a ++ s)
frames-skip_breaks a s h =
    let k : IsOpen (skip_breaks a) = list_any-skip_breaks a ∙ h in
    frames-open a s h ∙ (ap (λ c. c ++ flat_map cut_piece (later_pieces s)) (ap cut_of (sym (skip_breaks-again a (first_piece s))))
    ∙ sym (frames-open (skip_breaks a) s k))

-- how a text that is not empty is cut
pub cut_of-some : (a : List ℕ) → 0 < length a
    → cut_of a ≡ cond (list_any is_terminator a) (cond (nat_lt 99999 (length a)) (TooLong, []) (Whole, a)) (Truncated, []) ∷ []
cut_of-some [] h = absurd (omega arith)
cut_of-some (b ∷ a) h = refl

-- a text that is too long already
pub record IsLong (a : List ℕ) : Type 0 where
  pub open_text : IsOpen a
  pub headed : is_headed a ≡ true
  pub long : 99999 < length a

-- how a text that is too long already is cut, whatever follows
pub cut_piece-IsLong : (a f : List ℕ) → IsLong a → cut_piece (a ++ f) ≡ cond (list_any is_terminator f) (TooLong, []) (Truncated, []) ∷ []
cut_piece-IsLong a f h =
    let some : 0 < length (a ++ f) = omega (arith, length-append a f, h.long) in
    let long : nat_lt 99999 (length (a ++ f)) ≡ true = lt-ltb 99999 (length (a ++ f)) (omega (arith, length-append a f, h.long)) in
    let any : list_any is_terminator (a ++ f) ≡ list_any is_terminator f
    = list_any-append is_terminator a f ∙ ap (λ t. t || list_any is_terminator f) h.open_text in
    ap cut_of (headed-skip_breaks a f h.headed) ∙ (cut_of-some (a ++ f) some
    ∙ (ap (λ t. cond t (cond (nat_lt 99999 (length (a ++ f))) (TooLong, []) (Whole, a ++ f)) (Truncated, []) ∷ []) any
    ∙ ap (λ t. cond (list_any is_terminator f) (cond t (TooLong, []) (Whole, a ++ f)) (Truncated, []) ∷ []) long))

-- two texts that are too long already are as good as each other
pub frames-IsLong : (a b s : List ℕ) → IsLong a → IsLong b → frames (a ++ s) ≡ frames (b ++ s)
frames-IsLong a b s h k =
    frames-open a s h.open_text
    ∙ (ap (λ c. c ++ flat_map cut_piece (later_pieces s)) (cut_piece-IsLong a (first_piece s) h ∙ sym (cut_piece-IsLong b (first_piece s) k))
    ∙ sym (frames-open b s k.open_text))

-- zeros are no terminators
IsOpen-replicate : (n : ℕ) → IsOpen (replicate n 0)
IsOpen-replicate zero = refl
IsOpen-replicate (suc n) = IsOpen-replicate n

largest-is : largest ≡ 99999
unfolding largest
largest-is = refl

-- what stands for a text that is too long already is one
pub IsLong-too_long : IsLong too_long
unfolding too_long
IsLong-too_long = record {
  open_text = IsOpen-replicate (suc largest);
  headed = refl;
  long = omega (arith, length-replicate {A = ℕ} (suc largest) 0, largest-is);
}

-- a text that begins without CR and LF still does with more after it
pub headed-append : (a b : List ℕ) → is_headed a ≡ true → is_headed (a ++ b) ≡ true
headed-append [] b h = cc
headed-append (x ∷ a) b h = h

-- more of an open text leaves it too long
pub IsLong-append : (a b : List ℕ) → IsLong a → IsOpen b → IsLong (a ++ b)
IsLong-append a b h k = record {
  open_text = IsOpen-append a b h.open_text k;
  headed = headed-append a b h.headed;
  long = omega (arith, length-append a b, h.long);
}

-- an open part after a text that waits
pub frames-part : (overfull : Bool) (held part more : List ℕ) → IsOpen held → IsOpen part
    → frames (cond overfull too_long held ++ (part ++ more))
    ≡ frames (cond (overfull || nat_lt 99999 (length (skip_breaks (held ++ part)))) too_long (skip_breaks (held ++ part)) ++ more)
frames-part true held part more h k =
    rw (← append_assoc too_long part more) (frames-IsLong (too_long ++ part) too_long more (IsLong-append too_long part IsLong-too_long k) IsLong-too_long)
frames-part false held part more h k =
    let both : IsOpen (held ++ part) = IsOpen-append held part h k in
    let skipped : frames (held ++ (part ++ more)) ≡ frames (skip_breaks (held ++ part) ++ more)
    = ap frames (sym (append_assoc held part more)) ∙ frames-skip_breaks (held ++ part) more both in
    elim (cases_Bool (nat_lt 99999 (length (skip_breaks (held ++ part))))) [
      | inl e ↦
          let long : 99999 < length (skip_breaks (held ++ part)) = ltb-true _ _ e in
          let some : 0 < length (skip_breaks (held ++ part)) = omega arith in
          let is_long : IsLong (skip_breaks (held ++ part)) = record {
            open_text = list_any-skip_breaks (held ++ part) ∙ both;
            headed = skip_breaks-headed (held ++ part) some;
            long = long;
          } in
          skipped ∙ (frames-IsLong (skip_breaks (held ++ part)) too_long more is_long IsLong-too_long
          ∙ ap (λ t. frames (cond t too_long (skip_breaks (held ++ part)) ++ more)) (sym e))
      | inr e ↦ skipped ∙ ap (λ t. frames (cond t too_long (skip_breaks (held ++ part)) ++ more)) (sym e)
    ]

-- an ended part after a text that waits
pub frames-ended_part : (overfull : Bool) (held a more : List ℕ) → IsOpen held → IsOpen a
    → frames (cond overfull too_long held ++ ((a ++ 29 ∷ []) ++ more))
    ≡ cond (overfull || nat_lt 99999 (length (skip_breaks (held ++ (a ++ 29 ∷ []))))) (TooLong, []) (Whole, skip_breaks (held ++ (a ++ 29 ∷ []))) ∷ frames more
frames-ended_part true held a more h k =
    let joined : too_long ++ ((a ++ 29 ∷ []) ++ more) ≡ (too_long ++ a) ++ 29 ∷ more = simp append_assoc in
    let any : list_any is_terminator (a ++ 29 ∷ []) ≡ true = list_any-append is_terminator a (29 ∷ []) ∙ or_right (list_any is_terminator a) true refl in
    ap frames joined ∙ (frames-ended (too_long ++ a) more (IsOpen-append too_long a IsLong-too_long.open_text k)
    ∙ ap (λ c. c ++ frames more) (ap cut_piece (append_assoc too_long a (29 ∷ []))
    ∙ (cut_piece-IsLong too_long (a ++ 29 ∷ []) IsLong-too_long ∙ ap (λ t. cond t (TooLong, []) (Truncated, []) ∷ []) any)))
frames-ended_part false held a more h k =
    let joined : held ++ ((a ++ 29 ∷ []) ++ more) ≡ (held ++ a) ++ 29 ∷ more = simp append_assoc in
    let whole : skip_breaks (held ++ (a ++ 29 ∷ [])) ≡ skip_breaks (held ++ a) ++ 29 ∷ []
    = ap skip_breaks (sym (append_assoc held a (29 ∷ []))) ∙ skip_breaks-push (held ++ a) in
    let some : 0 < length (skip_breaks (held ++ (a ++ 29 ∷ []))) = omega (arith, ap length whole, length-append (skip_breaks (held ++ a)) (29 ∷ [])) in
    let any : list_any is_terminator (skip_breaks (held ++ (a ++ 29 ∷ []))) ≡ true
    = ap (list_any is_terminator) whole ∙ (list_any-append is_terminator (skip_breaks (held ++ a)) (29 ∷ []) ∙ or_right (list_any is_terminator (skip_breaks (held ++ a))) true refl) in
    ap frames joined ∙ (frames-ended (held ++ a) more (IsOpen-append held a h k)
    ∙ ap (λ c. c ++ frames more) (ap cut_piece (append_assoc held a (29 ∷ []))
    ∙ (cut_of-some (skip_breaks (held ++ (a ++ 29 ∷ []))) some
    ∙ ap (λ t. cond t (cond (nat_lt 99999 (length (skip_breaks (held ++ (a ++ 29 ∷ []))))) (TooLong, []) (Whole, skip_breaks (held ++ (a ++ 29 ∷ [])))) (Truncated, []) ∷ []) any)))

-- an open text that waits when the stream ends is cut off, where it is not empty
pub frames-left : (a : List ℕ) → IsOpen a → skip_breaks a ≡ a → 0 < length a → frames a ≡ (Truncated, []) ∷ []
frames-left a h kept some =
    frames-rest a h ∙ (ap cut_of kept ∙ (cut_of-some a some
    ∙ ap (λ t. cond t (cond (nat_lt 99999 (length a)) (TooLong, []) (Whole, a)) (Truncated, []) ∷ []) h))

-- a text that is too long already is cut off when the stream ends
pub frames-too_long : frames too_long ≡ (Truncated, []) ∷ []
frames-too_long =
    let some : 0 < length too_long = omega (arith, IsLong-too_long.long) in
    let kept : skip_breaks too_long ≡ too_long
    = ap skip_breaks (sym (append-nil too_long)) ∙ (headed-skip_breaks too_long [] IsLong-too_long.headed ∙ append-nil too_long) in
    frames-left too_long IsLong-too_long.open_text kept some
