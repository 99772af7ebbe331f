-- Where the frames of a text stand, by its pieces, and how a reader comes from one to the next.
use Rattle.std.proofs.Common.{◌≡◌, ◌≢◌, ℕ, ◌+◌, ◌<◌, Bool, true, false, cond, nat_lt, List, [], ◌∷◌, ◌++◌, length, drop, suc, refl, sym, ◌∙◌, ap, arith, append-nil, append_assoc, length-append, Some, None}
use Rattle.std.specs.Prelude.{Option}
use Rattle.std.specs.List.{list_any, slice_get}
use Rattle.std.specs.Io.KnownBytes.{Consumes}
use Rattle.std.proofs.lemmas.Bool.{or_parts, or_from, lt-ltb, ne_eqb}
use Rattle.iso2709_frame.specs.Frames.{first_piece, skip_breaks, is_terminator}
use Rattle.iso2709_frame.proofs.FrameLaws.{IsOpen, IsOpen-append, first_piece-open}
use Rattle.iso2709_frame.proofs.PieceLaws.{first_piece-all}
use Rattle.union_explain.specs.Located.{Located, frame_at, located_piece, located_later, located_from, located_ahead}
use Rattle.union_explain.specs.Readings.{Gives, Finds}
use Rattle.union_explain.proofs.GatherLaws.{skip_breaks-kept, length-skip_breaks}

-- no frame begins within an open text
located_later-open : (at : ℕ) (a s : List ℕ) → IsOpen a → located_later at (a ++ s) ≡ located_later (at + length a) s
located_later-open at [] s h = ap (λ n. located_later n s) (omega arith)
located_later-open at (b ∷ a) s h =
    let both = or_parts (is_terminator b) (list_any is_terminator a) h in
    let moved : (at + 1) + length a ≡ at + length (b ∷ a) = omega arith in
    ap (λ t. cond t (located_piece (at + 1) (first_piece (a ++ s)) ++ located_later (at + 1) (a ++ s)) (located_later (at + 1) (a ++ s))) both.0
    ∙ (located_later-open (at + 1) a s both.1 ∙ ap (λ n. located_later n s) moved)

-- a piece with a terminator is a frame
located_piece-ended : (at : ℕ) (a : List ℕ) → located_piece at (a ++ 29 ∷ []) ≡ frame_at at (a ++ 29 ∷ []) ∷ []
located_piece-ended at a =
    let kept : skip_breaks (a ++ 29 ∷ []) ≡ skip_breaks a ++ 29 ∷ [] = skip_breaks-kept a 29 (λ _. refl) in
    let some : 0 < length (skip_breaks (a ++ 29 ∷ [])) = omega (arith, ap length kept, length-append (skip_breaks a) (29 ∷ [])) in
    ap (λ t. cond t (frame_at at (a ++ 29 ∷ []) ∷ []) []) (lt-ltb 0 (length (skip_breaks (a ++ 29 ∷ []))) some)

-- the first frame of a text that has a terminator, and those after it
pub located_from-ended : (at : ℕ) (a s : List ℕ) → IsOpen a
    → located_from at (a ++ 29 ∷ s) ≡ frame_at at (a ++ 29 ∷ []) ∷ located_from (at + length (a ++ 29 ∷ [])) s
located_from-ended at a s h =
    let behind : (at + length a) + 1 ≡ at + length (a ++ 29 ∷ []) = omega (arith, length-append a (29 ∷ [])) in
    ap (λ p. located_piece at p ++ located_later at (a ++ 29 ∷ s)) (first_piece-open a (29 ∷ s) h)
    ∙ (ap (λ x. x ++ located_later at (a ++ 29 ∷ s)) (located_piece-ended at a)
    ∙ ap (λ x. frame_at at (a ++ 29 ∷ []) ∷ x) (located_later-open at a (29 ∷ s) h ∙ ap (λ n. located_from n s) behind))

-- the one frame of an open text, if it has one
pub located_from-open : (at : ℕ) (a : List ℕ) → IsOpen a → located_from at a ≡ located_piece at a
located_from-open at a h =
    ap (λ p. located_piece at p ++ located_later at a) (first_piece-all a h)
    ∙ (ap (λ x. located_piece at a ++ located_later at x) (sym (append-nil a))
    ∙ (ap (λ x. located_piece at a ++ x) (located_later-open at a [] h) ∙ append-nil (located_piece at a)))

-- of what was ahead an open text was read since a frame was begun, and gathered
pub record Gathers (initial now : Option (List ℕ)) (begun at : ℕ) (frame : Located) : Type 0 where
  pub front : List ℕ
  pub consumed : Consumes initial now front
  pub open_front : IsOpen front
  pub gathered : frame ≡ frame_at begun front
  pub moved : at ≡ begun + length front

-- the first bytes are read, and then one more
consumes-more : (initial now after : Option (List ℕ)) (front : List ℕ) (byte : ℕ) → Consumes initial now front → Gives now after (Some byte)
    → Consumes initial after (front ++ byte ∷ [])
consumes-more None now after front byte consumed gives = tt
consumes-more (Some all) None after front byte consumed gives = absurd consumed
consumes-more (Some all) (Some rest) None front byte consumed gives = absurd gives
consumes-more (Some all) (Some rest) (Some more) front byte consumed gives =
    consumed ∙ (ap (λ xs. front ++ xs) gives ∙ sym (append_assoc front (byte ∷ []) more))

-- nothing is read yet
none_read : (xs : Option (List ℕ)) → Consumes xs xs []
none_read None = tt
none_read (Some xs) = refl

-- nothing is gathered yet
pub Gathers-begun : (initial : Option (List ℕ)) (at : ℕ) (frame : Located) → frame ≡ frame_at at [] → Gathers initial initial at at frame
Gathers-begun initial at frame h = record {
  front = [];
  consumed = none_read initial;
  open_front = refl;
  gathered = h;
  moved = omega arith;
}

-- what is gathered ends where the reader stands
pub Gathers-end : (initial now : Option (List ℕ)) (begun at : ℕ) (frame : Located) → Gathers initial now begun at frame
    → frame.first + frame.size ≡ at
Gathers-end initial now begun at frame g =
    omega (arith, ap (λ f. f.first) g.gathered, ap (λ f. f.size) g.gathered, g.moved, length-skip_breaks g.front)

-- a byte that ends no frame is gathered
pub Gathers-more : (initial now after : Option (List ℕ)) (begun at at' : ℕ) (frame frame' : Located) (byte : ℕ)
    → Gathers initial now begun at frame → Gives now after (Some byte) → byte ≢ 29 → at' ≡ at + 1
    → ((n : ℕ) (front : List ℕ) → frame ≡ frame_at n front → frame' ≡ frame_at n (front ++ byte ∷ []))
    → Gathers initial after begun at' frame'
Gathers-more initial now after begun at at' frame frame' byte g gives other moved adds = record {
  front = g.front ++ byte ∷ [];
  consumed = consumes-more initial now after g.front byte g.consumed gives;
  open_front = IsOpen-append g.front (byte ∷ []) g.open_front
      (or_from (is_terminator byte) false (ne_eqb byte 29 other) refl);
  gathered = adds begun g.front g.gathered;
  moved = omega (arith, moved, g.moved, length-append g.front (byte ∷ []));
}

-- a terminator ends the frame
pub Gives-ended : (initial now after : Option (List ℕ)) (begun at at' : ℕ) (frame frame' : Located) (byte : ℕ)
    → Gathers initial now begun at frame → Gives now after (Some byte) → byte ≡ 29 → at' ≡ at + 1
    → ((n : ℕ) (front : List ℕ) → frame ≡ frame_at n front → frame' ≡ frame_at n (front ++ byte ∷ []))
    → Gives (located_ahead begun initial) (located_ahead at' after) (Some frame')
Gives-ended None now after begun at at' frame frame' byte g gives is moved adds = tt
Gives-ended (Some all) None after begun at at' frame frame' byte g gives is moved adds = absurd g.consumed
Gives-ended (Some all) (Some rest) None begun at at' frame frame' byte g gives is moved adds = absurd gives
Gives-ended (Some all) (Some rest) (Some more) begun at at' frame frame' byte g gives is moved adds =
    let split : all ≡ g.front ++ 29 ∷ more = g.consumed ∙ ap (λ xs. g.front ++ xs) (gives ∙ ap (λ b. b ∷ more) is) in
    let ends : frame_at begun (g.front ++ 29 ∷ []) ≡ frame' =
    sym (adds begun g.front g.gathered ∙ ap (λ b. frame_at begun (g.front ++ b ∷ [])) is) in
    let behind : begun + length (g.front ++ 29 ∷ []) ≡ at' = omega (arith, moved, g.moved, length-append g.front (29 ∷ [])) in
    ap (located_from begun) split
    ∙ (located_from-ended begun g.front more g.open_front
    ∙ (ap (λ f. f ∷ located_from (begun + length (g.front ++ 29 ∷ [])) more) ends ∙ ap (λ n. frame' ∷ located_from n more) behind))

-- what was ahead is one frame or none, and nothing is ahead now
Gives-by : (some : Bool) (frame : Located) (before after : List Located) → before ≡ cond some (frame ∷ []) [] → after ≡ []
    → Gives (Some before) (Some after) (cond some (Some frame) None)
Gives-by true frame before after e none = e ∙ ap (λ xs. frame ∷ xs) (sym none)
Gives-by false frame before after e none = (e, none)

-- the end of the source ends the last frame, if bytes of one were read
pub Gives-last : (initial now after : Option (List ℕ)) (begun at at' : ℕ) (frame : Located) (some : Bool)
    → Gathers initial now begun at frame → Gives now after None → some ≡ nat_lt 0 frame.size
    → Gives (located_ahead begun initial) (located_ahead at' after) (cond some (Some frame) None)
Gives-last None now after begun at at' frame some g gives is = tt
Gives-last (Some all) None after begun at at' frame some g gives is = absurd g.consumed
Gives-last (Some all) (Some rest) None begun at at' frame some g gives is = absurd gives
Gives-last (Some all) (Some rest) (Some more) begun at at' frame some g gives is =
    let one : all ≡ g.front = g.consumed ∙ (ap (λ xs. g.front ++ xs) gives.0 ∙ append-nil g.front) in
    let found : located_from begun all ≡ cond (nat_lt 0 (length (skip_breaks g.front))) (frame_at begun g.front ∷ []) [] =
    ap (located_from begun) one ∙ located_from-open begun g.front g.open_front in
    let sized : some ≡ nat_lt 0 (length (skip_breaks g.front)) = is ∙ ap (λ f. nat_lt 0 f.size) g.gathered in
    let none_left : located_from at' more ≡ [] = ap (located_from at') gives.1 in
    Gives-by some frame (located_from begun all) (located_from at' more) (found ∙ ap (λ t. cond t (frame_at begun g.front ∷ []) []) (sym sized) ∙ ap (λ f. cond some (f ∷ []) []) (sym g.gathered)) none_left

-- one frame, and then the one after `count` others
pub Finds-next : {T : Type 0} (count : ℕ) (before now after : Option (List T)) (first : T) (answer : Option T)
    → Gives before now (Some first) → Finds count now after answer → Finds (suc count) before after answer
Finds-next count None now after first answer gives finds = tt
Finds-next count (Some all) None after first answer gives finds = absurd gives
Finds-next count (Some all) (Some rest) None first answer gives finds = absurd finds
Finds-next count (Some all) (Some rest) (Some more) first answer gives finds =
    (ap (λ xs. slice_get xs (suc count)) gives ∙ finds.0, finds.1 ∙ sym (ap (λ xs. drop (suc (suc count)) xs) gives))

-- the next frame is the one after none
pub Finds-first : {T : Type 0} (before after : Option (List T)) (answer : Option T) → Gives before after answer → Finds 0 before after answer
Finds-first None after answer gives = tt
Finds-first (Some all) None answer gives = absurd gives
Finds-first (Some all) (Some rest) None gives =
    (ap (λ xs. slice_get xs 0) gives.0, gives.1 ∙ sym (ap (λ xs. drop 1 xs) gives.0))
Finds-first (Some all) (Some rest) (Some first) gives = (ap (λ xs. slice_get xs 0) gives, sym (ap (λ xs. drop 1 xs) gives))

-- where nothing is ahead, nothing comes after any count
pub Finds-none : {T : Type 0} (count : ℕ) (before after : Option (List T)) → Gives before after None → Finds count before after None
Finds-none count None after gives = tt
Finds-none count (Some all) None gives = absurd gives
Finds-none count (Some all) (Some rest) gives =
    (ap (λ xs. slice_get xs count) gives.0, gives.1 ∙ sym (ap (λ xs. drop (suc count) xs) gives.0))
