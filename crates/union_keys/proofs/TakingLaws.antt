-- What is taken of frames, one after the other.
use Rattle.std.proofs.Common.{◌≡◌, ℕ, suc, ◌+◌, List, [], ◌∷◌, ◌++◌, length, drop, ap, ◌∙◌, subst, sym, arith}
use Rattle.std.specs.Prelude.{Option, Some, None}
use Rattle.iso2709_frame.specs.Frames.{first_piece}
use Rattle.marc_fields.specs.Spelling.{Spells}
use Rattle.marc_parts.specs.declared.marc_record.Record.{Record}
use Rattle.marc_fields.specs.declared.rules.Failure.{Failure}
use Rattle.union_keys.specs.Placed.{Placed, placed_piece, placed_from}
use Rattle.union_keys.specs.Readings.{Read, Takes, TakesAll, refused_line, with_refused, with_standing}
use Rattle.union_keys.specs.Standings.{standing_of, refused_of}
use Rattle.union_keys.specs.declared.standing.Standing.{Standing}
use Rattle.union_keys.proofs.PlacedLaws.{placed_from-next}

-- some frames, and then more
pub TakesAll-append : (library : List ℕ) (number next : ℕ) (one two : List Placed) (a b c : Read) → next ≡ number + length one
    → TakesAll library number one a b → TakesAll library next two b c → TakesAll library number (one ++ two) a c
TakesAll-append library number next [] two a b c n t u =
    let same : next ≡ number = omega (arith, n) in
    subst (λ m. TakesAll library m two a c) same (subst (λ r. TakesAll library next two r c) t u)
TakesAll-append library number next (frame ∷ one) two a b c n (between, takes, later) u =
    let more : next ≡ suc number + length one = omega (arith, n) in
    (between, takes, TakesAll-append library (suc number) next one two between b c more later u)

-- the first piece of a text, and then what comes after it
pub taken-next : (library : List ℕ) (number next first first' : ℕ) (rest piece behind : List ℕ) (a b c : Read) → piece ≡ first_piece rest
    → behind ≡ drop (length (first_piece rest)) rest → first' ≡ first + length piece
    → next ≡ number + length (placed_piece first piece) → TakesAll library number (placed_piece first piece) a b
    → TakesAll library next (placed_from first' behind) b c → TakesAll library number (placed_from first rest) a c
taken-next library number next first first' rest piece behind a b c p h f n t u =
    let size = length (first_piece rest) in
    let moved : first' ≡ first + size = f ∙ ap (λ x. first + length x) p in
    let later : TakesAll library next (placed_from (first + size) (drop size rest)) b c =
    subst (λ at. TakesAll library next (placed_from at (drop size rest)) b c) moved
    (subst (λ x. TakesAll library next (placed_from first' x) b c) h u)
    in
    subst (λ ps. TakesAll library number ps a c) (sym (placed_from-next first rest))
    (TakesAll-append library number next (placed_piece first (first_piece rest)) (placed_from (first + size) (drop size rest)) a b c
    (n ∙ ap (λ x. number + length (placed_piece first x)) p)
    (subst (λ x. TakesAll library number (placed_piece first x) a b) p t) later)

-- the record of a frame that breaks no rule
pub taken-record : (library : List ℕ) (number : ℕ) (frame : Placed) (failure : Option Failure) (r : Record) (s : Standing) (a b : Read)
    → failure ≡ None → Spells frame.bytes r → s ≡ standing_of a.prefer library number frame.first frame.size r
    → b ≡ with_standing a s → Takes library number frame failure a b
taken-record library number frame failure r s a b none spells is more =
    subst (λ f. Takes library number frame f a b) (sym none) (r, spells, more ∙ ap (with_standing a) is)

-- a frame that breaks a rule
pub taken-refused : (library : List ℕ) (number : ℕ) (frame : Placed) (failure : Option Failure) (f : Failure) (a b : Read) → failure ≡ Some f
    → b ≡ with_refused a (refused_of library number frame.first frame.text f) (refused_line library number f)
    → Takes library number frame failure a b
taken-refused library number frame failure f a b some more = subst (λ x. Takes library number frame x a b) (sym some) more
