-- What checking a frame shows.
use Rattle.std.proofs.Common.{◌≡◌, ℕ, ◌-◌, ◌/◌, Bool, true, false, not, ◌||◌, List, [], ◌∷◌, length, take, drop, refl, sym, ◌∙◌, ap, subst, Option, Result, Ok, Err}
use Rattle.std.proofs.lemmas.Bool.{and_from, and_parts}
use Rattle.std.specs.List.{list_all, list_any}
use Rattle.std.specs.Prelude.{◌==◌}
use Rattle.iso2709_frame.specs.Frames.{IsWhole, is_terminator}
use Rattle.marc_leader.specs.declared.entry.Entry.{Entry}
use Rattle.marc_fields.specs.Rows.{Answers, IsRefusal, ends_in_only}
use Rattle.marc_fields.specs.declared.decoding.DecodeRefusal.{DecodeRefusal}
use Rattle.marc_fields.specs.declared.rules.Failure.{Failure}
use Rattle.marc_fields.specs.Rules.{IsFrame, base_of, entry_texts, texts_of, data_in}
use Rattle.marc_fields.proofs.RowLaws.{ends-from, ends-parts}
use Rattle.marc_rules.specs.Checked.{AreSound, AreSoundIn}
use Rattle.marc_rules.specs.NineteenRules.{record_failure}

-- bytes none of which ends a record
open_bytes : (t : List ℕ) → list_any is_terminator t ≡ false → list_all (λ b. not (b == 0x1D)) t ≡ true
open_bytes [] none = refl
open_bytes (b ∷ t) none =
    let both = or_parts (b == 0x1D) (list_any is_terminator t) none in
    and_from _ _ (ap not both.0) (open_bytes t both.1)
  where
    or_parts : (a b : Bool) → (a || b) ≡ false → (a ≡ false) × (b ≡ false)
    or_parts true b h = cc
    or_parts false b h = (refl, h)

-- a frame that was cut whole is one that may be decoded
pub whole-IsFrame : (frame : List ℕ) → IsWhole frame → IsFrame frame
whole-IsFrame frame whole = record {
  size = whole.size;
  ends = subst (λ t. ends_in_only 0x1D t ≡ true) (sym whole.ended) (ends-from 0x1D whole.front (open_bytes whole.front whole.open_front));
}

-- the parts that were split off are those that the rules speak of
pub record-same : (status coding : ℕ) (frame directory bytes : List ℕ) (base : ℕ) → base ≡ base_of frame → directory ≡ take (base - 25) (drop 24 frame)
    → bytes ≡ take (length frame - 1 - base) (drop base frame)
    → record_failure status coding (entry_texts ((base - 25) / 12) directory) bytes ≡ record_failure status coding (texts_of frame) (data_in frame)
record-same status coding frame directory bytes base is d b =
    ap (λ t. record_failure status coding (entry_texts ((base - 25) / 12) t) bytes) d
    ∙ (ap (λ t. record_failure status coding (entry_texts ((base - 25) / 12) (take (base - 25) (drop 24 frame))) t) b
    ∙ ap (λ n. record_failure status coding (entry_texts ((n - 25) / 12) (take (n - 25) (drop 24 frame))) (take (length frame - 1 - n) (drop n frame))) is)

closed_bytes : (t : List ℕ) → list_all (λ b. not (b == 0x1D)) t ≡ true → list_any is_terminator t ≡ false
closed_bytes [] all = refl
closed_bytes (b ∷ t) all =
    let both = and_parts (not (b == 0x1D)) (list_all (λ x. not (x == 0x1D)) t) all in
    rw (not_true (b == 0x1D) both.0, closed_bytes t both.1) refl
  where
    not_true : (test : Bool) → not test ≡ true → test ≡ false
    not_true true h = sym h
    not_true false h = refl

-- and one that may be decoded may have been cut whole
pub frame-IsWhole : (frame : List ℕ) → IsFrame frame → IsWhole frame
frame-IsWhole frame is =
    let ended = ends-parts 0x1D frame is.ends in
    record {
      size = is.size;
      front = take (length frame - 1) frame;
      open_front = closed_bytes (take (length frame - 1) frame) ended.before;
      ended = ended.parts;
    }

-- the entries are those of the frame, since the parts are
pub sound-in : (frame : List ℕ) (base : ℕ) (directory bytes : List ℕ) (entries : List Entry) → directory ≡ take (base - 25) (drop 24 frame)
    → bytes ≡ take (length frame - 1 - base) (drop base frame) → AreSound directory bytes ((base - 25) / 12) entries → AreSoundIn frame base entries
sound-in frame base directory bytes entries d b sound =
    let Of : List ℕ → List ℕ → Type 0 = λ t u. AreSound t u ((base - 25) / 12) entries in
    subst (Of (take (base - 25) (drop 24 frame))) b (subst (λ t. Of t bytes) d sound)

-- the same failure, and what follows of the value
pub Answers-of : {T : Type 0} (result : Result T DecodeRefusal) (failure other : Option Failure) (P Q : T → Type 0) → failure ≡ other
    → ((value : T) → P value → Q value) → Answers result failure P → Answers result other Q
Answers-of (Ok value) failure other P Q same more answers = (sym same ∙ answers.0, more value answers.1)
Answers-of (Err refusal) failure other P Q same more answers = subst (IsRefusal refusal) same answers

pub sound-parts : (frame : List ℕ) (base : ℕ) (directory bytes : List ℕ) (entries : List Entry) → directory ≡ take (base - 25) (drop 24 frame)
    → bytes ≡ take (length frame - 1 - base) (drop base frame) → AreSoundIn frame base entries → AreSound directory bytes ((base - 25) / 12) entries
sound-parts frame base directory bytes entries d b sound =
    let Of : List ℕ → List ℕ → Type 0 = λ t u. AreSound t u ((base - 25) / 12) entries in
    subst (Of directory) (sym b) (subst (λ t. Of t (take (length frame - 1 - base) (drop base frame))) (sym d) sound)
