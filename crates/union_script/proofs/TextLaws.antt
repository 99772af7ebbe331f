-- Lines of a script one after the other: their texts, the files that they load, and whether something is refused.
use Rattle.std.proofs.Common.{◌≡◌, ℕ, ◌+◌, Bool, true, false, not, cond, List, [], ◌∷◌, ◌++◌, length, take, refl, sym, ap, subst, ◌∙◌, arith, append_assoc, append-nil, length-append}
use Rattle.std.specs.Prelude.{Option, ◌||◌, map, filter}
use Rattle.std.specs.List.{find}
use Rattle.std.specs.Option.{option_or}
use Rattle.std.proofs.Math.Seq.{take-append-add}
use Rattle.std.specs.Io.KnownBytes.{Appends}
use Rattle.std.proofs.KnownBytes.{Appends-nil, Appends-trans}
use Rattle.std.proofs.lemmas.List.{map-append}
use Rattle.std.proofs.lemmas.List.Concat.{flat_map-append}
use Rattle.std.proofs.lemmas.List.Elements.{filter-append}
use Rattle.std.proofs.lemmas.List.Folds.{find-append, list_any-append}
use Rattle.catalogue_editions.specs.declared.history_entry.HistoryEntry.{HistoryEntry}
use Rattle.union_io.specs.Writing.{AppendsFront}
use Rattle.union_words.specs.Lines.{is_skipped}
use Rattle.union_words.specs.ScriptLines.{ScriptLine, script_line}
use Rattle.union_script.specs.Inputs.{loaded_by, files_loaded}
use Rattle.union_files.specs.Limits.{is_overfull, AreWithin, Contents}
use Rattle.union_script.specs.Lines.{HasRun}
use Rattle.union_script.specs.Texts.{asked_by, told_line, tells_after, told_from, told_after, Writes, ScriptText, is_refused, has_refusals}

-- what lines ask for, one part after the other
pub asked_behind : (lines others : List (List ℕ)) → asked_by (lines ++ others) ≡ asked_by lines ++ asked_by others
asked_behind lines others =
    ap (map script_line) (filter-append (λ line. not (is_skipped line)) lines others)
    ∙ map-append script_line (filter (λ line. not (is_skipped line)) lines) (filter (λ line. not (is_skipped line)) others)

-- a line that is skipped asks for nothing, and any other for what its words say
asked_one_by : (line : List ℕ) (skipped : Bool) → is_skipped line ≡ skipped → asked_by (line ∷ []) ≡ cond skipped [] (script_line line ∷ [])
asked_one_by line true is = ap (λ skipped. map script_line (cond (not skipped) (line ∷ []) [])) is
asked_one_by line false is = ap (λ skipped. map script_line (cond (not skipped) (line ∷ []) [])) is

pub asked_skipped : (line : List ℕ) → is_skipped line ≡ true → asked_by (line ∷ []) ≡ []
asked_skipped line is = asked_one_by line true is

pub asked_line : (line : List ℕ) → is_skipped line ≡ false → asked_by (line ∷ []) ≡ script_line line ∷ []
asked_line line is = asked_one_by line false is

-- what two parts ask for, where turns are told before them or not
pub told_behind : (told : Bool) (lines others : List ScriptLine)
    → told_from told (lines ++ others) ≡ told_from told lines ++ told_from (told_after told lines) others
told_behind told [] others = refl
told_behind told (line ∷ lines) others = ap (λ rest. told_line told line ∷ rest) (told_behind (tells_after told line) lines others)

-- the texts of two parts
pub text_behind : (contents : Contents) (first others : List ScriptLine) (history between now : List HistoryEntry) (one two : List ℕ)
    → ScriptText contents first history one between → ScriptText contents others between two now
    → ScriptText contents (first ++ others) history (one ++ two) now
text_behind contents [] others history between now one two p q =
    subst (λ text. ScriptText contents others history (text ++ two) now) (sym p.0) (subst (λ h. ScriptText contents others h two now) p.1 q)
text_behind contents (line ∷ first) others history between now one two p q =
    (p.0, p.1 ++ two, p.2, p.3, text_behind contents first others p.2 between now p.1 two p.4 q, ap (λ text. text ++ two) p.5 ∙ append_assoc p.0 p.1 two)

-- the text of one line
pub text_of_one : (contents : Contents) (line : ScriptLine) (history now : List HistoryEntry) (text : List ℕ) → Writes contents line history text now
    → ScriptText contents (line ∷ []) history text now
text_of_one contents line history now text writes = (text, [], now, writes, (refl, refl), sym (append-nil text))

-- the files of two parts
pub files_behind : (first others : List ScriptLine) → files_loaded (first ++ others) ≡ files_loaded first ++ files_loaded others
files_behind first others = flat_map-append loaded_by first others

pub within_behind : (contents : Contents) (first others : List ScriptLine) → AreWithin contents (files_loaded first)
    → AreWithin contents (files_loaded others) → AreWithin contents (files_loaded (first ++ others))
within_behind contents first others one two =
    ap (find (is_overfull contents)) (files_behind first others)
    ∙ find-append (is_overfull contents) (files_loaded first) (files_loaded others)
    ∙ ap (λ found. option_or found (find (is_overfull contents) (files_loaded others))) one ∙ two

pub refusals_behind : (contents : Contents) (first others : List ScriptLine) (one two : Bool) → one ≡ has_refusals contents first
    → two ≡ has_refusals contents others → (one || two) ≡ has_refusals contents (first ++ others)
refusals_behind contents first others one two p q =
    ap (λ b. b || two) p ∙ ap (λ b. has_refusals contents first || b) q ∙ sym (list_any-append (is_refused contents) first others)

pub run_none : (contents : Contents) (history : List HistoryEntry) (written : Option (List ℕ)) → HasRun contents [] history history false written written
run_none contents history written = record {
  within = refl;
  refused = refl;
  text = [];
  writes = (refl, refl);
  written = Appends-nil written;
}

pub run_behind : (contents : Contents) (first others : List ScriptLine) (history between now : List HistoryEntry) (one two : Bool)
    (old mid new : Option (List ℕ)) → HasRun contents first history between one old mid → HasRun contents others between now two mid new
    → HasRun contents (first ++ others) history now (one || two) old new
run_behind contents first others history between now one two old mid new p q = record {
  within = within_behind contents first others p.within q.within;
  refused = refusals_behind contents first others one two p.refused q.refused;
  text = p.text ++ q.text;
  writes = text_behind contents first others history between now p.text q.text p.writes q.writes;
  written = Appends-trans old mid new p.text q.text p.written q.written;
}

-- a text, and a prefix of the next
pub front_behind : (old middle new : Option (List ℕ)) (a b : List ℕ) → Appends old middle a → AppendsFront middle new b → AppendsFront old new (a ++ b)
front_behind old middle new a b p q = (
  length a + q.0,
  omega (arith, length-append a b, q.1),
  subst (λ text. Appends old new text) (sym (take-append-add a b q.0)) (Appends-trans old middle new a (take q.0 b) p q.2),
)

pub front_none : (written : Option (List ℕ)) (text : List ℕ) → AppendsFront written written text
front_none written text = (0, omega arith, Appends-nil written)
