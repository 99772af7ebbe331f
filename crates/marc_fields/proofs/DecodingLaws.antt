-- A frame that breaks no rule spells the record that is read from it.
use Rattle.std.proofs.Common.{◌≡◌, ℕ, zero, suc, ◌+◌, ◌-◌, ◌*◌, ◌/◌, ◌%◌, ◌<◌, ◌≤◌, Bool, true, false, not, ◌&&◌, List, [], ◌∷◌, ◌++◌, length, get_or, take, drop, refl, sym, ◌∙◌, ap, subst, arith, length-drop, drop-drop, Option, None, Some, Result, Ok, Err}
use Rattle.std.proofs.Math.Seq.{drop-cons}
use Rattle.std.proofs.lemmas.Bool.{and_parts, eqb-true}
use Rattle.std.proofs.lemmas.Bool.Decides.{nat_tests}
use Rattle.std.proofs.lemmas.List.{length-take, take-append-drop, drop-append-le, drop-take, length-map}
use Rattle.std.specs.List.{flat_map}
use Rattle.std.specs.Prelude.{◌==◌, nat_le, if◌then◌else◌}
use Rattle.marc_leader.specs.Codes.{Codes}
use Rattle.marc_leader.specs.Leader.{leader_of, leader_text, counted, misfit, length_place, base_place}
use Rattle.marc_leader.specs.Numeral.{are_digits}
use Rattle.marc_leader.specs.declared.entry.Entry.{Entry}
use Rattle.marc_leader.specs.declared.leader.Leader.{Leader}
use Rattle.marc_leader.specs.declared.leader.LeaderRule.TheVariants.{LengthDigits, BaseDigits}
use Rattle.marc_leader.proofs.LeaderLaws.{leader_at, leader_of-kept, leader_text-at}
use Rattle.marc_fields.specs.Directories.{AreRead, AreDecoded}
use Rattle.marc_fields.specs.Fronts.{IsFront}
use Rattle.marc_fields.specs.Rules.{base_in, base_of, leader_of_frame, is_base, entry_in, entry_texts, texts_of, data_in, parts_failure}
use Rattle.marc_fields.specs.Shapes.{ends_no_record}
use Rattle.marc_fields.proofs.FieldReading.{all_drop}
use Rattle.union_base.specs.declared.field.Field.{Field}
use Rattle.marc_fields.specs.Spelling.{leader_bytes, entry_bytes, Spells}
use Rattle.marc_fields.proofs.SpellingLaws.{leader_of-printable}
use Rattle.marc_fields.proofs.TilingLaws.{tiled-once}
use Rattle.marc_fields.proofs.RowLaws.{ends-parts}
use Rattle.marc_fields.specs.declared.decoding.DecodeRefusal.{DecodeRefusal}
use Rattle.marc_fields.specs.declared.decoding.DecodeRefusal.TheVariants.{Rule as RuleRefusal, Memory}
use Rattle.marc_fields.specs.declared.rules.Failure.{Failure}
use Rattle.marc_fields.specs.Rows.{Answers, IsRefusal, or_then, ends_in_only}

-- the first failure is the failure
pub refusal-first : (refusal : DecodeRefusal) (first later : Option Failure) → IsRefusal refusal first → IsRefusal refusal (or_then first later)
refusal-first (RuleRefusal rule place) first later is = rw is refl
refusal-first Memory first later is = tt

-- a refusal that is made of a failure names it
pub refusal-of : (refusal : DecodeRefusal) (found : Failure) (failure : Option Failure) → refusal ≡ RuleRefusal found.rule found.place → failure ≡ Some found
    → IsRefusal refusal failure
refusal-of refusal found failure is first = subst (λ r. IsRefusal r failure) (sym is) first

-- where nothing fails at first, the later failure is the failure
pub Answers-later : {T : Type 0} (result : Result T DecodeRefusal) (first later : Option Failure) (P Q : T → Type 0) → first ≡ None
    → ((value : T) → P value → Q value) → Answers result later P → Answers result (or_then first later) Q
Answers-later (Ok value) first later P Q none more answers = (ap (λ f. or_then f later) none ∙ answers.0, more value answers.1)
Answers-later (Err refusal) first later P Q none more answers = subst (λ f. IsRefusal refusal f) (sym (ap (λ f. or_then f later) none)) answers

-- what a base address has
pub record HasBase (frame : List ℕ) (base : ℕ) : Type 0 where
  pub low : 25 ≤ base
  pub high : base + 1 ≤ length frame
  pub twelve : (base - 25) % 12 ≡ 0
  pub ends : get_or frame (base - 1) 0 ≡ 0x1E

at_most : (m n : ℕ) → nat_le m n ≡ true → m ≤ n
at_most m n h = grind (arith, nat_tests)

pub base-facts : (frame : List ℕ) (base : ℕ) → is_base base frame ≡ true → HasBase frame base
base-facts frame base is =
    let both = and_parts (nat_le 25 base && nat_le base (length frame - 1)) (((base - 25) % 12 == 0) && (get_or frame (base - 1) 0 == 0x1E)) is in
    let range = and_parts (nat_le 25 base) (nat_le base (length frame - 1)) both.0 in
    let rest = and_parts ((base - 25) % 12 == 0) (get_or frame (base - 1) 0 == 0x1E) both.1 in
    let low = at_most 25 base range.0 in
    let high = at_most base (length frame - 1) range.1 in
    record {
      low = low;
      high = omega arith;
      twelve = eqb-true _ _ rest.0;
      ends = eqb-true _ _ rest.1;
    }

pub front-base : (leader frame : List ℕ) (codes : Codes) (base : ℕ) → IsFront leader frame codes base → HasBase frame base
front-base leader frame codes base front =
    base-facts frame base (ap (λ n. is_base n frame) front.base_is
    ∙ (and_parts (are_digits (base_place leader)) (is_base (base_in leader) frame) front.based).1)

-- a directory of whole entries
pub directory-size : (frame : List ℕ) (base : ℕ) → HasBase frame base → length (take (base - 25) (drop 24 frame)) ≡ 12 * ((base - 25) / 12)
directory-size frame base has =
    omega (arith, length-take (base - 25) (drop 24 frame), length-drop 24 frame, has.low, has.high, has.twelve)

-- as many texts as were asked for
pub length-entry_texts : (n : ℕ) (directory : List ℕ) → length (entry_texts n directory) ≡ n
length-entry_texts zero directory = refl
length-entry_texts (suc n) directory = ap suc (length-entry_texts n (drop 12 directory))

pub length-read : (directory : List ℕ) (count : ℕ) (entries : List Entry) → AreRead directory count entries → length entries ≡ count
length-read directory count entries read =
    ap length read.are ∙ (length-map (entry_texts count directory) entry_in ∙ length-entry_texts count directory)

-- the data and the record terminator
pub data-parts : (frame : List ℕ) (base : ℕ) → HasBase frame base → ends_in_only 0x1D frame ≡ true
    → (drop base frame ≡ take (length frame - 1 - base) (drop base frame) ++ 0x1D ∷ [])
    × (ends_no_record (take (length frame - 1 - base) (drop base frame)) ≡ true)
data-parts frame base has ends =
    let ended = ends-parts 0x1D frame ends in
    let text = take (length frame - 1) frame in
    let size : length text ≡ length frame - 1 = omega (arith, length-take (length frame - 1) frame) in
    let inside : base ≤ length text = omega (arith, size, has.high) in
    let split : base + (length frame - 1 - base) ≡ length frame - 1 = omega (arith, has.high) in
    let bytes : drop base text ≡ take (length frame - 1 - base) (drop base frame)
    = ap (λ n. drop base (take n frame)) (sym split) ∙ drop-take base (length frame - 1 - base) frame in (
      ap (drop base) ended.parts ∙ (drop-append-le base text (0x1D ∷ []) inside ∙ ap (λ t. t ++ 0x1D ∷ []) bytes),
      sym (ap ends_no_record bytes) ∙ all_drop (λ b. not (b == 0x1D)) base text ended.before,
    )

-- what is after the leader
pub behind-parts : (frame : List ℕ) (base : ℕ) → HasBase frame base → ends_in_only 0x1D frame ≡ true
    → drop 24 frame ≡ take (base - 25) (drop 24 frame) ++ (0x1E ∷ (take (length frame - 1 - base) (drop base frame) ++ 0x1D ∷ []))
behind-parts frame base has ends =
    let rest = drop 24 frame in
    let here : drop (base - 25) rest ≡ drop (base - 1) frame = drop-drop (base - 25) 24 frame ∙ ap (λ n. drop n frame) (omega (arith, has.low)) in
    let below : base - 1 < length frame = omega (arith, has.low, has.high) in
    let next : suc (base - 1) ≡ base = omega (arith, has.low) in
    let first : drop (base - 1) frame ≡ 0x1E ∷ drop base frame
    = drop-cons frame (base - 1) 0 below ∙ (ap (λ b. b ∷ drop (suc (base - 1)) frame) has.ends ∙ ap (λ n. 0x1E ∷ drop n frame) next) in
    sym (take-append-drop (base - 25) rest)
    ∙ ap (λ t. take (base - 25) rest ++ t) (here ∙ (first ∙ ap (λ t. 0x1E ∷ t) (data-parts frame base has ends).0))

-- the leader that was read is spelled by its bytes
pub leader_cases : (d e : Bool) (o : Option ℕ) (text : List ℕ) (l : Leader)
    → (if d then (if e then counted o text else Err BaseDigits) else Err LengthDigits) ≡ Ok l → (d ≡ true) × (e ≡ true) × (o ≡ None)
leader_cases true true None text l is = (refl, refl, refl)
leader_cases true true (Some at) text l is = cc
leader_cases true false o text l is = cc
leader_cases false e o text l is = cc

pub leader_text-read : (text : List ℕ) (l : Leader) → length text ≡ 24 → leader_of text ≡ Ok l → text ≡ leader_text l
leader_text-read text l size is =
    let parts = leader_cases (are_digits (length_place text)) (are_digits (base_place text)) (misfit text) text l is in
    let both : Ok (leader_at text) ≡ Ok l = sym (leader_of-kept text parts.0 parts.1 parts.2) ∙ is in
    let same : leader_at text ≡ l = cc in
    leader_text-at text size parts.0 parts.1 parts.2 ∙ ap leader_text same

-- the parts that were split off are those that the rules speak of
pub parts-same : (frame directory bytes : List ℕ) (base : ℕ) → base ≡ base_of frame → directory ≡ take (base - 25) (drop 24 frame)
    → bytes ≡ take (length frame - 1 - base) (drop base frame)
    → parts_failure (entry_texts ((base - 25) / 12) directory) bytes ≡ parts_failure (texts_of frame) (data_in frame)
parts-same frame directory bytes base is d b =
    ap (λ t. parts_failure (entry_texts ((base - 25) / 12) t) bytes) d
    ∙ (ap (λ t. parts_failure (entry_texts ((base - 25) / 12) (take (base - 25) (drop 24 frame))) t) b
    ∙ ap (λ n. parts_failure (entry_texts ((n - 25) / 12) (take (n - 25) (drop 24 frame))) (take (length frame - 1 - n) (drop n frame))) is)

-- the record that was decoded is spelled by the frame
pub decoded-Spells : (frame : List ℕ) (codes : Codes) (base : ℕ) (directory bytes : List ℕ) (fields : List Field)
    → IsFront (leader_of_frame frame) frame codes base → length frame ≤ 99999 → ends_in_only 0x1D frame ≡ true
    → directory ≡ take (base - 25) (drop 24 frame) → bytes ≡ take (length frame - 1 - base) (drop base frame)
    → AreDecoded directory bytes ((base - 25) / 12) fields → Spells frame (record { leader = codes; fields = fields })
unfolding leader_bytes
decoded-Spells frame codes base directory bytes fields front short ends d b decoded =
    let has = front-base (leader_of_frame frame) frame codes base front in
    let Say : ℕ → Leader = λ n. record { length = length frame; base = n; codes = codes } in
    let text = leader_of_frame frame in
    let size : length text ≡ 24 = omega (arith, length-take 24 frame, has.low, has.high) in
    let entries = decoded.entries in
    let count = length-read directory ((base - 25) / 12) entries decoded.read in
    let based : base ≡ 25 + 12 * length entries = omega (arith, count, has.low, has.twelve) in
    let leader : text ≡ leader_bytes (length frame) (length entries) codes
    = leader_text-read text (Say base) size front.read ∙ ap (λ n. leader_text (Say n)) based in
    let behind : drop 24 frame ≡ flat_map entry_bytes entries ++ (0x1E ∷ (bytes ++ 0x1D ∷ []))
    = behind-parts frame base has ends
    ∙ (ap (λ t. t ++ (0x1E ∷ (take (length frame - 1 - base) (drop base frame) ++ 0x1D ∷ []))) (sym d ∙ decoded.read.spelled)
    ∙ ap (λ t. flat_map entry_bytes entries ++ (0x1E ∷ (t ++ 0x1D ∷ []))) (sym b)) in
    record {
      entries = entries;
      bytes = bytes;
      parts = sym (take-append-drop 24 frame) ∙ (ap (λ t. t ++ drop 24 frame) leader ∙ ap (λ t. leader_bytes (length frame) (length entries) codes ++ t) behind);
      short = short;
      codes = leader_of-printable text (Say base) size front.read;
      fields = decoded.lie;
      partition = tiled-once bytes entries decoded.tiled;
    }
