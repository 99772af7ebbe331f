-- What is read from the parts of a frame.
use Rattle.std.proofs.Common.{◌≡◌, ℕ, ◌+◌, ◌*◌, ◌≤◌, Bool, true, false, ◌&&◌, List, [], ◌∷◌, ◌++◌, length, take, drop, refl, sym, ◌∙◌, ap, subst, arith, Ok, Err}
use Rattle.std.proofs.Math.Seq.{take-append_seam, drop-append_seam}
use Rattle.std.proofs.lemmas.Bool.{and_parts, and_from, eqb-true}
use Rattle.std.proofs.lemmas.Bool.Decides.{nat_tests}
use Rattle.std.proofs.lemmas.List.{length-take}
use Rattle.std.specs.Char.{is_ascii_alphanumeric}
use Rattle.std.specs.List.{list_all}
use Rattle.std.specs.Prelude.{◌==◌, if◌then◌else◌}
use Rattle.marc_leader.specs.Entry.{entry_of, tag_place, size_place, start_place, is_tag as marc_is_tag}
use Rattle.marc_leader.specs.Codes.{Codes, are_printable}
use Rattle.marc_leader.specs.Leader.{leader_of}
use Rattle.marc_leader.specs.declared.leader.Leader.{Leader}
use Rattle.marc_leader.proofs.LeaderLaws.{leader_of-text}
use Rattle.marc_leader.specs.Numeral.{are_digits, number_of}
use Rattle.marc_leader.specs.declared.entry.EntryRule.TheVariants.{Digits, Tag}
use Rattle.marc_leader.specs.declared.entry.Entry.{Entry}
use Rattle.marc_leader.proofs.EntryLaws.{entry_of-entry_text}
use Rattle.union_base.specs.Fields.{is_tag, is_tag_byte}
use Rattle.marc_fields.specs.Spelling.{entry_bytes, leader_bytes, longest_frame}
use Rattle.marc_fields.proofs.SpellingLaws.{length-leader_bytes}

-- the frame is a leader with its length, `entries` entries and these codes, and then the rest
pub record IsHead (frame : List ℕ) (codes : Codes) (entries : ℕ) (rest : List ℕ) : Type 0 where
  pub short : length frame ≤ longest_frame
  pub base : 25 + 12 * entries ≤ longest_frame
  pub printable : are_printable codes ≡ true
  pub parts : frame ≡ leader_bytes (length frame) entries codes ++ rest

-- a byte of a tag is a letter or a digit
tag_byte : (b : ℕ) → is_tag_byte b ≡ true → is_ascii_alphanumeric b ≡ true
tag_byte b is = grind (arith, nat_tests)

tag_bytes : (tag : List ℕ) → list_all is_tag_byte tag ≡ true → list_all is_ascii_alphanumeric tag ≡ true
tag_bytes [] is = refl
tag_bytes (b ∷ tag) is =
    let parts = and_parts (is_tag_byte b) (list_all is_tag_byte tag) is in
    and_from _ _ (tag_byte b parts.0) (tag_bytes tag parts.1)

-- an entry is read from its bytes
pub entry_of-entry_bytes : (e : Entry) → is_tag e.tag ≡ true → e.length ≤ 9999 → e.start ≤ 99999 → entry_of (entry_bytes e) ≡ Ok e
unfolding entry_bytes
entry_of-entry_bytes e tag short near =
    let parts = and_parts (length e.tag == 3) (list_all is_tag_byte e.tag) tag in
    entry_of-entry_text e (eqb-true _ _ parts.0) (tag_bytes e.tag parts.1) (omega arith) (omega arith)

-- two texts before two others, of one length
pub fronts_same : (a b x y : List ℕ) → length a ≡ length b → a ++ x ≡ b ++ y → a ≡ b
fronts_same a b x y size same =
    sym (take-append_seam a x) ∙ (ap (take (length a)) same ∙ (ap (λ n. take n (b ++ y)) size ∙ take-append_seam b y))

pub rests_same : (a b x y : List ℕ) → length a ≡ length b → a ++ x ≡ b ++ y → x ≡ y
rests_same a b x y size same =
    sym (drop-append_seam a x) ∙ (ap (drop (length a)) same ∙ (ap (λ n. drop n (b ++ y)) size ∙ drop-append_seam b y))

-- the byte of a tag that the directory has
alphanumeric_byte : (b : ℕ) → is_ascii_alphanumeric b ≡ true → is_tag_byte b ≡ true
alphanumeric_byte b is = grind (arith, nat_tests)

alphanumeric_bytes : (tag : List ℕ) → list_all is_ascii_alphanumeric tag ≡ true → list_all is_tag_byte tag ≡ true
alphanumeric_bytes [] is = refl
alphanumeric_bytes (b ∷ tag) is =
    let parts = and_parts (is_ascii_alphanumeric b) (list_all is_ascii_alphanumeric tag) is in
    and_from _ _ (alphanumeric_byte b parts.0) (alphanumeric_bytes tag parts.1)

-- the tag that was read has three bytes
tag_read : (d t : Bool) (text : List ℕ) (e : Entry) → length text ≡ 12
    → (if d then (if t then Ok (record { tag = tag_place text; length = number_of (size_place text); start = number_of (start_place text) }) else Err Tag) else Err Digits) ≡ Ok e
    → length e.tag ≡ 3
tag_read true true text e size is =
    let one : Entry = record { tag = tag_place text; length = number_of (size_place text); start = number_of (start_place text) } in
    let same : one ≡ e = cc in
    subst (λ (x : Entry). length x.tag ≡ 3) same (omega (arith, length-take 3 text))
tag_read true false text e size is = cc
tag_read false t text e size is = cc

-- the tag of an entry that was read is one
pub is_tag-read : (text : List ℕ) (e : Entry) → length text ≡ 12 → entry_of text ≡ Ok e → list_all is_ascii_alphanumeric e.tag ≡ true → is_tag e.tag ≡ true
is_tag-read text e size is letters =
    let three : length e.tag ≡ 3 = tag_read (are_digits (size_place text) && are_digits (start_place text)) (marc_is_tag (tag_place text)) text e size is in
    and_from _ _ (rw three refl) (alphanumeric_bytes e.tag letters)

-- the leader of a head is read
pub leader_of-head : (frame : List ℕ) (codes : Codes) (entries : ℕ) (rest : List ℕ) → IsHead frame codes entries rest
    → leader_of (take 24 frame) ≡ Ok (record { length = length frame; base = 25 + 12 * entries; codes = codes })
unfolding leader_bytes
leader_of-head frame codes entries rest head =
    let front : take 24 frame ≡ leader_bytes (length frame) entries codes
    = ap (take 24) head.parts ∙ take-append_seam (leader_bytes (length frame) entries codes) rest in
    ap leader_of front ∙ leader_of-text (length frame) (25 + 12 * entries) codes head.printable (omega (arith, head.short)) (omega (arith, head.base))

-- a frame has one head
pub head-one : (frame : List ℕ) (codes codes' : Codes) (entries entries' : ℕ) (rest rest' : List ℕ) → IsHead frame codes entries rest
    → IsHead frame codes' entries' rest' → (codes ≡ codes') × (entries ≡ entries') × (rest ≡ rest')
head-one frame codes codes' entries entries' rest rest' one other =
    let Say : ℕ → Codes → Leader = λ b c. record { length = length frame; base = b; codes = c } in
    let both : Ok (Say (25 + 12 * entries) codes) ≡ Ok (Say (25 + 12 * entries') codes')
    = sym (leader_of-head frame codes entries rest one) ∙ leader_of-head frame codes' entries' rest' other in
    let same : Say (25 + 12 * entries) codes ≡ Say (25 + 12 * entries') codes' = cc in
    let base = ap (λ (l : Leader). l.base) same in
    let count : entries ≡ entries' = omega (arith, base) in (
      ap (λ (l : Leader). l.codes) same,
      count,
      rests_same (leader_bytes (length frame) entries codes) (leader_bytes (length frame) entries' codes') rest rest'
          (length-leader_bytes (length frame) entries codes ∙ sym (length-leader_bytes (length frame) entries' codes')) (sym one.parts ∙ other.parts),
    )
