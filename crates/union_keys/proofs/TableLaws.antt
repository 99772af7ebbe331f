-- Rows of the records that are left, and of the groups that are left.
use Rattle.std.proofs.Common.{◌≡◌, ℕ, suc, ◌+◌, ◌-◌, ◌/◌, ◌<◌, ◌≤◌, List, [], ◌++◌, length, take, drop, refl, sym, ap, ◌∙◌, subst, arith, append_assoc, length-drop}
use Rattle.std.specs.Prelude.{Some, slice_get}
use Rattle.std.specs.List.{flat_map}
use Rattle.std.specs.Option.{option_to_list}
use Rattle.std.specs.Int.{w64, from_le_bytes}
use Rattle.std.proofs.lemmas.List.{append-nil, drop_all, take_all, length-take-le}
use Rattle.union_words.proofs.StopLaws.{drop-get}
use Rattle.union_keys.specs.Tables.{key_rows, keys_from}
use Rattle.union_keys.specs.GroupTables.{word_in, groups_by, groups_in, AddsGroup, AddsGroups}
use Rattle.union_keys.specs.declared.standing.Standing.{Standing}

-- the rows of the record at a place, and then of those after it
pub keys-next : (all : List Standing) (place : ℕ) (s : Standing) (before now target : List ℕ) → slice_get all place ≡ Some s
    → now ≡ before ++ flat_map (key_rows place) (option_to_list s.edition) → before ++ keys_from place (drop place all) ≡ target
    → now ++ keys_from (place + 1) (drop (place + 1) all) ≡ target
keys-next all place s before now target here added is =
    let later = keys_from (place + 1) (drop (place + 1) all) in
    let own = flat_map (key_rows place) (option_to_list s.edition) in
    ap (λ text. text ++ later) added
    ∙ (append_assoc before own later
    ∙ (sym (ap (λ rest. before ++ keys_from place rest) (drop-get all place s here)) ∙ is))

-- no rows come after those of the last record
pub keys-last : (all : List Standing) (place : ℕ) (text target : List ℕ) → length all ≤ place
    → text ++ keys_from place (drop place all) ≡ target → text ≡ target
keys-last all place text target end is =
    sym (append-nil text) ∙ (sym (ap (λ rest. text ++ keys_from place rest) (drop_all place all end)) ∙ is)

eighths : (n : ℕ) → 8 ≤ n → n / 8 ≡ suc ((n - 8) / 8)
eighths n fits = omega (arith, fits)

-- a word before the others
groups-first : (all : List Standing) (rest behind : List ℕ) (members : List Standing) → 8 ≤ length rest → behind ≡ drop 8 rest
    → groups_in all (length rest / 8) rest members ≡ groups_by all (word_in rest) members (groups_in all (length behind / 8) behind)
groups-first all rest behind members fits is =
    let one : length rest / 8 ≡ suc (length (drop 8 rest) / 8) =
    eighths (length rest) fits ∙ sym (ap (λ n. suc (n / 8)) (length-drop 8 rest))
    in
    ap (λ count. groups_in all count rest members) one
    ∙ sym (ap (λ those. groups_by all (word_in rest) members (groups_in all (length those / 8) those)) is)

-- and what comes of it and of the others
pub word-first : (all : List Standing) (rest behind : List ℕ) (members : List Standing) (number : ℕ) (text after : List ℕ)
    → 8 ≤ length rest → behind ≡ drop 8 rest
    → AddsGroups number (groups_by all (word_in rest) members (groups_in all (length behind / 8) behind)) text after
    → AddsGroups number (groups_in all (length rest / 8) rest members) text after
word-first all rest behind members number text after fits is later =
    subst (λ groups. AddsGroups number groups text after) (sym (groups-first all rest behind members fits is)) later

-- it is in the first eight bytes
pub word-front : (rest bytes : List ℕ) → 8 ≤ length rest → bytes ≡ take 8 rest → word_in bytes ≡ word_in rest
word-front rest bytes fits is =
    let eight : length (take 8 rest) ≡ 8 = length-take-le 8 rest fits in
    ap word_in is ∙ ap (from_le_bytes w64) (take_all 8 (take 8 rest) (omega (arith, eight)))

-- a 0 ends the group that is begun
pub group-ended : (all members none : List Standing) (later : List Standing → List (List Standing)) (number next word : ℕ) (text now after : List ℕ)
    → word ≡ 0 → AddsGroup number members text now → next ≡ number + 1 → none ≡ [] → AddsGroups next (later none) now after
    → AddsGroups number (groups_by all word members later) text after
group-ended all members none later number next word text now after zero_is added follows empty rest =
    subst (λ w. AddsGroups number (groups_by all w members later) text after) (sym zero_is)
    (now, added, subst (λ n. AddsGroups n (later []) now after) follows (subst (λ those. AddsGroups next (later those) now after) empty rest))

-- any other word may add a record
pub member-added : (all members more : List Standing) (later : List Standing → List (List Standing)) (number word n : ℕ) (text after : List ℕ)
    → word ≡ suc n → more ≡ members ++ option_to_list (slice_get all n) → AddsGroups number (later more) text after
    → AddsGroups number (groups_by all word members later) text after
member-added all members more later number word n text after named added rest =
    subst (λ w. AddsGroups number (groups_by all w members later) text after) (sym named)
    (subst (λ those. AddsGroups number (later those) text after) added rest)

-- fewer than eight bytes name nothing
pub groups-last : (all : List Standing) (rest : List ℕ) (members : List Standing) (number : ℕ) (text : List ℕ) → length rest < 8
    → AddsGroups number (groups_in all (length rest / 8) rest members) text text
groups-last all rest members number text few =
    let none : length rest / 8 ≡ 0 = omega (arith, few) in
    subst (λ count. AddsGroups number (groups_in all count rest members) text text) (sym none) refl
