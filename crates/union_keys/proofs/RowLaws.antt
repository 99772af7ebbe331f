-- How wide rows are.
use Rattle.std.proofs.Common.{◌≡◌, ℕ, List, ◌++◌, ◌∷◌, length, drop, refl, arith, length-append, length-drop}
use Rattle.std.specs.Prelude.{IsTrue, replicate}
use Rattle.std.proofs.lemmas.List.{length-take-le, length-replicate}
use Rattle.md5.specs.Md5.{md5}
use Rattle.md5.proofs.StandardFacts.{length-md5}
use Rattle.match_features.specs.declared.keys.FeatureKey.{FeatureKey}
use Rattle.union_base.specs.LibraryCodes.{is_library_code, longest-is_library_code}
use Rattle.union_keys.specs.Lines.{key_text}
use Rattle.union_keys.specs.Tables.{word, key_number, key_row, id_number, code_cell, loads, record_row}
use Rattle.union_keys.specs.declared.standing.Standing.{Standing}

width-word : (n : ℕ) → length (word n) ≡ 8
width-word n = refl

width-number : (key : FeatureKey) → length (key_number key) ≡ 8
width-number key =
    let digest : length (md5 (key_text key)) ≡ 16 = length-md5 (key_text key) in
    length-take-le 8 (md5 (key_text key)) (omega (arith, digest))

-- the number of a key, that of its owner, and its mark
pub width-key : (number mark : ℕ) (key : FeatureKey) → length (key_row number mark key) ≡ 24
unfolding key_row
width-key number mark key =
    let all = length-append (key_number key) (word number ++ word mark) in
    let rest = length-append (word number) (word mark) in
    omega (arith, all, rest, width-number key, width-word number, width-word mark)

width-code : (code : List ℕ) → IsTrue (is_library_code code) → length (code_cell code) ≡ 16
width-code code is =
    let zeros : List ℕ = replicate 16 0 in
    let short = longest-is_library_code code is in
    let sixteen : length zeros ≡ 16 = length-replicate {A = ℕ} 16 0 in
    omega (arith, short, length-append code (drop (length code) zeros), length-drop (length code) zeros, sixteen)

-- a library, an id, an offset, a length, and whether it loads
pub width-record : (s : Standing) → IsTrue (is_library_code s.id.library) → length (record_row s) ≡ 56
unfolding record_row
width-record s is =
    let offset = word s.first in
    let size = word s.size in
    let last = word (loads s.edition) in
    let digest : length (id_number s.id) ≡ 16 = length-md5 (s.id.library ++ (0x2E ∷ s.id.control)) in
    let all = length-append (code_cell s.id.library) (id_number s.id ++ (offset ++ (size ++ last))) in
    let ids = length-append (id_number s.id) (offset ++ (size ++ last)) in
    let offsets = length-append offset (size ++ last) in
    let sizes = length-append size last in
    omega (arith, all, ids, offsets, sizes, width-code s.id.library is, digest, width-word s.first, width-word s.size, width-word (loads s.edition))
