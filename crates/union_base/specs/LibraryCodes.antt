-- Which texts are library codes, and how one lies in its sixteen bytes.
use Rattle.std.specs.Prelude.{◌≡◌, ℕ, ◌-◌, ◌≤◌, Bool, ◌&&◌, ◌||◌, nat_le, IsTrue, List, length, take, drop, ◌++◌, replicate}
use Rattle.std.specs.Char.{is_ascii_digit, is_ascii_uppercase}
use Rattle.std.specs.List.{list_all}
use Rattle.std.proofs.Common.{sym, arith, length-append, length-drop, refl}
use Rattle.std.proofs.lemmas.Bool.Decides.{nat_tests}
use Rattle.std.proofs.lemmas.List.{drop-replicate, length-take, length-replicate}
use Rattle.std.proofs.Math.Seq.{take-append_seam}

-- the longest code
abbrev pub longest_code : ℕ
longest_code = 16

-- a byte that may stand in a code
abbrev pub may_stand : ℕ → Bool
may_stand b = is_ascii_uppercase b || is_ascii_digit b

-- one to sixteen capitals and digits
abbrev pub is_library_code : List ℕ → Bool
is_library_code text = (nat_le 1 (length text) && nat_le (length text) longest_code) && list_all may_stand text

-- the first `size` bytes are a code, and zeros follow up to the sixteenth
pub record IsPadded (buffer : List ℕ) (size : ℕ) : Type 0 where
  pub code : IsTrue (is_library_code (take size buffer))
  pub whole : length buffer ≡ longest_code
  pub zeros : buffer ≡ take size buffer ++ replicate (longest_code - size) 0
  pub within : size ≤ longest_code

-- a code is no longer than its sixteen bytes
pub longest-is_library_code : (text : List ℕ) → IsTrue (is_library_code text) → length text ≤ longest_code
longest-is_library_code text code = grind (arith, nat_tests, code)

-- as many bytes are filled as are counted
pub padded_size : (buffer : List ℕ) (size : ℕ) → IsPadded buffer size → length (take size buffer) ≡ size
padded_size buffer size padded = omega (arith, length-take {A = ℕ}, padded.whole, padded.within)

-- a code and the zeros after it give the sixteen bytes back
pub padded_buffer : (buffer : List ℕ) (size : ℕ) → IsPadded buffer size
    → take size buffer ++ replicate (longest_code - length (take size buffer)) 0 ≡ buffer
padded_buffer buffer size padded = rw (padded_size buffer size padded) (sym padded.zeros)

-- a code written over the front of sixteen zeros
pub padded_code : (text : List ℕ) → IsTrue (is_library_code text)
    → IsPadded (text ++ drop (length text) (replicate longest_code 0)) (length text)
padded_code text code =
    let front : take (length text) (text ++ drop (length text) (replicate longest_code 0)) ≡ text = take-append_seam text _ in
    let short : length text ≤ longest_code = longest-is_library_code text code in
    record {
      code = rw front code;
      whole = simp (length-append, length-drop, length-replicate) (omega arith);
      zeros = rw (front, drop-replicate) refl;
      within = short;
    }
