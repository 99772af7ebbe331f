-- The nine bytes of a leader that a record chooses itself.
use Rattle.std.specs.Prelude.{ℕ, Bool, ◌&&◌, nat_le}

-- the codes of a leader, in the order of their places: bytes 05, 06, 07, 08, 09, 17, 18, 19 and 23
pub record Codes : Type 0 where
  pub status : ℕ
  pub kind : ℕ
  pub level : ℕ
  pub control : ℕ
  pub coding : ℕ
  pub encoding : ℕ
  pub form : ℕ
  pub part : ℕ
  pub last : ℕ

-- the byte is an ASCII graphic or a blank
abbrev pub is_printable : ℕ → Bool
is_printable b = nat_le 32 b && nat_le b 126

-- each code is an ASCII graphic or a blank
abbrev pub are_printable : Codes → Bool
are_printable c =
    is_printable c.status && (is_printable c.kind && (is_printable c.level && (is_printable c.control && (is_printable c.coding
    && (is_printable c.encoding && (is_printable c.form && (is_printable c.part && is_printable c.last)))))))
