use Rattle.std.proofs.Common.{◌≡◌, ◌≤◌, length, drop, chars, encode_utf8_all}
use Rattle.std.specs.Str.Iter.{chars_rest}
use Rattle.naco_normal.proofs.heading.behind.Given as goal

abbrev pub invariant-loop-passed : goal.invariant-loop-passed
invariant-loop-passed l = (encode_utf8_all (drop l._passed (chars l.text)) ≡ chars_rest l.rest) × (l._passed ≤ length (chars l.text))
