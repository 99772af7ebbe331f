use Rattle.std.proofs.Common.{◌≡◌, ◌^◌, ◌<◌, drop, true}
use Rattle.marc_leader.specs.Numeral.{are_digits, number_after, number_of}
use Rattle.marc_leader.proofs.numeral.number_of.Given as goal

-- what was read is the number, and the rest are digits
abbrev pub invariant-loop-byte : goal.invariant-loop-byte
invariant-loop-byte l = record {
  digits : are_digits (drop l.byte-index l.text) ≡ true;
  number : number_of l.text ≡ number_after l.number (drop l.byte-index l.text);
  bound : l.number < 10 ^ l.byte-index;
}
