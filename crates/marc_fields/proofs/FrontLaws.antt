-- What reading a leader shows.
use Rattle.std.proofs.Common.{◌≡◌, ℕ, Bool, true, false, ◌&&◌, List, length, refl, sym, ◌∙◌, ap, arith, Option, None, Some, Ok, Err}
use Rattle.std.proofs.lemmas.Bool.Decides.{nat_tests}
use Rattle.std.specs.Prelude.{if◌then◌else◌, ◌==◌}
use Rattle.marc_leader.specs.Codes.{Codes}
use Rattle.marc_leader.specs.Leader.{leader_of, counted, misfit, length_place, base_place, codes_of}
use Rattle.marc_leader.specs.Numeral.{are_digits, number_of}
use Rattle.marc_leader.specs.declared.leader.Leader.{Leader}
use Rattle.marc_leader.specs.declared.leader.LeaderRule.TheVariants.{LengthDigits, BaseDigits}
use Rattle.marc_fields.specs.Fronts.{IsCounted, IsFront}
use Rattle.marc_fields.specs.Rules.{base_in, has_base, leader_failure, leader_counts}
use Rattle.marc_fields.specs.declared.rules.Rule.TheVariants.{LengthDigits as LengthDigitsRule, LengthDiffers, BaseAddress}

-- a value that is there only where a test holds
pub none_if : (test : Bool) (x : ℕ) → None ≡ (if test then Some x else None) → test ≡ false
none_if true x is = cc
none_if false x is = refl

pub some_if : (test : Bool) (x y : ℕ) → Some y ≡ (if test then Some x else None) → (test ≡ true) × (y ≡ x)
some_if true x y is = (refl, let same : y ≡ x = cc in same)
some_if false x y is = cc

-- a leader whose numbers are digits is refused for a misfit alone
pub leader_of-counted : (text : List ℕ) → are_digits (length_place text) ≡ true → are_digits (base_place text) ≡ true
    → leader_of text ≡ counted (misfit text) text
leader_of-counted text d e = rw (d, e) refl

pub not_length_digits : (o : Option ℕ) (text : List ℕ) → Err LengthDigits ≡ counted o text → ⊥
not_length_digits None text is = cc
not_length_digits (Some at) text is = cc

pub not_base_digits : (o : Option ℕ) (text : List ℕ) → Err BaseDigits ≡ counted o text → ⊥
not_base_digits None text is = cc
not_base_digits (Some at) text is = cc

-- two numbers that differ
differ : (m n : ℕ) → (m ≡ n → ⊥) → (m == n) ≡ false
differ m n h = grind (arith, nat_tests)

alike : (m n : ℕ) → m ≡ n → (m == n) ≡ true
alike m n h = grind (arith, nat_tests)

-- the rules on a leader, one after the other
pub leader_failure-digits : (leader frame : List ℕ) → are_digits (length_place leader) ≡ false
    → leader_failure leader frame ≡ Some (record { rule = LengthDigitsRule; place = 0 })
unfolding leader_failure
leader_failure-digits leader frame d = rw d refl

pub leader_failure-differs : (leader frame : List ℕ) (size : ℕ) → are_digits (length_place leader) ≡ true → size ≡ number_of (length_place leader)
    → (size ≡ length frame → ⊥) → leader_failure leader frame ≡ Some (record { rule = LengthDiffers; place = 0 })
unfolding leader_failure
leader_failure-differs leader frame size d is other =
    let test : (number_of (length_place leader) == length frame) ≡ false = differ _ _ (λ same. other (is ∙ same)) in
    rw (d, test) refl

pub leader_failure-base : (leader frame : List ℕ) (size : ℕ) → are_digits (length_place leader) ≡ true → size ≡ number_of (length_place leader)
    → size ≡ length frame → has_base leader frame ≡ false → leader_failure leader frame ≡ Some (record { rule = BaseAddress; place = 0 })
unfolding leader_failure
leader_failure-base leader frame size d is same based =
    let test : (number_of (length_place leader) == length frame) ≡ true = alike _ _ (sym is ∙ same) in
    rw (d, test, based) refl

pub leader_failure-counts : (leader frame : List ℕ) (size : ℕ) → are_digits (length_place leader) ≡ true → size ≡ number_of (length_place leader)
    → size ≡ length frame → has_base leader frame ≡ true → leader_failure leader frame ≡ leader_counts leader
unfolding leader_failure
leader_failure-counts leader frame size d is same based =
    let test : (number_of (length_place leader) == length frame) ≡ true = alike _ _ (sym is ∙ same) in
    rw (d, test, based) refl

-- the leader that was read has the numbers that were read
pub leader_of-numbers : (o : Option ℕ) (text : List ℕ) (l : Leader) → counted o text ≡ Ok l
    → l ≡ record { length = number_of (length_place text); base = number_of (base_place text); codes = l.codes }
leader_of-numbers None text l is =
    let one : Leader = record { length = number_of (length_place text); base = number_of (base_place text); codes = codes_of text } in
    let same : one ≡ l = cc in
    let Say : Codes → Leader = λ c. record { length = number_of (length_place text); base = number_of (base_place text); codes = c } in
    sym same ∙ ap (λ (k : Leader). Say k.codes) same
leader_of-numbers (Some at) text l is = cc

pub front-read : (leader frame : List ℕ) (size base : ℕ) (codes : Codes) → are_digits (length_place leader) ≡ true → are_digits (base_place leader) ≡ true
    → size ≡ number_of (length_place leader) → size ≡ length frame → has_base leader frame ≡ true → base ≡ base_in leader
    → IsCounted leader codes → IsFront leader frame codes base
front-read leader frame size base codes d e is same based base_is counts =
    let l = counts.leader in
    let numbers = leader_of-numbers (misfit leader) leader l (sym (leader_of-counted leader d e) ∙ counts.read) in
    let Say : ℕ → ℕ → Codes → Leader = λ n b c. record { length = n; base = b; codes = c } in
    record {
      read = counts.read ∙ ap Ok (numbers ∙ (ap (λ n. Say n (number_of (base_place leader)) l.codes) (sym is ∙ same)
          ∙ (ap (λ b. Say (length frame) b l.codes) (sym base_is) ∙ ap (λ c. Say (length frame) base c) (sym counts.codes_are))));
      based = based;
      base_is = base_is;
    }

-- a value that is there only where two tests hold
pub none_of_both : (one other : Bool) (x : ℕ) → other ≡ false → None ≡ (if one && other then Some x else None)
none_of_both true true x bad = cc
none_of_both true false x bad = refl
none_of_both false other x bad = refl
