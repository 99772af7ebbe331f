-- A leader is read from the bytes that spell it, and what is read spells the bytes.
use Rattle.std.proofs.Common.{◌≡◌, ℕ, ◌+◌, ◌/◌, ◌%◌, ◌^◌, ◌<◌, true, List, [], ◌∷◌, ◌++◌, length, get_or, None, Ok, refl, sym, ◌∙◌, ap, arith, lit<}
use Rattle.std.proofs.lemmas.Bool.{and_parts, and_from, eqb-true}
use Rattle.std.proofs.lemmas.Bool.Decides.{nat_tests}
use Rattle.marc_leader.specs.Codes.{Codes, is_printable, are_printable}
use Rattle.marc_leader.specs.Leader.{leader_text, leader_of, may_stand, misfit, length_place, base_place, codes_of, counted}
use Rattle.marc_leader.specs.Numeral.{are_digits, number_of, numeral}
use Rattle.marc_leader.specs.declared.leader.Leader.{Leader}
use Rattle.marc_leader.proofs.Numerals.{number_of-numeral, are_digits-numeral, numeral-number_of}
use Rattle.marc_leader.proofs.Places.{reads, drop-reads, stands_from, misfit-AllStand}

-- the leader whose values stand at the places of the text
abbrev pub leader_at : List ℕ → Leader
leader_at text = record { length = number_of (length_place text); base = number_of (base_place text); codes = codes_of text }

-- what is read where no rule is broken
pub leader_of-kept : (text : List ℕ) → are_digits (length_place text) ≡ true → are_digits (base_place text) ≡ true
    → misfit text ≡ None → leader_of text ≡ Ok (leader_at text)
leader_of-kept text d e m = rw (d, e) (ap (λ o. counted o text) m)

-- the last digit of a number is printable
pub digit_prints : (n : ℕ) → is_printable (48 + n % 10) ≡ true
digit_prints n = grind (arith, nat_tests)

-- the bytes that spell a leader have no misfit where the codes are printable
pub misfit-leader_text : (n b : ℕ) (c : Codes) → are_printable c ≡ true
    → misfit (leader_text (record { length = n; base = b; codes = c })) ≡ None
misfit-leader_text n b c h =
    let p1 = and_parts _ _ h in
    let p2 = and_parts _ _ p1.1 in
    let p3 = and_parts _ _ p2.1 in
    let p4 = and_parts _ _ p3.1 in
    let p5 = and_parts _ _ p4.1 in
    let p6 = and_parts _ _ p5.1 in
    let p7 = and_parts _ _ p6.1 in
    let p8 = and_parts _ _ p7.1 in
    misfit-AllStand 0 (leader_text (record { length = n; base = b; codes = c })) (
      digit_prints (n / 10 / 10 / 10 / 10),
      (
        digit_prints (n / 10 / 10 / 10),
        (
          digit_prints (n / 10 / 10),
          (
            digit_prints (n / 10),
            (
              digit_prints n,
              (
                p1.0,
                (
                  p2.0,
                  (
                    p3.0,
                    (
                      p4.0,
                      (
                        p5.0,
                        (
                          refl,
                          (
                            refl,
                            (
                              digit_prints (b / 10 / 10 / 10 / 10),
                              (
                                digit_prints (b / 10 / 10 / 10),
                                (
                                  digit_prints (b / 10 / 10),
                                  (
                                    digit_prints (b / 10),
                                    (
                                      digit_prints b,
                                      (p6.0, (p7.0, (p8.0, (refl, (refl, (refl, (p8.1, tt))))))),
                                    ),
                                  ),
                                ),
                              ),
                            ),
                          ),
                        ),
                      ),
                    ),
                  ),
                ),
              ),
            ),
          ),
        ),
      ),
    )

-- a leader is read from the bytes that spell it
pub leader_of-text : (n b : ℕ) (c : Codes) → are_printable c ≡ true → n < 10 ^ 5 → b < 10 ^ 5
    → leader_of (leader_text (record { length = n; base = b; codes = c })) ≡ Ok (record { length = n; base = b; codes = c })
leader_of-text n b c h long far =
    let leader : Leader = record { length = n; base = b; codes = c } in
    leader_of-kept (leader_text leader) (are_digits-numeral 5 n) (are_digits-numeral 5 b) (misfit-leader_text n b c h)
    ∙ (ap (λ m. let it : Leader = record { length = m; base = number_of (numeral 5 b); codes = c } in Ok it) (number_of-numeral 5 n long)
    ∙ ap (λ m. let it : Leader = record { length = n; base = m; codes = c } in Ok it) (number_of-numeral 5 b far))

-- the bytes of a leader are spelled by the values that stand at their places
pub leader_text-at : (text : List ℕ) → length text ≡ 24 → are_digits (length_place text) ≡ true → are_digits (base_place text) ≡ true
    → misfit text ≡ None → text ≡ leader_text (leader_at text)
leader_text-at text h d e m =
    let all : text ≡ reads 24 0 text = drop-reads 24 0 text h in
    let length_is : length_place text ≡ reads 5 0 text = ap length_place all in
    let base_is : base_place text ≡ reads 5 12 text = ap base_place all in
    let size : numeral 5 (number_of (length_place text)) ≡ reads 5 0 text = numeral-number_of 5 (length_place text) d (ap length length_is) ∙ length_is in
    let base : numeral 5 (number_of (base_place text)) ≡ reads 5 12 text = numeral-number_of 5 (base_place text) e (ap length base_is) ∙ base_is in
    let stands : (i : ℕ) → i < 24 → may_stand (0 + i) (get_or text i 0) ≡ true = λ i lt. let below : i < length text = omega arith in stands_from text 0 i m below in
    let f10 : get_or text 10 0 ≡ 50 = eqb-true _ _ (stands 10 (lit< tt)) in
    let f11 : get_or text 11 0 ≡ 50 = eqb-true _ _ (stands 11 (lit< tt)) in
    let f20 : get_or text 20 0 ≡ 52 = eqb-true _ _ (stands 20 (lit< tt)) in
    let f21 : get_or text 21 0 ≡ 53 = eqb-true _ _ (stands 21 (lit< tt)) in
    let f22 : get_or text 22 0 ≡ 48 = eqb-true _ _ (stands 22 (lit< tt)) in
    let with_length : List ℕ → List ℕ = λ digits. digits ++ (reads 5 5 text ++ 50 ∷ 50 ∷ []) ++ numeral 5 (number_of (base_place text)) ++ (reads 3 17 text ++ 52 ∷ 53 ∷ 48 ∷ get_or text 23 0 ∷ []) in
    let with_base : List ℕ → List ℕ = λ digits. reads 5 0 text ++ (reads 5 5 text ++ 50 ∷ 50 ∷ []) ++ digits ++ (reads 3 17 text ++ 52 ∷ 53 ∷ 48 ∷ get_or text 23 0 ∷ []) in
    all ∙ (rw (f10, f11, f20, f21, f22) refl ∙ sym (ap with_length size ∙ ap with_base base))

-- the leader of the numbers read and of the codes that stand there is the one that stands there
pub leader_at-is : (text : List ℕ) (n b : ℕ) → n ≡ number_of (length_place text) → b ≡ number_of (base_place text)
    → leader_at text ≡ record { length = n; base = b; codes = codes_of text }
leader_at-is text n b e f = rw (e, f) refl

-- the codes of 24 bytes without a misfit are printable
pub printable-at : (text : List ℕ) → length text ≡ 24 → misfit text ≡ None → are_printable (codes_of text) ≡ true
printable-at text h m =
    let stands : (i : ℕ) → i < 24 → may_stand (0 + i) (get_or text i 0) ≡ true = λ i lt. let below : i < length text = omega arith in stands_from text 0 i m below in
    and_from _ _ (stands 5 (lit< tt)) (and_from _ _ (stands 6 (lit< tt)) (and_from _ _ (stands 7 (lit< tt)) (and_from _ _ (stands 8 (lit< tt))
    (and_from _ _ (stands 9 (lit< tt)) (and_from _ _ (stands 17 (lit< tt)) (and_from _ _ (stands 18 (lit< tt)) (and_from _ _ (stands 19 (lit< tt)) (stands 23 (lit< tt)))))))))
