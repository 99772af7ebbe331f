-- A text that is read past its first characters.
use Rattle.std.proofs.Common.{◌≡◌, ℕ, suc, ◌+◌, ◌<◌, ◌≤◌, true, cond, leb, List, ◌++◌, length, drop, encode_utf8, encode_utf8_all, IsUtf8, chars, sym, ap, ◌∙◌, arith, add-one, drop-cons, length-drop}
use Rattle.std.proofs.lemmas.Bool.Decides.{nat_tests}
use Rattle.std.proofs.lemmas.Str.{cons_from_encodes, length-le-encodes, chars_from_encodes}
use Rattle.naco_normal.specs.Heading.{skipped}

-- where one more character came, one more is dropped
pub skip_more : (cs bs rest : List ℕ) (i c : ℕ) → i ≤ length cs → encode_utf8_all (drop i cs) ≡ bs → bs ≡ encode_utf8 c ++ rest → (encode_utf8_all (drop (i + 1) cs) ≡ rest) × (i + 1 ≤ length cs)
skip_more cs bs rest i c h e f =
    let next = cons_from_encodes (drop i cs) rest c (e ∙ f) in
    let more : i < length cs = omega (arith, length-drop i cs, ap length next.1) in
    let same : next.0 ≡ drop (suc i) cs = cc (next.1, drop-cons cs i 0 more) in
    (rw add-one (ap encode_utf8_all (sym same) ∙ next.2), omega arith)

-- where none came, there are fewer characters than are to be skipped
pub skip_none : (cs bs : List ℕ) (i skip : ℕ) → encode_utf8_all (drop i cs) ≡ bs → length bs ≡ 0 → i < skip → cs ≡ skipped skip cs
skip_none cs bs i skip e none h =
    let few : length cs < skip = omega (arith, length-drop i cs, length-le-encodes (drop i cs), ap length e) in
    grind (arith, nat_tests)

-- where all to be skipped came, the rest is left
pub skip_all : (cs bs : List ℕ) (i skip : ℕ) → i ≤ length cs → encode_utf8_all (drop i cs) ≡ bs → IsUtf8 bs → i ≡ skip → chars bs ≡ skipped skip cs
skip_all cs bs i skip h e utf8 all =
    let left = chars_from_encodes (drop i cs) bs utf8 e in
    let enough : leb skip (length cs) ≡ true = grind (arith, nat_tests) in
    sym left ∙ ap (λ n. drop n cs) all ∙ sym (ap (λ b. cond b (drop skip cs) cs) enough)
