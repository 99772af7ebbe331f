use Rattle.std.proofs.Common.{◌≡◌, ℕ, ◌++◌, ◌∷◌, [], List, OnOk, sym, ap, subst, ◌∙◌, inl, inr, ◌≤◌, ◌<◌, arith}
use Rattle.std.proofs.lemmas.Bool.{cases_lt}
use Rattle.naco_normal.specs.Normal.{letters}
use Rattle.naco_normal.proofs.TableLemmas.{letters_sharp_s, letters_capital_ae, letters_ae, letters_capital_oe, letters_oe, letters_capital_thorn, letters_thorn}
use Rattle.naco_normal.proofs.table.push_several.Goals as goal

-- the letters of a character that is known
at : (c k : ℕ) {ls : List ℕ} → c ≡ k → letters (k ∷ []) ≡ ls → ls ≡ letters (c ∷ [])
at c k same known = sym (ap (λ x. letters (x ∷ [])) same ∙ known)

at_oe : (c : ℕ) → 338 ≤ c → c < 340 → 0x6F ∷ 0x65 ∷ [] ≡ letters (c ∷ [])
at_oe c from below =
    elim (cases_lt c 339) [
      | inl less ↦ at c 338 (omega arith) letters_capital_oe
      | inr more ↦ at c 339 (omega arith) letters_oe
    ]

pub returns-in-223 : goal.returns-in-223
returns-in-223 c =
    subst (λ (ls : List ℕ). OnOk c.push_two.result (c.push_two.new.read.items ≡ c.args.read.now.items ++ ls)) (at c.args.c 223 c.in-223.is letters_sharp_s) c.push_two.ensures

pub returns-in-198 : goal.returns-in-198
returns-in-198 c =
    subst (λ (ls : List ℕ). OnOk c.push_two-in-198.result (c.push_two-in-198.new.read.items ≡ c.args.read.now.items ++ ls))
    (elim c.in-198.is [ inl capital ↦ at c.args.c 198 capital letters_capital_ae | inr small ↦ at c.args.c 230 small letters_ae ]) c.push_two-in-198.ensures

pub returns-in-338 : goal.returns-in-338
returns-in-338 c =
    let from : 338 ≤ c.args.c = omega arith in
    let below : c.args.c < 340 = omega arith in
    subst (λ (ls : List ℕ). OnOk c.push_two-in-338.result (c.push_two-in-338.new.read.items ≡ c.args.read.now.items ++ ls)) (at_oe c.args.c from below)
    c.push_two-in-338.ensures

pub returns-in-222 : goal.returns-in-222
returns-in-222 c =
    subst (λ (ls : List ℕ). OnOk c.push_two-in-222.result (c.push_two-in-222.new.read.items ≡ c.args.read.now.items ++ ls))
    (elim c.in-222.is [ inl capital ↦ at c.args.c 222 capital letters_capital_thorn | inr small ↦ at c.args.c 254 small letters_thorn ]) c.push_two-in-222.ensures
