use Rattle.std.proofs.Common.{◌≡◌, ℕ, ◌+◌, List, ◌++◌, length, take, drop, append_assoc, ap, subst, ◌∙◌, arith}
use Rattle.std.proofs.Math.Seq.{take-append_seam, drop-append_seam, drop-append-add}
use Rattle.match_features.proofs.description_key.DescriptionKey.of.Goals as goal

-- a text of three, cut after the first and four bytes later, is the three, where the second has four bytes
parted : (a b c : List ℕ) → length b ≡ 4
    → ◌≡◌ {A = List ℕ × List ℕ × List ℕ} (take (length a) (a ++ (b ++ c)), take 4 (drop (length a) (a ++ (b ++ c))), drop (length a + 4) (a ++ (b ++ c))) (a, b, c)
parted a b c four =
    let second : take 4 (b ++ c) ≡ b = subst (λ n. take n (b ++ c) ≡ b) four (take-append_seam b c) in
    let third : drop 4 (b ++ c) ≡ c = subst (λ n. drop n (b ++ c) ≡ c) four (drop-append_seam b c) in
    λ i. (take-append_seam a (b ++ c) i, (ap (take 4) (drop-append_seam a (b ++ c)) ∙ second) i, (drop-append-add a (b ++ c) 4 ∙ third) i)

pub returns : goal.returns
returns c = rw (c.in_ok-joined.ensures, append_assoc) (parted c.args.title.now c.args.date.now c.args.name.now (omega arith))
