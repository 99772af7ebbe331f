-- The table of letters is held against the definition at each of its characters.
use Rattle.std.proofs.Common.{◌≡◌, ℕ, zero, suc, ◌+◌, ◌<◌, ◌&&◌, ◌||◌, Bool, true, false, cond, eqb, nat_lt, ltb-true, lit<, eq-eqb, zero-add, List, [], ◌∷◌, ◌++◌, flat_map, length, get_or, refl, sym, ap, subst, ◌∙◌, append-nil, arith, not-suc-le-zero, le_of_suc-le-suc, bytes_eq}
use Rattle.std.proofs.lemmas.Bool.{and_parts, and_from, ne_eqb}
use Rattle.std.proofs.lemmas.Grind.{flat_map-append}
use Rattle.std.specs.List.{list_all}
use Rattle.std.specs.Cmp.Lexicographic.{bytes_decides}
use Rattle.ucd_table.proofs.Stepped.{Stepped}
use Rattle.ucd_table.proofs.Facts.{tree_value, tree_of, tree_value-tree_of}
use Rattle.ucd_table.proofs.Computing.{tables}
use Rattle.ucd_category.specs.declared.GeneralCategory.{GeneralCategory}
use Rattle.ucd_category.specs.declared.GeneralCategory.TheVariants.{NonspacingMark, EnclosingMark, ModifierLetter}
use Rattle.ucd_category.specs.GeneralCategory.{general_category, general_category_eq}
use Rattle.ucd_category.proofs.GeneralCategoryLemmas.{general_category_stepped}
use Rattle.ucd_case.specs.CaseFolding.{full_folding}
use Rattle.ucd_case.proofs.CaseFoldingLemmas.{full_folding_stepped}
use Rattle.ucd_normal.specs.CanonicalCombiningClass.{canonical_combining_class as ccc}
use Rattle.ucd_normal.specs.Decomposition.{or_itself, compatibility_decomposition}
use Rattle.ucd_normal.proofs.CanonicalCombiningClassLemmas.{canonical_combining_class_stepped}
use Rattle.ucd_normal.proofs.DecompositionLemmas.{compatibility_decomposition_stepped}
use Rattle.unicode_normalization.specs.Decompose.{decompose}
use Rattle.unicode_normalization.specs.Hangul.{is_syllable, decompose_hangul}
use Rattle.naco_normal.specs.declared.table.TheConstants.{LETTERS}
use Rattle.naco_normal.specs.Normal.{plain_letters, letters}
use Rattle.naco_normal.proofs.CharacterLaw.{is_calm, left_by, is_separate, letters_in_turn, letters_of_one}

-- the tables of Unicode as functions, which a test may read by a tree
pub record Tables : Type 0 where
  pub class : ℕ → ℕ
  pub decomposed : ℕ → List ℕ
  pub folding : ℕ → List ℕ
  pub category : ℕ → GeneralCategory

by_rows : Tables
by_rows = record { class = ccc; decomposed = compatibility_decomposition; folding = full_folding; category = general_category }

abbrev by_tree : {V : Type 0} (f : ℕ → V) → Stepped f → ℕ → V
by_tree f s = tree_value s.default (tree_of f s)

by_trees : Tables
unfolding tables canonical_combining_class_stepped compatibility_decomposition_stepped full_folding_stepped general_category_stepped
by_trees =
    record {
      class = by_tree ccc canonical_combining_class_stepped;
      decomposed = by_tree compatibility_decomposition compatibility_decomposition_stepped;
      folding = by_tree full_folding full_folding_stepped;
      category = by_tree general_category general_category_stepped;
    }

same_tables : by_rows ≡ by_trees
unfolding by_rows by_trees
same_tables =
    λ i. record {
      class = tree_value-tree_of ccc canonical_combining_class_stepped i;
      decomposed = tree_value-tree_of compatibility_decomposition compatibility_decomposition_stepped i;
      folding = tree_value-tree_of full_folding full_folding_stepped i;
      category = tree_value-tree_of general_category general_category_stepped i;
    }

-- ---- what a character leaves, by tables

module _ (t : Tables) where
  abbrev decomposition_by : ℕ → List ℕ
  decomposition_by c = cond (is_syllable c) (decompose_hangul c) (or_itself c (t.decomposed c))

  abbrev fold_by : ℕ → List ℕ
  fold_by c = or_itself c (t.folding c)

  abbrev dropped_by : ℕ → Bool
  dropped_by c =
      general_category_eq (t.category c) NonspacingMark
      || general_category_eq (t.category c) EnclosingMark
      || general_category_eq (t.category c) ModifierLetter
      || eqb c 0x27
      || eqb c 0x5B
      || eqb c 0x5D

  abbrev last_by : ℕ → List ℕ
  last_by c = cond (dropped_by c) [] (plain_letters c)

  abbrev then_by : ℕ → List ℕ
  then_by c = flat_map last_by (flat_map decomposition_by (fold_by c))

  abbrev leaves_by : ℕ → List ℕ
  leaves_by c = flat_map then_by (decomposition_by c)

  abbrev separate_by : ℕ → Bool
  separate_by c =
      list_all (λ d. is_calm t.class then_by d && list_all (is_calm t.class last_by) (flat_map decomposition_by (fold_by d))) (decomposition_by c)

-- an entry of the table: 1 where several letters are left, 0 where none is, and else the letter
abbrev entry_agrees : Tables → ℕ → ℕ → Bool
entry_agrees t c e = separate_by t c && (eqb e 1 || bytes_eq (leaves_by t c) (cond (eqb e 0) [] (e ∷ [])))

abbrev entries_agree : Tables → ℕ → List ℕ → Bool
entries_agree t c [] = true
entries_agree t c (e ∷ es) = entry_agrees t c e && entries_agree t (c + 1) es

all_agree : entries_agree by_trees 0 LETTERS ≡ true
unfolding by_trees decompose_hangul
all_agree = refl

agree_by_rows : entries_agree by_rows 0 LETTERS ≡ true
agree_by_rows = ap (λ t. entries_agree t 0 LETTERS) same_tables ∙ all_agree

entry_at : (t : Tables) (es : List ℕ) (c i : ℕ) → entries_agree t c es ≡ true → i < length es → entry_agrees t (c + i) (get_or es i 0) ≡ true
entry_at t [] c i h within = absurd (not-suc-le-zero within)
entry_at t (e ∷ es) c zero h within =
    let here : c ≡ c + zero = omega arith in subst (λ x. entry_agrees t x e ≡ true) here (and_parts (entry_agrees t c e) (entries_agree t (c + 1) es) h).0
entry_at t (e ∷ es) c (suc i) h within =
    let here : (c + 1) + i ≡ c + suc i = omega arith in
    subst (λ x. entry_agrees t x (get_or es i 0) ≡ true) here
    (entry_at t es (c + 1) i (and_parts (entry_agrees t c e) (entries_agree t (c + 1) es) h).1 (le_of_suc-le-suc within))

separate_is : (c : ℕ) → separate_by by_rows c ≡ is_separate c
unfolding by_rows decompose
separate_is c = refl

leaves_is : (c : ℕ) → leaves_by by_rows c ≡ left_by c
unfolding by_rows decompose
leaves_is c = refl

-- a character of the table
pub record Tabled (c : ℕ) : Type 0 where
  pub separate : is_separate c ≡ true
  pub one : eqb (get_or LETTERS c 0) 1 ≡ false → letters (c ∷ []) ≡ cond (eqb (get_or LETTERS c 0) 0) [] (get_or LETTERS c 0 ∷ [])

other_holds : (a b : Bool) → (a || b) ≡ true → a ≡ false → b ≡ true
other_holds true b h e = cc
other_holds false b h e = h

pub tabled : (c : ℕ) → c < 0x500 → Tabled c
tabled c h =
    let e = get_or LETTERS c 0 in
    let parts = and_parts (separate_by by_rows c) (eqb e 1 || bytes_eq (leaves_by by_rows c) (cond (eqb e 0) [] (e ∷ []))) (subst (λ x. entry_agrees by_rows x (get_or LETTERS c 0) ≡ true) (zero-add c) (entry_at by_rows LETTERS 0 c agree_by_rows h)) in
    let separate = sym (separate_is c) ∙ parts.0 in
    record {
      separate = separate;
      one = λ single. letters_of_one c separate ∙ sym (leaves_is c) ∙ (bytes_decides (leaves_by by_rows c) (cond (eqb e 0) [] (e ∷ []))).0 (other_holds _ _ parts.1 single);
    }

all_separate : (cs : List ℕ) → list_all (λ c. nat_lt c 0x500) cs ≡ true → list_all is_separate cs ≡ true
all_separate [] h = refl
all_separate (c ∷ cs) h = let parts = and_parts (nat_lt c 0x500) (list_all (λ c. nat_lt c 0x500) cs) h in and_from _ _ (tabled c (ltb-true c 0x500 parts.0)).separate (all_separate cs parts.1)

one_by_one : (cs : List ℕ) → list_all (λ c. nat_lt c 0x500) cs ≡ true → flat_map left_by cs ≡ flat_map (λ c. letters (c ∷ [])) cs
one_by_one [] h = refl
one_by_one (c ∷ cs) h =
    let parts = and_parts (nat_lt c 0x500) (list_all (λ c. nat_lt c 0x500) cs) h in
    ap (λ l. l ++ flat_map left_by cs) (sym (letters_of_one c (tabled c (ltb-true c 0x500 parts.0)).separate)) ∙ ap (λ l. letters (c ∷ []) ++ l) (one_by_one cs parts.1)

-- the letters of a text that the table has are those of its characters
pub letters_by_one : (cs : List ℕ) → list_all (λ c. nat_lt c 0x500) cs ≡ true → letters cs ≡ flat_map (λ c. letters (c ∷ [])) cs
letters_by_one cs h = letters_in_turn cs (all_separate cs h) ∙ one_by_one cs h

-- ---- the characters that leave two letters

letters_of : (c : ℕ) → c < 0x500 → (ls : List ℕ) → bytes_eq (leaves_by by_trees c) ls ≡ true → letters (c ∷ []) ≡ ls
letters_of c h ls e =
    letters_of_one c (tabled c h).separate ∙ sym (leaves_is c) ∙ ap (λ t. leaves_by t c) same_tables ∙ (bytes_decides (leaves_by by_trees c) ls).0 e

pub letters_sharp_s : letters (0xDF ∷ []) ≡ 0x73 ∷ 0x73 ∷ []
unfolding by_trees decompose_hangul
letters_sharp_s = letters_of 0xDF (lit< tt) _ refl

pub letters_capital_ae : letters (0xC6 ∷ []) ≡ 0x61 ∷ 0x65 ∷ []
unfolding by_trees decompose_hangul
letters_capital_ae = letters_of 0xC6 (lit< tt) _ refl

pub letters_ae : letters (0xE6 ∷ []) ≡ 0x61 ∷ 0x65 ∷ []
unfolding by_trees decompose_hangul
letters_ae = letters_of 0xE6 (lit< tt) _ refl

pub letters_capital_oe : letters (0x152 ∷ []) ≡ 0x6F ∷ 0x65 ∷ []
unfolding by_trees decompose_hangul
letters_capital_oe = letters_of 0x152 (lit< tt) _ refl

pub letters_oe : letters (0x153 ∷ []) ≡ 0x6F ∷ 0x65 ∷ []
unfolding by_trees decompose_hangul
letters_oe = letters_of 0x153 (lit< tt) _ refl

pub letters_capital_thorn : letters (0xDE ∷ []) ≡ 0x74 ∷ 0x68 ∷ []
unfolding by_trees decompose_hangul
letters_capital_thorn = letters_of 0xDE (lit< tt) _ refl

pub letters_thorn : letters (0xFE ∷ []) ≡ 0x74 ∷ 0x68 ∷ []
unfolding by_trees decompose_hangul
letters_thorn = letters_of 0xFE (lit< tt) _ refl

-- the character is put after those that were read
pub read_more : (cs : List ℕ) (c : ℕ) → flat_map (λ c. letters (c ∷ [])) (cs ++ c ∷ []) ≡ flat_map (λ c. letters (c ∷ [])) cs ++ letters (c ∷ [])
read_more cs c = flat_map-append (λ c. letters (c ∷ [])) cs (c ∷ []) ∙ ap (λ l. flat_map (λ c. letters (c ∷ [])) cs ++ l) (append-nil (letters (c ∷ [])))

-- a character whose entry is a letter leaves that letter
pub leaves_letter : (c : ℕ) → c < 0x500 → (get_or LETTERS c 0 ≡ 1 → ⊥) → (get_or LETTERS c 0 ≡ 0 → ⊥) → letters (c ∷ []) ≡ get_or LETTERS c 0 ∷ []
leaves_letter c h one none =
    let e = get_or LETTERS c 0 in
    (tabled c h).one (ne_eqb e 1 one) ∙ ap (λ b. cond b [] (e ∷ [])) (ne_eqb e 0 none)

-- a character whose entry is the mark of deletion leaves none
pub leaves_none : (c : ℕ) → c < 0x500 → (get_or LETTERS c 0 ≡ 1 → ⊥) → get_or LETTERS c 0 ≡ 0 → letters (c ∷ []) ≡ []
leaves_none c h one none =
    let e = get_or LETTERS c 0 in
    (tabled c h).one (ne_eqb e 1 one) ∙ ap (λ b. cond b [] (e ∷ [])) (eq-eqb e 0 none)
