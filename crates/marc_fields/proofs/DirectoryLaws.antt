-- What reading a directory shows.
use Rattle.std.proofs.Common.{◌≡◌, ℕ, zero, suc, ◌+◌, ◌-◌, ◌<◌, ◌≤◌, ◌*◌, Bool, true, false, List, [], ◌∷◌, ◌++◌, length, take, drop, map, refl, sym, ◌∙◌, ap, arith, append_assoc, add-one, None, Some, Ok, Err}
use Rattle.std.proofs.lemmas.Bool.{and_from}
use Rattle.std.proofs.lemmas.Bool.Decides.{nat_tests}
use Rattle.std.proofs.lemmas.Grind.{flat_map-append}
use Rattle.std.proofs.lemmas.List.{append-nil, take-append-drop}
use Rattle.std.proofs.lemmas.List.Folds.{list_all-append}
use Rattle.std.specs.List.{flat_map, list_all}
use Rattle.std.specs.Prelude.{if◌then◌else◌, nat_le}
use Rattle.marc_leader.specs.Entry.{entry_of}
use Rattle.marc_leader.specs.declared.entry.Entry.{Entry}
use Rattle.marc_leader.specs.declared.entry.EntryRule.TheVariants.{Digits, Tag}
use Rattle.union_base.specs.Fields.{is_tag}
use Rattle.marc_fields.specs.Directories.{is_formed, AreRead, directory_failure_from}
use Rattle.marc_fields.specs.Rows.{least_where_not}
use Rattle.marc_fields.specs.Rules.{entry_in, entry_texts, has_digits, has_tag, directory_failure}
use Rattle.marc_fields.specs.Spelling.{entry_bytes}
use Rattle.marc_fields.specs.declared.rules.Rule.TheVariants.{EntryDigits, Tag as TagRule}

-- the first of n texts
pub texts-step : (n : ℕ) (rest : List ℕ) → 0 < n → entry_texts n rest ≡ take 12 rest ∷ entry_texts (n - 1) (drop 12 rest)
texts-step zero rest some = absurd (omega arith)
texts-step (suc n) rest some = let less : suc n - 1 ≡ n = omega arith in rw less refl

-- the first value does not pass
pub least-here : {A : Type 0} (passes : A → Bool) (i : ℕ) (x : A) (xs : List A) → passes x ≡ false → least_where_not passes i (x ∷ xs) ≡ Some i
least-here passes i x xs bad = rw bad refl

-- the first value passes
pub least-later : {A : Type 0} (passes : A → Bool) (i : ℕ) (x : A) (xs : List A) → passes x ≡ true
    → least_where_not passes i (x ∷ xs) ≡ least_where_not passes (suc i) xs
least-later passes i x xs good = rw good refl

-- where none is found, the first value passes
pub least-none : {A : Type 0} (passes : A → Bool) (i : ℕ) (x : A) (xs : List A) → least_where_not passes i (x ∷ xs) ≡ None → passes x ≡ true
least-none passes i x xs none = of (passes x) none
  where
    of : (test : Bool) → (if test then least_where_not passes (suc i) xs else Some i) ≡ None → test ≡ true
    of true h = refl
    of false h = cc

-- the text of the next entry does not pass
pub row-here : (passes : List ℕ → Bool) (i n : ℕ) (rest text : List ℕ) → 0 < n → text ≡ take 12 rest → passes text ≡ false
    → least_where_not passes (i + 1) (entry_texts n rest) ≡ Some (i + 1)
row-here passes i n rest text some is bad =
    ap (least_where_not passes (i + 1)) (texts-step n rest some) ∙ least-here passes (i + 1) (take 12 rest) _ (ap passes (sym is) ∙ bad)

-- the text of the next entry passes
pub row-later : (passes : List ℕ → Bool) (i n m : ℕ) (rest text later : List ℕ) → 0 < n → m ≡ n - 1 → text ≡ take 12 rest → later ≡ drop 12 rest
    → passes text ≡ true → least_where_not passes (i + 1) (entry_texts n rest) ≡ least_where_not passes (i + 1 + 1) (entry_texts m later)
row-later passes i n m rest text later some less is back good =
    ap (least_where_not passes (i + 1)) (texts-step n rest some)
    ∙ (least-later passes (i + 1) (take 12 rest) _ (ap passes (sym is) ∙ good)
    ∙ (ap (λ k. least_where_not passes k (entry_texts (n - 1) (drop 12 rest))) (sym (add-one (i + 1)))
    ∙ (ap (λ k. least_where_not passes (i + 1 + 1) (entry_texts k (drop 12 rest))) (sym less)
    ∙ ap (λ t. least_where_not passes (i + 1 + 1) (entry_texts m t)) (sym back))))

-- where none is found, the text of the next entry passes
pub row-none : (passes : List ℕ → Bool) (i n : ℕ) (rest text : List ℕ) → 0 < n → text ≡ take 12 rest
    → least_where_not passes i (entry_texts n rest) ≡ None → passes text ≡ true
row-none passes i n rest text some is none =
    ap passes is ∙ least-none passes i (take 12 rest) _ (sym (ap (least_where_not passes i) (texts-step n rest some)) ∙ none)

-- what an entry that is refused has not
digits_refused : (d t : Bool) (text : List ℕ) → Err Digits ≡ (if d then (if t then Ok (entry_in text) else Err Tag) else Err Digits) → d ≡ false
digits_refused true true text is = cc
digits_refused true false text is = cc
digits_refused false t text is = refl

tag_refused : (d t : Bool) (text : List ℕ) → Err Tag ≡ (if d then (if t then Ok (entry_in text) else Err Tag) else Err Digits) → t ≡ false
tag_refused true true text is = cc
tag_refused true false text is = refl
tag_refused false t text is = cc

-- an entry that was read has a tag, and is the one that stands there
entry_read : (d t : Bool) (text : List ℕ) (e : Entry) → Ok e ≡ (if d then (if t then Ok (entry_in text) else Err Tag) else Err Digits)
    → (d ≡ true) × (t ≡ true) × (e ≡ entry_in text)
entry_read true true text e is = (refl, refl, let same : e ≡ entry_in text = cc in same)
entry_read true false text e is = cc
entry_read false t text e is = cc

pub entry-read : (text : List ℕ) (e : Entry) → Ok e ≡ entry_of text → (has_digits text ≡ true) × (has_tag text ≡ true) × (e ≡ entry_in text)
entry-read text e is = entry_read (has_digits text) (has_tag text) text e is

-- one more entry of the directory
pub spelled-more : (directory rest text later : List ℕ) (old new : List Entry) (e : Entry) → directory ≡ flat_map entry_bytes old ++ rest
    → text ≡ take 12 rest → later ≡ drop 12 rest → text ≡ entry_bytes e → new ≡ old ++ e ∷ [] → directory ≡ flat_map entry_bytes new ++ later
spelled-more directory rest text later old new e parts front back one more =
    let before = flat_map entry_bytes old in
    let split : rest ≡ entry_bytes e ++ later
    = sym (take-append-drop 12 rest) ∙ (ap (λ t. t ++ drop 12 rest) (sym front ∙ one) ∙ ap (λ t. entry_bytes e ++ t) (sym back)) in
    let spell : flat_map entry_bytes new ≡ before ++ entry_bytes e
    = ap (flat_map entry_bytes) more ∙ (flat_map-append entry_bytes old (e ∷ []) ∙ ap (λ t. before ++ t) (append-nil (entry_bytes e))) in
    parts ∙ (ap (λ t. before ++ t) split ∙ (sym (append_assoc before (entry_bytes e) later) ∙ ap (λ t. t ++ later) (sym spell)))

-- one more of the entries that stand there
pub are-more : (all : List Entry) (n m : ℕ) (rest text later : List ℕ) (old new : List Entry) (e : Entry) → 0 < n → m ≡ n - 1
    → text ≡ take 12 rest → later ≡ drop 12 rest → e ≡ entry_in text → all ≡ old ++ map entry_in (entry_texts n rest) → new ≡ old ++ e ∷ []
    → all ≡ new ++ map entry_in (entry_texts m later)
are-more all n m rest text later old new e some less front back one parts more =
    let step : map entry_in (entry_texts n rest) ≡ e ∷ map entry_in (entry_texts m later)
    = ap (map entry_in) (texts-step n rest some)
    ∙ (ap (λ x. x ∷ map entry_in (entry_texts (n - 1) (drop 12 rest))) (ap entry_in (sym front) ∙ sym one)
    ∙ (ap (λ k. e ∷ map entry_in (entry_texts k (drop 12 rest))) (sym less) ∙ ap (λ t. e ∷ map entry_in (entry_texts m t)) (sym back))) in
    parts ∙ (ap (λ es. old ++ es) step ∙ (sym (append_assoc old (e ∷ []) (map entry_in (entry_texts m later)))
    ∙ ap (λ es. es ++ map entry_in (entry_texts m later)) (sym more)))

pub formed-more : (old new : List Entry) (e : Entry) → list_all is_formed old ≡ true → is_tag e.tag ≡ true → e.length ≤ 9999 → new ≡ old ++ e ∷ []
    → list_all is_formed new ≡ true
formed-more old new e all tag short more =
    let one : is_formed e ≡ true = and_from _ _ tag (small e.length short) in
    ap (list_all is_formed) more ∙ (list_all-append is_formed old (e ∷ []) ∙ and_from _ _ all (and_from _ _ one refl))
  where
    small : (n : ℕ) → n ≤ 9999 → nat_le n 9999 ≡ true
    small n h = grind (arith, nat_tests)

-- the first of the texts has not all digits
pub failure-digits : (before n : ℕ) (directory : List ℕ) → 0 < n → Err Digits ≡ entry_of (take 12 directory)
    → directory_failure_from (before + 1) (entry_texts n directory) ≡ Some (record { rule = EntryDigits; place = before + 1 })
failure-digits before n directory some is =
    let text = take 12 directory in
    rw (row-here has_digits before n directory text some refl (digits_refused (has_digits text) (has_tag text) text is)) refl

-- the first of the texts has no tag, and all have digits
pub failure-tag : (before n : ℕ) (directory : List ℕ) → 0 < n → Err Tag ≡ entry_of (take 12 directory)
    → least_where_not has_digits (before + 1) (entry_texts n directory) ≡ None
    → directory_failure_from (before + 1) (entry_texts n directory) ≡ Some (record { rule = TagRule; place = before + 1 })
failure-tag before n directory some is none =
    let text = take 12 directory in
    rw (none, row-here has_tag before n directory text some refl (tag_refused (has_digits text) (has_tag text) text is)) refl

-- the rules on a directory are those on its entries from the first on
pub directory_failure-from : (texts rest : List (List ℕ)) (i : ℕ) → least_where_not has_digits 1 texts ≡ least_where_not has_digits i rest
    → least_where_not has_tag 1 texts ≡ least_where_not has_tag i rest → directory_failure_from i rest ≡ directory_failure texts
unfolding directory_failure
directory_failure-from texts rest i digits tags = rw (digits, tags) refl

-- no texts are left
empty : {A : Type 0} (xs : List A) → length xs ≡ 0 → xs ≡ []
empty [] none = refl
empty (x ∷ xs) none = absurd (omega arith)

-- all texts were read
pub directory-read : (directory rest : List ℕ) (count n i : ℕ) (entries : List Entry) → n ≡ 0 → length rest ≡ 12 * n
    → least_where_not has_digits 1 (entry_texts count directory) ≡ least_where_not has_digits i (entry_texts n rest)
    → least_where_not has_tag 1 (entry_texts count directory) ≡ least_where_not has_tag i (entry_texts n rest)
    → directory ≡ flat_map entry_bytes entries ++ rest → map entry_in (entry_texts count directory) ≡ entries ++ map entry_in (entry_texts n rest)
    → list_all is_formed entries ≡ true → (directory_failure (entry_texts count directory) ≡ None) × AreRead directory count entries
directory-read directory rest count n i entries zero_is size digits tags spelled are formed =
    let left : length rest ≡ 0 = omega arith in
    let none : entry_texts n rest ≡ [] = ap (λ k. entry_texts k rest) zero_is in (
      sym (directory_failure-from (entry_texts count directory) (entry_texts n rest) i digits tags) ∙ ap (directory_failure_from i) none,
      record {
        spelled = spelled ∙ (ap (λ t. flat_map entry_bytes entries ++ t) (empty rest left) ∙ append-nil (flat_map entry_bytes entries));
        are = sym (are ∙ (ap (λ ts. entries ++ map entry_in ts) none ∙ append-nil entries));
        formed = formed;
      },
    )
