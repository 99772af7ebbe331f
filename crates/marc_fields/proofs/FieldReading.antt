-- What reading the fields at entries shows.
use Rattle.std.proofs.Common.{◌≡◌, ℕ, zero, suc, ◌+◌, ◌-◌, ◌<◌, ◌≤◌, Bool, true, false, not, ◌&&◌, ◌||◌, List, [], ◌∷◌, ◌++◌, length, get_or, take, drop, refl, sym, ◌∙◌, ap, arith, add-one, append_assoc, length-drop, Option, None, Some}
use Rattle.std.proofs.Math.Seq.{drop-cons}
use Rattle.std.proofs.lemmas.Bool.{and_parts, and_from}
use Rattle.std.proofs.lemmas.Bool.Decides.{nat_tests}
use Rattle.std.proofs.lemmas.List.{length-take, take-take, take-append-drop}
use Rattle.std.proofs.lemmas.List.Folds.{list_all-append}
use Rattle.std.specs.List.{list_all}
use Rattle.std.specs.Prelude.{◌==◌, nat_le, if◌then◌else◌}
use Rattle.marc_leader.specs.declared.entry.Entry.{Entry}
use Rattle.union_base.specs.Fields.{is_tag, is_control_tag, is_subfield_code}
use Rattle.union_base.specs.declared.field.Field.{Field}
use Rattle.marc_fields.specs.Directories.{is_formed}
use Rattle.marc_fields.specs.Rows.{least_where_not, ends_in_only, fails, or_then}
use Rattle.marc_fields.specs.Rules.{is_tile, range_of, text_of, is_control_shaped, is_data_shaped, shape_failure}
use Rattle.marc_fields.specs.Shapes.{are_inner, is_inner, begins_with_code, are_coded, are_indicated, ends_no_record, has_shape, has_control_shape, has_data_shape, IsFieldOf}
use Rattle.marc_fields.specs.Spelling.{IsEntryOf, AreEntriesOf}
use Rattle.marc_fields.specs.declared.rules.Rule.{Rule}
use Rattle.marc_fields.specs.declared.rules.Rule.TheVariants.{ControlShape, DataShape}
use Rattle.marc_fields.proofs.DirectoryLaws.{least-here, least-later, least-none}
use Rattle.marc_fields.proofs.RowLaws.{ends-parts}
use Rattle.marc_fields.proofs.ShapeLaws.{data_shape-parts}

-- the value at a place, and the places after it
least_at : {A : Type 0} (passes : A → Bool) (xs : List A) (i : ℕ) (x : A) → i < length xs → x ≡ get_or xs i x
    → least_where_not passes (i + 1) (drop i xs) ≡ least_where_not passes (i + 1) (x ∷ drop (suc i) xs)
least_at passes xs i x below is = ap (least_where_not passes (i + 1)) (drop-cons xs i x below ∙ ap (λ y. y ∷ drop (suc i) xs) (sym is))

pub least-drop-here : {A : Type 0} (passes : A → Bool) (xs : List A) (i : ℕ) (x : A) → i < length xs → x ≡ get_or xs i x → passes x ≡ false
    → least_where_not passes (i + 1) (drop i xs) ≡ Some (i + 1)
least-drop-here passes xs i x below is bad = least_at passes xs i x below is ∙ least-here passes (i + 1) x (drop (suc i) xs) bad

pub least-drop-later : {A : Type 0} (passes : A → Bool) (xs : List A) (i : ℕ) (x : A) → i < length xs → x ≡ get_or xs i x → passes x ≡ true
    → least_where_not passes (i + 1) (drop i xs) ≡ least_where_not passes (i + 1 + 1) (drop (i + 1) xs)
least-drop-later passes xs i x below is good =
    least_at passes xs i x below is ∙ (least-later passes (i + 1) x (drop (suc i) xs) good
    ∙ (ap (λ k. least_where_not passes k (drop (suc i) xs)) (sym (add-one (i + 1)))
    ∙ ap (λ k. least_where_not passes (i + 1 + 1) (drop k xs)) (sym (add-one i))))

pub least-drop-none : {A : Type 0} (passes : A → Bool) (xs : List A) (i : ℕ) (x : A) → i < length xs → x ≡ get_or xs i x
    → least_where_not passes (i + 1) (drop i xs) ≡ None → passes x ≡ true
least-drop-none passes xs i x below is none =
    least-none passes (i + 1) x (drop (suc i) xs) (sym (least_at passes xs i x below is) ∙ none)

-- a field of the data
pub record IsTile (bytes : List ℕ) (e : Entry) : Type 0 where
  pub inside : e.start + e.length ≤ length bytes
  pub some : 1 ≤ e.length
  pub parts : range_of bytes e ≡ text_of bytes e ++ 0x1E ∷ []
  pub before : list_all (λ b. not (b == 0x1E)) (text_of bytes e) ≡ true

at_most : (m n : ℕ) → nat_le m n ≡ true → m ≤ n
at_most m n h = grind (arith, nat_tests)

pub tile-parts : (bytes : List ℕ) (e : Entry) → is_tile bytes e ≡ true → IsTile bytes e
tile-parts bytes e is =
    let both = and_parts (nat_le (e.start + e.length) (length bytes)) (ends_in_only 0x1E (range_of bytes e)) is in
    let inside = at_most (e.start + e.length) (length bytes) both.0 in
    let range = ends-parts 0x1E (range_of bytes e) both.1 in
    let size : length (range_of bytes e) ≡ e.length = omega (arith, length-take e.length (drop e.start bytes), length-drop e.start bytes, inside) in
    let some : 1 ≤ e.length = omega (arith, size, range.some) in
    let text : take (length (range_of bytes e) - 1) (range_of bytes e) ≡ text_of bytes e
    = ap (λ n. take (n - 1) (range_of bytes e)) size ∙ take-take (e.length - 1) e.length (drop e.start bytes) (omega arith) in
    record {
      inside = inside;
      some = some;
      parts = range.parts ∙ ap (λ t. t ++ 0x1E ∷ []) text;
      before = sym (ap (list_all (λ b. not (b == 0x1E))) text) ∙ range.before;
    }

-- what all bytes pass, those of a part pass
all_take : (p : ℕ → Bool) (n : ℕ) (xs : List ℕ) → list_all p xs ≡ true → list_all p (take n xs) ≡ true
all_take p n xs all =
    (and_parts (list_all p (take n xs)) (list_all p (drop n xs)) (sym (list_all-append p (take n xs) (drop n xs)) ∙ (ap (list_all p) (take-append-drop n xs) ∙ all))).0

pub all_drop : (p : ℕ → Bool) (n : ℕ) (xs : List ℕ) → list_all p xs ≡ true → list_all p (drop n xs) ≡ true
all_drop p n xs all =
    (and_parts (list_all p (take n xs)) (list_all p (drop n xs)) (sym (list_all-append p (take n xs) (drop n xs)) ∙ (ap (list_all p) (take-append-drop n xs) ∙ all))).1

inner_from : (t : List ℕ) → list_all (λ b. not (b == 0x1D)) t ≡ true → list_all (λ b. not (b == 0x1E)) t ≡ true → are_inner t ≡ true
inner_from [] d e = refl
inner_from (b ∷ t) d e =
    let r = and_parts (not (b == 0x1D)) (list_all (λ b. not (b == 0x1D)) t) d in
    let f = and_parts (not (b == 0x1E)) (list_all (λ b. not (b == 0x1E)) t) e in
    and_from (is_inner b) (are_inner t) (and_from (not (b == 0x1D)) (not (b == 0x1E)) r.0 f.0) (inner_from t r.1 f.1)

-- the text of a field of the data has no terminator
pub tile-inner : (bytes : List ℕ) (e : Entry) → is_tile bytes e ≡ true → ends_no_record bytes ≡ true → are_inner (text_of bytes e) ≡ true
tile-inner bytes e is none =
    inner_from (text_of bytes e) (all_take (λ b. not (b == 0x1D)) (e.length - 1) (drop e.start bytes) (all_drop (λ b. not (b == 0x1D)) e.start bytes none))
    (tile-parts bytes e is).before

-- the shape that is asked for
shape_asked : (control c d : Bool) → (not control || c) ≡ true → (control || d) ≡ true → (if control then c else d) ≡ true
shape_asked true c d control fit = control
shape_asked false c d control fit = fit

pub shape-right : (bytes : List ℕ) (e : Entry) → is_control_shaped bytes e ≡ true → is_data_shaped bytes e ≡ true → has_shape e.tag (text_of bytes e) ≡ true
shape-right bytes e control fit = shape_asked (is_control_tag e.tag) (has_control_shape (text_of bytes e)) (has_data_shape (text_of bytes e)) control fit

-- a field that was read lies at its entry
pub field-IsEntryOf : (bytes text : List ℕ) (e : Entry) (f : Field) → is_tile bytes e ≡ true → is_formed e ≡ true → text ≡ text_of bytes e
    → IsFieldOf e.tag text f → IsEntryOf bytes e f
field-IsEntryOf bytes text e f is formed same of =
    let tile = tile-parts bytes e is in
    record {
      tag = sym of.tagged;
      short = at_most e.length 9999 (and_parts (is_tag e.tag) (nat_le e.length 9999) formed).1;
      inside = tile.inside;
      there = tile.parts ∙ ap (λ t. t ++ 0x1E ∷ []) (sym same ∙ sym of.spelled);
    }

-- one more field at its entry
pub AreEntriesOf-push : (bytes : List ℕ) (entries : List Entry) (fields : List Field) (e : Entry) (f : Field) → AreEntriesOf bytes entries fields
    → IsEntryOf bytes e f → AreEntriesOf bytes (entries ++ e ∷ []) (fields ++ f ∷ [])
AreEntriesOf-push bytes [] [] e f are is = (is, tt)
AreEntriesOf-push bytes [] (g ∷ fields) e f are is = absurd are
AreEntriesOf-push bytes (d ∷ entries) [] e f are is = absurd are
AreEntriesOf-push bytes (d ∷ entries) (g ∷ fields) e f are is = (are.0, AreEntriesOf-push bytes entries fields e f are.1 is)

-- the rules on shapes, one after the other
pub shape_failure-control : (bytes : List ℕ) (entries : List Entry) (place : ℕ) → least_where_not (is_control_shaped bytes) 1 entries ≡ Some place
    → shape_failure bytes entries ≡ Some (record { rule = ControlShape; place = place })
unfolding shape_failure
shape_failure-control bytes entries place is = rw is refl

pub shape_failure-data : (bytes : List ℕ) (entries : List Entry) → least_where_not (is_control_shaped bytes) 1 entries ≡ None
    → shape_failure bytes entries ≡ fails DataShape (least_where_not (is_data_shaped bytes) 1 entries)
unfolding shape_failure
shape_failure-data bytes entries none = rw none refl

-- where neither rule on shapes fails, each field passes both tests
pub least-all : {A : Type 0} (passes : A → Bool) (i : ℕ) (xs : List A) → least_where_not passes i xs ≡ None → list_all passes xs ≡ true
least-all passes i [] none = refl
least-all passes i (x ∷ xs) none =
    let good = least-none passes i x xs none in
    and_from _ _ good (least-all passes (suc i) xs (sym (least-later passes i x xs good) ∙ none))

none_both : (r s : Rule) (o p : Option ℕ) → or_then (fails r o) (fails s p) ≡ None → (o ≡ None) × (p ≡ None)
none_both r s None None none = (refl, refl)
none_both r s None (Some place) none = cc
none_both r s (Some place) p none = cc

pub shapes-all : (bytes : List ℕ) (entries : List Entry) → shape_failure bytes entries ≡ None
    → (list_all (is_control_shaped bytes) entries ≡ true) × (list_all (is_data_shaped bytes) entries ≡ true)
unfolding shape_failure
shapes-all bytes entries none =
    let both = none_both ControlShape DataShape (least_where_not (is_control_shaped bytes) 1 entries) (least_where_not (is_data_shaped bytes) 1 entries) none in
    (least-all (is_control_shaped bytes) 1 entries both.0, least-all (is_data_shaped bytes) 1 entries both.1)

pub shape_failure-none : (bytes : List ℕ) (entries : List Entry) → least_where_not (is_control_shaped bytes) 1 entries ≡ None
    → least_where_not (is_data_shaped bytes) 1 entries ≡ None → shape_failure bytes entries ≡ None
unfolding shape_failure
shape_failure-none bytes entries control data_shaped = rw (control, data_shaped) refl

-- a code follows each delimiter of bytes that are left
coded-drop : (n : ℕ) (bytes : List ℕ) → are_coded bytes ≡ true → are_coded (drop n bytes) ≡ true
coded-drop zero bytes coded = coded
coded-drop (suc n) [] coded = refl
coded-drop (suc n) (b ∷ bytes) coded = coded-drop n bytes (and_parts (not (b == 0x1F) || begins_with_code bytes) (are_coded bytes) coded).1

-- and of bytes before a field terminator, which is no code
coded-front : (text rest : List ℕ) → are_coded (text ++ 0x1E ∷ rest) ≡ true → are_coded text ≡ true
coded-front [] rest coded = refl
coded-front (b ∷ []) rest coded =
    let both = and_parts (not (b == 0x1F) || false) (are_coded (0x1E ∷ rest)) coded in
    and_from _ _ both.0 refl
coded-front (b ∷ c ∷ text) rest coded =
    let both = and_parts (not (b == 0x1F) || is_subfield_code c) (are_coded (c ∷ (text ++ 0x1E ∷ rest))) coded in
    and_from _ _ both.0 (coded-front (c ∷ text) rest both.1)

pub coded-tile : (bytes : List ℕ) (e : Entry) → is_tile bytes e ≡ true → are_coded bytes ≡ true → are_coded (text_of bytes e) ≡ true
coded-tile bytes e is coded =
    let tile = tile-parts bytes e is in
    let behind = drop e.start bytes in
    let text = text_of bytes e in
    let whole : behind ≡ text ++ 0x1E ∷ drop e.length behind
    = sym (take-append-drop e.length behind) ∙ (ap (λ t. t ++ drop e.length behind) tile.parts ∙ append_assoc text (0x1E ∷ []) (drop e.length behind)) in
    coded-front text (drop e.length behind) (ap are_coded (sym whole) ∙ coded-drop e.start bytes coded)

-- where a code follows each delimiter, a data field's first bytes decide
pub indicated-shape : (text : List ℕ) → are_coded text ≡ true → are_indicated text ≡ has_data_shape text
indicated-shape text coded = sym (and_true (are_indicated text)) ∙ (ap (λ b. are_indicated text && b) (sym coded) ∙ data_shape-parts text)
  where
    and_true : (b : Bool) → (b && true) ≡ b
    and_true true = refl
    and_true false = refl

-- a field that has its shape passes both rules
pub shape-both : (bytes : List ℕ) (e : Entry) → has_shape e.tag (text_of bytes e) ≡ true → (is_control_shaped bytes e ≡ true) × (is_data_shaped bytes e ≡ true)
shape-both bytes e shaped = of (is_control_tag e.tag) shaped
  where
    of : (control : Bool) → (if control then has_control_shape (text_of bytes e) else has_data_shape (text_of bytes e)) ≡ true
        → ((not control || has_control_shape (text_of bytes e)) ≡ true) × ((control || has_data_shape (text_of bytes e)) ≡ true)
    of true has = (has, refl)
    of false has = (refl, has)

-- no entries are left
pub least-past : {A : Type 0} (passes : A → Bool) (n i : ℕ) (xs : List A) → length xs ≤ n → least_where_not passes i (drop n xs) ≡ None
least-past passes zero i [] past = refl
least-past passes zero i (x ∷ xs) past = absurd (omega (arith, past))
least-past passes (suc n) i [] past = refl
least-past passes (suc n) i (x ∷ xs) past = least-past passes n i xs (omega (arith, past))
