-- What marking the bytes of entries shows.
use Rattle.std.proofs.Common.{◌≡◌, ℕ, zero, suc, ◌+◌, ◌<◌, ◌≤◌, Bool, true, false, not, ◌&&◌, ◌||◌, List, [], ◌∷◌, ◌++◌, length, get_or, take, drop, refl, sym, ◌∙◌, ap, subst, arith, add-one, append_assoc, drop-drop, length-drop, inl, inr, Option, None, Some}
use Rattle.std.specs.Prelude.{replicate}
use Rattle.std.proofs.Math.Seq.{drop-cons, take-length}
use Rattle.std.proofs.lemmas.Bool.{and_parts, and_from, cases_eq, eqb-true}
use Rattle.std.proofs.lemmas.List.{append-nil}
use Rattle.std.proofs.lemmas.Bool.Decides.{nat_tests}
use Rattle.std.proofs.lemmas.List.Folds.{list_any-append}
use Rattle.std.specs.List.{list_all, list_any}
use Rattle.std.specs.Prelude.{◌==◌, nat_le, nat_lt, if◌then◌else◌}
use Rattle.marc_leader.specs.declared.entry.Entry.{Entry}
use Rattle.marc_fields.specs.Rows.{any_from, all_from, ends_in_only, fails, or_then}
use Rattle.marc_fields.specs.Rules.{is_tile, is_owned, shares, range_of, tiling_from, tiling_failure, covering}
use Rattle.marc_fields.specs.declared.rules.Rule.TheVariants.{Tiling}
use Rattle.marc_fields.specs.Spelling.{is_in, owners}
use Rattle.marc_fields.specs.Tilings.{AreOwners, is_marked, lie_in_order}
use Rattle.marc_fields.proofs.AppendingLaws.{take_one_more}
use Rattle.marc_fields.proofs.RowLaws.{any_from-marks, all_from-marks}

-- an entry's bytes are free where none is marked
free_is : (test : Bool) (bytes : List ℕ) (earlier : List Entry) (marks : List Bool) (e : Entry) → is_tile bytes e ≡ test → length marks ≡ length bytes
    → AreOwners earlier marks
    → (test && not (list_any is_marked (take e.length (drop e.start marks)))) ≡ (test && not (shares earlier e))
free_is true bytes earlier marks e is size owners =
    let both = and_parts (nat_le (e.start + e.length) (length bytes)) (ends_in_only 0x1E (range_of bytes e)) is in
    let room : e.start + e.length ≤ length marks = fits_in (e.start + e.length) (length bytes) (length marks) both.0 size in
    ap not (sym (any_from-marks (is_owned earlier) marks e.start e.length owners room))
  where
    fits_in : (m n k : ℕ) → nat_le m n ≡ true → k ≡ n → m ≤ k
    fits_in m n k h s = grind (arith, nat_tests)
free_is false bytes earlier marks e is size owners = refl

pub free-is : (bytes : List ℕ) (earlier : List Entry) (marks : List Bool) (e : Entry) → length marks ≡ length bytes → AreOwners earlier marks
    → (is_tile bytes e && not (list_any is_marked (take e.length (drop e.start marks)))) ≡ (is_tile bytes e && not (shares earlier e))
free-is bytes earlier marks e size owners = free_is (is_tile bytes e) bytes earlier marks e refl size owners

-- the next entry is no free field
pub tiling-here : (bytes : List ℕ) (entries : List Entry) (i : ℕ) (e : Entry) → i < length entries → e ≡ get_or entries i e
    → (is_tile bytes e && not (shares (take i entries) e)) ≡ false → tiling_from bytes (take i entries) (i + 1) (drop i entries) ≡ Some (i + 1)
tiling-here bytes entries i e below is test =
    ap (tiling_from bytes (take i entries) (i + 1)) (drop-cons entries i e below ∙ ap (λ x. x ∷ drop (suc i) entries) (sym is)) ∙ rw test refl

-- the next entry is one
pub tiling-later : (bytes : List ℕ) (entries : List Entry) (i : ℕ) (e : Entry) → i < length entries → e ≡ get_or entries i e
    → (is_tile bytes e && not (shares (take i entries) e)) ≡ true
    → tiling_from bytes (take i entries) (i + 1) (drop i entries) ≡ tiling_from bytes (take (i + 1) entries) (i + 1 + 1) (drop (i + 1) entries)
tiling-later bytes entries i e below is test =
    ap (tiling_from bytes (take i entries) (i + 1)) (drop-cons entries i e below ∙ ap (λ x. x ∷ drop (suc i) entries) (sym is))
    ∙ (rw test (ap (λ es. tiling_from bytes es (suc (i + 1)) (drop (suc i) entries)) (sym (take_one_more entries i e below is)))
    ∙ (ap (λ k. tiling_from bytes (take (i + 1) entries) k (drop (suc i) entries)) (sym (add-one (i + 1)))
    ∙ ap (λ k. tiling_from bytes (take (i + 1) entries) (i + 1 + 1) (drop k entries)) (sym (add-one i))))

or_none : (test : Bool) → (test || false) ≡ test
or_none true = refl
or_none false = refl

-- one more entry has its bytes
pub owners-more : (entries : List Entry) (i : ℕ) (e : Entry) (old new : List Bool) → i < length entries → e ≡ get_or entries i e
    → AreOwners (take i entries) old → ((k : ℕ) → get_or new k false ≡ (get_or old k false || is_in k e)) → AreOwners (take (i + 1) entries) new
owners-more entries i e old new below is owners marks = λ k.
    let more : is_owned (take (i + 1) entries) k ≡ (is_owned (take i entries) k || is_in k e)
    = ap (λ es. is_owned es k) (take_one_more entries i e below is)
    ∙ (list_any-append (is_in k) (take i entries) (e ∷ []) ∙ ap (λ b. is_owned (take i entries) k || b) (or_none (is_in k e))) in
    marks k ∙ (ap (λ b. b || is_in k e) (owners k) ∙ sym more)

-- all bytes have their entry where all are marked
pub covered-is : (bytes : List ℕ) (entries : List Entry) (marks : List Bool) → length marks ≡ length bytes → AreOwners entries marks
    → all_from (is_owned entries) 0 (length bytes) ≡ list_all is_marked marks
covered-is bytes entries marks size owners =
    all_from-marks (is_owned entries) marks 0 (length bytes) owners (omega (arith, size))
    ∙ ap (list_all is_marked) (ap (λ n. take n marks) (sym size) ∙ take-length marks)

-- the rule on ranges, its two parts one after the other
pub tiling_failure-tile : (bytes : List ℕ) (entries : List Entry) (place : ℕ) → tiling_from bytes [] 1 entries ≡ Some place
    → tiling_failure bytes entries ≡ Some (record { rule = Tiling; place = place })
unfolding tiling_failure
tiling_failure-tile bytes entries place is = rw is refl

pub tiling_failure-gap : (bytes : List ℕ) (entries : List Entry) → tiling_from bytes [] 1 entries ≡ None
    → all_from (is_owned entries) 0 (length bytes) ≡ false → tiling_failure bytes entries ≡ Some (record { rule = Tiling; place = length entries + 1 })
unfolding tiling_failure
tiling_failure-gap bytes entries none gap =
    rw (none, gap) (ap (λ n. fails Tiling (Some n)) (sym (add-one (length entries))))

pub tiling_failure-none : (bytes : List ℕ) (entries : List Entry) → tiling_from bytes [] 1 entries ≡ None
    → all_from (is_owned entries) 0 (length bytes) ≡ true → tiling_failure bytes entries ≡ None
unfolding tiling_failure
tiling_failure-none bytes entries none covered = rw (none, covered) refl

-- no byte is marked at first
pub replicate-unmarked : (n at : ℕ) → get_or (replicate n false) at false ≡ false
replicate-unmarked zero at = refl
replicate-unmarked (suc n) zero = refl
replicate-unmarked (suc n) (suc at) = replicate-unmarked n at

-- an entry was passed, and the others too
pub tiling-passed : (test : Bool) (later : Option ℕ) (i : ℕ) → (if test then later else Some i) ≡ None → (test ≡ true) × (later ≡ None)
tiling-passed true later i none = (refl, none)
tiling-passed false later i none = cc

-- both parts of the rule on ranges
none_both : (o p : Option ℕ) → or_then (fails Tiling o) (fails Tiling p) ≡ None → (o ≡ None) × (p ≡ None)
none_both None None none = (refl, refl)
none_both None (Some place) none = cc
none_both (Some place) p none = cc

pub tiling-none : (bytes : List ℕ) (entries : List Entry) → tiling_failure bytes entries ≡ None
    → (tiling_from bytes [] 1 entries ≡ None) × (all_from (is_owned entries) 0 (length bytes) ≡ true)
unfolding tiling_failure
tiling-none bytes entries none =
    let both = none_both (tiling_from bytes [] 1 entries) (covering bytes entries) none in
    (both.0, (tiling-passed (all_from (is_owned entries) 0 (length bytes)) None (suc (length entries)) both.1).0)

-- where no entry is refused, each is a field of the data
tiles-from : (bytes : List ℕ) (earlier : List Entry) (i : ℕ) (entries : List Entry) → tiling_from bytes earlier i entries ≡ None
    → list_all (is_tile bytes) entries ≡ true
tiles-from bytes earlier i [] none = refl
tiles-from bytes earlier i (e ∷ entries) none =
    let step = tiling-passed (is_tile bytes e && not (shares earlier e)) (tiling_from bytes (earlier ++ e ∷ []) (suc i) entries) i none in
    and_from _ _ (and_parts (is_tile bytes e) (not (shares earlier e)) step.0).0 (tiles-from bytes (earlier ++ e ∷ []) (suc i) entries step.1)

pub tiles-all : (bytes : List ℕ) (entries : List Entry) → tiling_failure bytes entries ≡ None → list_all (is_tile bytes) entries ≡ true
tiles-all bytes entries none = tiles-from bytes [] 1 entries (tiling-none bytes entries none).0

-- one more entry may have the byte
owners-push : (at : ℕ) (entries : List Entry) (e : Entry) → owners at (entries ++ e ∷ []) ≡ owners at entries + (if is_in at e then 1 else 0)
owners-push at [] e = omega arith
owners-push at (d ∷ entries) e = omega (arith, owners-push at entries e)

-- a byte that is in no range has no owner
pub unowned : (at : ℕ) (entries : List Entry) → is_owned entries at ≡ false → owners at entries ≡ 0
unowned at [] none = refl
unowned at (e ∷ entries) none =
    let both = or_parts (is_in at e) (is_owned entries at) none in
    rw (both.0, unowned at entries both.1) refl
  where
    or_parts : (a b : Bool) → (a || b) ≡ false → (a ≡ false) × (b ≡ false)
    or_parts true b h = cc
    or_parts false b h = (refl, h)

-- a byte that is in a range has an owner
pub owned : (at : ℕ) (entries : List Entry) → is_owned entries at ≡ true → 1 ≤ owners at entries
owned at [] some = cc
owned at (e ∷ entries) some = here (is_in at e) (λ h. owned at entries h) some
  where
    here : (test : Bool) → (is_owned entries at ≡ true → 1 ≤ owners at entries) → (test || is_owned entries at) ≡ true
        → 1 ≤ (if test then 1 else 0) + owners at entries
    here true later h = omega arith
    here false later h = omega (arith, later h)

-- a test that no number passes, and one that each passes
any_from-none : (p : ℕ → Bool) (start n k : ℕ) → any_from p start n ≡ false → start ≤ k → k < start + n → p k ≡ false
any_from-none p start zero k none low high = absurd (omega arith)
any_from-none p start (suc n) k none low high =
    let both = or_parts (p start) (any_from p (suc start) n) none in
    elim (cases_eq k start) [
      | inl same ↦ ap p same ∙ both.0
      | inr other ↦ any_from-none p (suc start) n k both.1 (omega arith) (omega arith)
    ]
  where
    or_parts : (a b : Bool) → (a || b) ≡ false → (a ≡ false) × (b ≡ false)
    or_parts true b h = cc
    or_parts false b h = (refl, h)

pub all_from-each : (p : ℕ → Bool) (start n k : ℕ) → all_from p start n ≡ true → start ≤ k → k < start + n → p k ≡ true
all_from-each p start zero k all low high = absurd (omega arith)
all_from-each p start (suc n) k all low high =
    let both = and_parts (p start) (all_from p (suc start) n) all in
    elim (cases_eq k start) [
      | inl same ↦ ap p same ∙ both.0
      | inr other ↦ all_from-each p (suc start) n k both.1 (omega arith) (omega arith)
    ]

-- a field that shares no byte leaves each byte one owner at most
once-push : (at : ℕ) (earlier : List Entry) (e : Entry) → shares earlier e ≡ false → owners at earlier ≤ 1 → owners at (earlier ++ e ∷ []) ≤ 1
once-push at earlier e apart once = of (is_in at e) refl
  where
    inside : (low high : Bool) → (low && high) ≡ true → (low ≡ true) × (high ≡ true)
    inside true true h = (refl, refl)
    inside true false h = cc
    inside false high h = cc

    at_most : (m n : ℕ) → nat_le m n ≡ true → m ≤ n
    at_most m n h = grind (arith, nat_tests)

    below : (m n : ℕ) → nat_lt m n ≡ true → m < n
    below m n h = grind (arith, nat_tests)

    of : (test : Bool) → is_in at e ≡ test → owners at (earlier ++ e ∷ []) ≤ 1
    of true is =
        let both = inside (nat_le e.start at) (nat_lt at (e.start + e.length)) is in
        let free = any_from-none (is_owned earlier) e.start e.length at apart (at_most e.start at both.0) (below at (e.start + e.length) both.1) in
        let none = unowned at earlier free in
        let more : owners at (earlier ++ e ∷ []) ≡ owners at earlier + 1 = owners-push at earlier e ∙ rw is refl in
        omega arith
    of false is =
        let more : owners at (earlier ++ e ∷ []) ≡ owners at earlier + 0 = owners-push at earlier e ∙ rw is refl in
        omega arith

not_true : (test : Bool) → not test ≡ true → test ≡ false
not_true true h = sym h
not_true false h = refl

once-from : (bytes : List ℕ) (at : ℕ) (earlier : List Entry) (i : ℕ) (entries : List Entry) → tiling_from bytes earlier i entries ≡ None
    → owners at earlier ≤ 1 → owners at (earlier ++ entries) ≤ 1
once-from bytes at earlier i [] none once = rw append-nil once
once-from bytes at earlier i (e ∷ entries) none once =
    let step = tiling-passed (is_tile bytes e && not (shares earlier e)) (tiling_from bytes (earlier ++ e ∷ []) (suc i) entries) i none in
    let apart = not_true (shares earlier e) (and_parts (is_tile bytes e) (not (shares earlier e)) step.0).1 in
    let later = once-from bytes at (earlier ++ e ∷ []) (suc i) entries step.1 (once-push at earlier e apart once) in
    subst (λ es. owners at es ≤ 1) (append_assoc earlier (e ∷ []) entries) later

-- the ranges partition the data
pub tiled-once : (bytes : List ℕ) (entries : List Entry) → tiling_failure bytes entries ≡ None → (at : ℕ) → at < length bytes → owners at entries ≡ 1
tiled-once bytes entries none = λ at below.
    let both = tiling-none bytes entries none in
    let one = once-from bytes at [] 1 entries both.0 (omega arith) in
    let some = owned at entries (all_from-each (is_owned entries) 0 (length bytes) at both.1 (omega arith) (omega arith)) in
    omega arith

-- a test that no number passes, and one that each passes, number by number
any_from-false : (p : ℕ → Bool) (start n : ℕ) → ((k : ℕ) → start ≤ k → p k ≡ false) → any_from p start n ≡ false
any_from-false p start zero none = refl
any_from-false p start (suc n) none = rw (none start (omega arith), any_from-false p (suc start) n (λ k low. none k (omega arith))) refl

all_from-true : (p : ℕ → Bool) (start n : ℕ) → ((k : ℕ) → k < start + n → p k ≡ true) → all_from p start n ≡ true
all_from-true p start zero all = refl
all_from-true p start (suc n) all = and_from _ _ (all start (omega arith)) (all_from-true p (suc start) n (λ k below. all k (omega arith)))

not_below : (k start : ℕ) → start ≤ k → nat_lt k start ≡ false
not_below k start low = grind (arith, nat_tests)

is_below : (k n : ℕ) → k < n → nat_lt k n ≡ true
is_below k n low = grind (arith, nat_tests)

is_most : (m n : ℕ) → m ≤ n → nat_le m n ≡ true
is_most m n low = grind (arith, nat_tests)

most : (m n : ℕ) → nat_le m n ≡ true → m ≤ n
most m n h = grind (arith, nat_tests)

-- the bytes below a place and a range from there on are those below the range's end
below_more : (at start size : ℕ) → (nat_lt at start || (nat_le start at && nat_lt at (start + size))) ≡ nat_lt at (start + size)
below_more at start size = grind (arith, nat_tests)

-- ranges that lie one after the other: no entry is refused, and each byte has one
in_order : (bytes : List ℕ) (start : ℕ) (rest : List ℕ) (earlier : List Entry) (i : ℕ) (entries : List Entry) → rest ≡ drop start bytes
    → start + length rest ≡ length bytes → ((at : ℕ) → is_owned earlier at ≡ nat_lt at start) → lie_in_order start rest entries ≡ true
    → (tiling_from bytes earlier i entries ≡ None) × ((at : ℕ) → is_owned (earlier ++ entries) at ≡ nat_lt at (length bytes))
in_order bytes start rest earlier i [] behind here taken lie =
    let none : length rest ≡ 0 = eqb-true (length rest) 0 lie in
    let end : start ≡ length bytes = omega arith in (
      refl,
      λ at. ap (λ es. is_owned es at) (append-nil earlier) ∙ (taken at ∙ ap (nat_lt at) end),
    )
in_order bytes start rest earlier i (e ∷ entries) behind here taken lie =
    let both = and_parts ((e.start == start) && nat_le e.length (length rest)) _ lie in
    let place = and_parts (e.start == start) (nat_le e.length (length rest)) both.0 in
    let field = and_parts (ends_in_only 0x1E (take e.length rest)) (lie_in_order (start + e.length) (drop e.length rest) entries) both.1 in
    let at_start : e.start ≡ start = eqb-true e.start start place.0 in
    let short : e.length ≤ length rest = most e.length (length rest) place.1 in
    let range : range_of bytes e ≡ take e.length rest = ap (take e.length) (ap (λ n. drop n bytes) at_start ∙ sym behind) in
    let tile : is_tile bytes e ≡ true
    = and_from _ _ (is_most (e.start + e.length) (length bytes) (omega (arith, at_start))) (ap (ends_in_only 0x1E) range ∙ field.0) in
    let apart : shares earlier e ≡ false
    = any_from-false (is_owned earlier) e.start e.length (λ k low. taken k ∙ not_below k start (omega (arith, at_start))) in
    let passes : (is_tile bytes e && not (shares earlier e)) ≡ true = rw (tile, apart) refl in
    let next : drop e.length rest ≡ drop (start + e.length) bytes
    = ap (drop e.length) behind ∙ (drop-drop e.length start bytes ∙ ap (λ n. drop n bytes) (omega arith)) in
    let size : start + e.length + length (drop e.length rest) ≡ length bytes = omega (arith, length-drop e.length rest) in
    let more : (at : ℕ) → is_owned (earlier ++ e ∷ []) at ≡ nat_lt at (start + e.length)
    = λ at. list_any-append (is_in at) earlier (e ∷ [])
    ∙ (ap (λ b. is_owned earlier at || b) (or_none (is_in at e))
    ∙ (ap (λ b. b || is_in at e) (taken at)
    ∙ (ap (λ n. nat_lt at start || (nat_le n at && nat_lt at (n + e.length))) at_start ∙ below_more at start e.length))) in
    let later = in_order bytes (start + e.length) (drop e.length rest) (earlier ++ e ∷ []) (suc i) entries next size more field.1 in (
      rw passes later.0,
      λ at. ap (λ es. is_owned es at) (sym (append_assoc earlier (e ∷ []) entries)) ∙ later.1 at,
    )

pub ordered-tiling : (bytes : List ℕ) (entries : List Entry) → lie_in_order 0 bytes entries ≡ true → tiling_failure bytes entries ≡ None
ordered-tiling bytes entries lie =
    let both = in_order bytes 0 bytes [] 1 entries refl (omega arith) (λ at. sym (not_below at 0 (omega arith))) lie in
    tiling_failure-none bytes entries both.0 (all_from-true (is_owned entries) 0 (length bytes) (λ k below. both.1 k ∙ is_below k (length bytes) (omega arith)))
