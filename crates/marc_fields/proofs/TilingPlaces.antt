-- The place at which the rule on ranges fails.
use Rattle.std.proofs.Common.{◌≡◌, ℕ, zero, suc, ◌+◌, ◌<◌, ◌≤◌, Bool, true, false, not, ◌&&◌, ◌||◌, List, [], ◌∷◌, ◌++◌, length, get_or, Contains, refl, sym, ◌∙◌, ap, arith, inl, inr, Option, None, Some}
use Rattle.std.specs.Prelude.{◌⊎◌, ◌↔◌, nat_le, nat_lt, if◌then◌else◌}
use Rattle.std.specs.List.{list_any}
use Rattle.std.proofs.lemmas.Bool.{cases_eq}
use Rattle.std.proofs.lemmas.Bool.Decides.{nat_tests}
use Rattle.std.proofs.lemmas.List.Elements.{Contains-append_right}
use Rattle.marc_leader.specs.declared.entry.Entry.{Entry}
use Rattle.marc_fields.specs.Places.{IsLeast, SharesOffset, IsUntiled, IsGap}
use Rattle.marc_fields.specs.Rows.{any_from, all_from, fails}
use Rattle.marc_fields.specs.Rules.{is_tile, is_owned, shares, tiling_from, tiling_failure}
use Rattle.marc_fields.specs.Spelling.{is_in}
use Rattle.marc_fields.specs.declared.rules.Failure.{Failure}
use Rattle.marc_fields.specs.declared.rules.Rule.TheVariants.{Tiling}
use Rattle.marc_fields.proofs.PlaceLaws.{first_amiss, IsAmissAt, amiss-least, least-amiss, none-amiss}
use Rattle.marc_fields.proofs.TilingLaws.{all_from-each, tiling_failure-tile, tiling_failure-gap, tiling_failure-none}

-- the entry has a range of its own
abbrev has_range : List ℕ → List Entry → Entry → Bool
has_range bytes earlier e = is_tile bytes e && not (shares earlier e)

walk : (bytes : List ℕ) (earlier : List Entry) (i : ℕ) (entries : List Entry) → tiling_from bytes earlier i entries ≡ first_amiss (has_range bytes) earlier i entries
walk bytes earlier i [] = refl
walk bytes earlier i (e ∷ entries) =
    ap (λ o. if has_range bytes earlier e then o else Some i) (walk bytes (earlier ++ e ∷ []) (suc i) entries)

-- a member that passes a test, and a list in which none does
pub member-passes : {A : Type 0} (test : A → Bool) (xs : List A) → list_any test xs ≡ true → (x : A) × Contains xs x × (test x ≡ true)
member-passes test [] some = cc
member-passes test (y ∷ ys) some = of (member-passes test ys) (test y) refl some
  where
    of : (list_any test ys ≡ true → (x : _) × Contains ys x × (test x ≡ true)) → (b : Bool) → test y ≡ b → (b || list_any test ys) ≡ true → (x : _) × Contains (y ∷ ys) x × (test x ≡ true)
    of rest true is some = (y, (0, omega arith, refl), is)
    of rest false is some = let later = rest some in (later.0, Contains-append_right (y ∷ []) ys later.0 later.1, later.2)

or_right : (b c : Bool) → c ≡ true → (b || c) ≡ true
or_right true c h = refl
or_right false c h = h

pub passes-member : {A : Type 0} (test : A → Bool) (xs : List A) (x : A) (k : ℕ) → k < length xs → get_or xs k x ≡ x → test x ≡ true → list_any test xs ≡ true
passes-member test [] x k below is passes = absurd (omega arith)
passes-member test (y ∷ ys) x zero below is passes = rw is (rw passes refl)
passes-member test (y ∷ ys) x (suc k) below is passes = or_right (test y) (list_any test ys) (passes-member test ys x k (omega arith) is passes)

owned-by : (entries : List Entry) (at : ℕ) (e : Entry) → Contains entries e → is_in at e ≡ true → is_owned entries at ≡ true
owned-by entries at e in' is = passes-member (is_in at) entries e in'.0 in'.1 in'.2 is

-- a number of a range that passes
any_from-some : (p : ℕ → Bool) (start n : ℕ) → any_from p start n ≡ true → (at : ℕ) × (start ≤ at) × (at < start + n) × (p at ≡ true)
any_from-some p start zero some = cc
any_from-some p start (suc n) some = of (any_from-some p (suc start) n) (p start) refl some
  where
    of : (any_from p (suc start) n ≡ true → (at : ℕ) × (suc start ≤ at) × (at < suc start + n) × (p at ≡ true)) → (b : Bool) → p start ≡ b → (b || any_from p (suc start) n) ≡ true → (at : ℕ) × (start ≤ at) × (at < start + suc n) × (p at ≡ true)
    of rest true is some = (start, omega arith, omega arith, is)
    of rest false is some = let later = rest some in (later.0, omega (arith, later.1), omega (arith, later.2), later.3)

any_from-at : (p : ℕ → Bool) (start n at : ℕ) → start ≤ at → at < start + n → p at ≡ true → any_from p start n ≡ true
any_from-at p start zero at low high is = absurd (omega arith)
any_from-at p start (suc n) at low high is =
    elim (cases_eq at start) [
      | inl same ↦ rw (ap p (sym same) ∙ is) refl
      | inr other ↦ or_right (p start) (any_from p (suc start) n) (any_from-at p (suc start) n at (omega arith) (omega arith) is)
    ]

all_from-gap : (p : ℕ → Bool) (start n : ℕ) → all_from p start n ≡ false → (at : ℕ) × (start ≤ at) × (at < start + n) × (p at ≡ false)
all_from-gap p start zero gap = cc
all_from-gap p start (suc n) gap = of (all_from-gap p (suc start) n) (p start) refl gap
  where
    of : (all_from p (suc start) n ≡ false → (at : ℕ) × (suc start ≤ at) × (at < suc start + n) × (p at ≡ false)) → (b : Bool) → p start ≡ b → (b && all_from p (suc start) n) ≡ false → (at : ℕ) × (start ≤ at) × (at < start + suc n) × (p at ≡ false)
    of rest true is gap = let later = rest gap in (later.0, omega (arith, later.1), omega (arith, later.2), later.3)
    of rest false is gap = (start, omega arith, omega arith, is)

inside : (at start size : ℕ) → start ≤ at → at < start + size → (nat_le start at && nat_lt at (start + size)) ≡ true
inside at start size low high = grind (arith, nat_tests)

low_of : (at start size : ℕ) → (nat_le start at && nat_lt at (start + size)) ≡ true → start ≤ at
low_of at start size is = grind (arith, nat_tests)

high_of : (at start size : ℕ) → (nat_le start at && nat_lt at (start + size)) ≡ true → at < start + size
high_of at start size is = grind (arith, nat_tests)

-- the entry shares a byte exactly where it shares an offset
shares-offset : (earlier : List Entry) (e : Entry) → shares earlier e ≡ true → SharesOffset earlier e
shares-offset earlier e some =
    let at = any_from-some (is_owned earlier) e.start e.length some in
    let other = member-passes (is_in at.0) earlier at.3 in
    record { offset = at.0; own = inside at.0 e.start e.length at.1 at.2; other = other.0; stands = other.1; taken = other.2 }

offset-shares : (earlier : List Entry) (e : Entry) → SharesOffset earlier e → shares earlier e ≡ true
offset-shares earlier e s =
    any_from-at (is_owned earlier) e.start e.length s.offset (low_of s.offset e.start e.length s.own) (high_of s.offset e.start e.length s.own)
    (owned-by earlier s.offset s.other s.stands s.taken)

amiss-parts : (bytes : List ℕ) (earlier : List Entry) (e : Entry) → has_range bytes earlier e ≡ false → (is_tile bytes e ≡ false) ⊎ SharesOffset earlier e
amiss-parts bytes earlier e none = of (is_tile bytes e) (shares earlier e) refl refl none
  where
    of : (tile shared : Bool) → is_tile bytes e ≡ tile → shares earlier e ≡ shared → (tile && not shared) ≡ false
        → (is_tile bytes e ≡ false) ⊎ SharesOffset earlier e
    of true true is shared none = inr (shares-offset earlier e shared)
    of true false is shared none = cc
    of false shared is some none = inl is

parts-amiss : (bytes : List ℕ) (earlier : List Entry) (e : Entry) → (is_tile bytes e ≡ false) ⊎ SharesOffset earlier e → has_range bytes earlier e ≡ false
parts-amiss bytes earlier e (inl none) = rw none refl
parts-amiss bytes earlier e (inr shared) = rw (offset-shares earlier e shared) (none (is_tile bytes e))
  where
    none : (b : Bool) → (b && false) ≡ false
    none true = refl
    none false = refl

untiled-amiss : (bytes : List ℕ) (entries : List Entry) (place : ℕ) → IsUntiled bytes entries place → IsAmissAt (has_range bytes) entries place
untiled-amiss bytes entries place u = record {
  earlier = u.earlier;
  value = u.entry;
  later = u.at.later;
  parts = u.at.parts;
  counted = u.at.counted;
  amiss = parts-amiss bytes u.earlier u.entry u.amiss;
}

amiss-untiled : (bytes : List ℕ) (entries : List Entry) (place : ℕ) → IsAmissAt (has_range bytes) entries place → IsUntiled bytes entries place
amiss-untiled bytes entries place a = record {
  earlier = a.earlier;
  entry = a.value;
  at = record { later = a.later; parts = a.parts; counted = a.counted };
  amiss = amiss-parts bytes a.earlier a.value a.amiss;
}

place_in : Option Failure → ℕ
place_in None = 0
place_in (Some failure) = failure.place

same_place : (o : Option Failure) (p q : ℕ) → o ≡ Some (record { rule = Tiling; place = p }) → o ≡ Some (record { rule = Tiling; place = q }) → p ≡ q
unfolding place_in
same_place o p q one other = ap place_in (sym one ∙ other)

no_failure : (o : Option Failure) (failure : Failure) → o ≡ None → o ≡ Some failure → ⊥
no_failure o failure p q = cc

clash : (b : Bool) → b ≡ true → b ≡ false → ⊥
clash b p q = cc

false_unless : (b : Bool) → (b ≡ true → ⊥) → b ≡ false
false_unless true h = absurd (h refl)
false_unless false h = refl

least-untiled : (bytes : List ℕ) (entries : List Entry) (place : ℕ) → tiling_from bytes [] 1 entries ≡ Some place → IsLeast (IsUntiled bytes entries) place
least-untiled bytes entries place is =
    let least = amiss-least (has_range bytes) entries place (sym (walk bytes [] 1 entries) ∙ is) in record {
      here = amiss-untiled bytes entries place least.here;
      before = λ other less u. least.before other less (untiled-amiss bytes entries other u);
    }

untiled-least : (bytes : List ℕ) (entries : List Entry) (place : ℕ) → IsLeast (IsUntiled bytes entries) place → tiling_from bytes [] 1 entries ≡ Some place
untiled-least bytes entries place least =
    walk bytes [] 1 entries
    ∙ least-amiss (has_range bytes) entries place (record {
      here = untiled-amiss bytes entries place least.here;
      before = λ other less a. least.before other less (amiss-untiled bytes entries other a);
    })

none-untiled : (bytes : List ℕ) (entries : List Entry) (place : ℕ) → tiling_from bytes [] 1 entries ≡ None → IsUntiled bytes entries place → ⊥
none-untiled bytes entries place none u =
    none-amiss (has_range bytes) entries place (sym (walk bytes [] 1 entries) ∙ none) (untiled-amiss bytes entries place u)

no-owner : (entries : List Entry) (at : ℕ) → is_owned entries at ≡ false → (e : Entry) → Contains entries e → is_in at e ≡ false
no-owner entries at none e in' = false_unless (is_in at e) (λ is. clash (is_owned entries at) (owned-by entries at e in' is) none)

gap-of : (bytes : List ℕ) (entries : List Entry) (place : ℕ) → tiling_from bytes [] 1 entries ≡ None → all_from (is_owned entries) 0 (length bytes) ≡ false
    → length entries + 1 ≡ place → IsGap bytes entries place
gap-of bytes entries place none gap is =
    let at = all_from-gap (is_owned entries) 0 (length bytes) gap in record {
      tiled = λ each. none-untiled bytes entries each none;
      offset = at.0;
      within = omega (arith, at.2);
      free = no-owner entries at.0 at.3;
      counted = omega (arith, is);
    }

forth : (bytes : List ℕ) (entries : List Entry) (place : ℕ) → tiling_failure bytes entries ≡ Some (record { rule = Tiling; place = place })
    → IsLeast (IsUntiled bytes entries) place ⊎ IsGap bytes entries place
forth bytes entries place fails = of (tiling_from bytes [] 1 entries) refl
  where
    within : (b : Bool) → all_from (is_owned entries) 0 (length bytes) ≡ b → tiling_from bytes [] 1 entries ≡ None
        → IsLeast (IsUntiled bytes entries) place ⊎ IsGap bytes entries place
    within true all none = absurd (no_failure (tiling_failure bytes entries) _ (tiling_failure-none bytes entries none all) fails)
    within false gap none =
        inr (gap-of bytes entries place none gap
        (same_place (tiling_failure bytes entries) (length entries + 1) place (tiling_failure-gap bytes entries none gap) fails))

    of : (o : Option ℕ) → tiling_from bytes [] 1 entries ≡ o → IsLeast (IsUntiled bytes entries) place ⊎ IsGap bytes entries place
    of None none = within (all_from (is_owned entries) 0 (length bytes)) refl none
    of (Some p) is =
        let same = same_place (tiling_failure bytes entries) p place (tiling_failure-tile bytes entries p is) fails in
        inl (least-untiled bytes entries place (is ∙ ap Some same))

back : (bytes : List ℕ) (entries : List Entry) (place : ℕ) → IsLeast (IsUntiled bytes entries) place ⊎ IsGap bytes entries place
    → tiling_failure bytes entries ≡ Some (record { rule = Tiling; place = place })
back bytes entries place (inl least) = tiling_failure-tile bytes entries place (untiled-least bytes entries place least)
back bytes entries place (inr gap) =
    let none = from_none (tiling_from bytes [] 1 entries) refl in
    let open_ = false_unless (all_from (is_owned entries) 0 (length bytes)) (λ all.
    let owner = member-passes (is_in gap.offset) entries (all_from-each (is_owned entries) 0 (length bytes) gap.offset all (omega arith) (omega (arith, gap.within))) in
    clash (is_in gap.offset owner.0) owner.2 (gap.free owner.0 owner.1)) in
    tiling_failure-gap bytes entries none open_ ∙ ap (λ n. Some (record { rule = Tiling; place = n })) (omega (arith, gap.counted))
  where
    from_none : (o : Option ℕ) → tiling_from bytes [] 1 entries ≡ o → tiling_from bytes [] 1 entries ≡ None
    from_none None is = is
    from_none (Some p) is = absurd (gap.tiled p (least-untiled bytes entries p is).here)

pub tiling-place : (bytes : List ℕ) (entries : List Entry) (place : ℕ) → (tiling_failure bytes entries ≡ Some (record { rule = Tiling; place = place }))
    ↔ (IsLeast (IsUntiled bytes entries) place ⊎ IsGap bytes entries place)
tiling-place bytes entries place = (forth bytes entries place, back bytes entries place)
