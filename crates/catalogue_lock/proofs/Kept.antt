-- Each kind of step keeps the desk's rule.
use Rattle.std.proofs.Common.{◌≡◌, ◌≢◌, ⊎_elim, ℕ, ◌+◌, ◌-◌, ◌*◌, ◌/◌, ◌%◌, ◌^◌, ◌<◌, ◌≤◌, Bool, true, false, eqb, eq-eqb, List, [], ◌∷◌, ◌++◌, length, set, sym, refl, ap, ◌∙◌, subst, arith, MatchBool, Option, Some, None, slice_index}
use Rattle.std.proofs.lemmas.Bool.{ltb-true, eqb-true}
use Rattle.std.specs.List.{All, count_by}
use Rattle.std.specs.Prelude.{nat_lt, ◌==◌, ◌&&◌}
use mathlib.Core.Option.{some, none}
use mathlib.Core.Option as maybe
use lib.ListN.{get_elem?}
use prog.Atomic.{either}
use Rattle.atomic_table.specs.Table.{State, Me, Step, Act, Allows, Valid, step, homes_after, carried_after, put_back, rest}
use Rattle.atomic_table.specs.Table.Act.{keeps, takes, gives}
use Rattle.atomic_table.proofs.Lists.{at_set}
use Rattle.catalogue_lock.specs.History.{changes_of, IsPrefix}
use Rattle.catalogue_lock.specs.Ended.{Role, Ended, is_pass}
use Rattle.catalogue_lock.specs.Ended.Role.{AsRoot, AsPass}
use Rattle.catalogue_lock.specs.Views.{looked, tried, taken, released}
use Rattle.catalogue_lock.specs.Rule.{Ruled, SeatOk, PassOk, EndedOk, one_if, lives, lives_as, has_turn, ended_as}
use Rattle.catalogue_lock.specs.Steps.{loads, claims, releases, Wins, Loses}
use Rattle.catalogue_lock.specs.declared.view.View.{View}
use Rattle.catalogue_lock.proofs.Counting.{count_set, count_one, count_two, one}
use Rattle.catalogue_lock.proofs.Histories.{prefix_all, prefix_more, prefix_length, changes_other}
use Rattle.std.proofs.lemmas.List.Elements.{All-push}

pub pass_not_root : AsPass ≡ AsRoot → ⊥
pass_not_root e = cc

-- what a pass has done to the history while it held the turn
pub record Extends {C : Type 0} (number : ℕ) (before after : List (ℕ × C)) : Type 0 where
  pub more : IsPrefix before after
  pub others : (m : ℕ) → m ≢ number → changes_of m after ≡ changes_of m before
  pub below : (made : ℕ) → number < made → All (λ (e : ℕ × C). e.0 < made) before → All (λ (e : ℕ × C). e.0 < made) after

module _ {M S C : Type 0} (of_setting : M → S) (of_entries : M → List (ℕ × C)) where
  abbrev Rule : State (Option M) (View S C) → Type 0
  Rule = Ruled of_setting of_entries

  abbrev Home : Bool → List (maybe.Option (Option M)) → List (ℕ × C) → S → Type 0
  Home held homes history chosen = MatchBool held (homes ≡ none ∷ []) ((x : M) × (homes ≡ some (Some x) ∷ []) × (of_entries x ≡ history) × (of_setting x ≡ chosen))

  -- a step of one pass, which stays a pass of its number
  moves : (s : State (Option M) (View S C)) (r : Rule s) (id : ℕ) (v w : View S C) → get_elem? s.views id ≡ some v → v.role ≡ AsPass → w.role ≡ AsPass → w.number ≡ v.number
      → (words : List ℕ) (homes : List (maybe.Option (Option M))) (history : List (ℕ × C)) (held : Bool)
      → words ≡ (2 * length history + one_if held) ∷ []
      → Home held homes history r.chosen
      → one_if held + one_if v.holds ≡ one_if r.held + one_if w.holds
      → PassOk r.chosen history w
      → ((j : ℕ) (u : View S C) → j ≢ id → get_elem? s.views j ≡ some u → SeatOk r.chosen history r.made r.ended j u)
      → All (λ (e : ℕ × C). e.0 < r.made) history
      → ((k : ℕ) (e : Ended C) → get_elem? r.ended k ≡ some e → EndedOk history e)
      → Rule record { words = words; homes = homes; views = set s.views id w }
  moves s r id v w at vp wp same words homes history held word home holds mine others below ended = record {
    history = history;
    chosen = r.chosen;
    made = r.made;
    ended = r.ended;
    held = held;
    word = word;
    home = home;
    holders = omega (arith, count_set has_turn s.views id v w at, r.holders, holds);
    each = λ j u e. ⊎_elim (λ t. subst (λ (z : View S C). SeatOk r.chosen history r.made r.ended j z) t.1 record {
      root = λ q. absurd (pass_not_root (sym wp ∙ q));
      pass = λ _. mine;
      holder = λ _. wp;
    }) (λ t. others j u t.0 t.1) (at_set s.views id j w u e);
    numbers = λ n. let p : lives_as n w ≡ lives_as n v = λ k. is_pass ((wp ∙ sym vp) k) && (same k == n) in
        let o : one (lives_as n) w ≡ one (lives_as n) v = ap one_if p in omega (arith, count_set (lives_as n) s.views id v w at, r.numbers n, o);
    count = let o : one lives w ≡ one lives v = ap (λ (q : Role). one_if (is_pass q)) (wp ∙ sym vp) in omega (arith, count_set lives s.views id v w at, r.count, o);
    below = below;
    each_ended = ended;
  }

  abbrev Goal : ℕ → Me (Option M) (View S C) → (ℕ → ℕ) → (ℕ → Me (Option M) (View S C) → Type 0) → State (Option M) (View S C) → ℕ → Type 0
  Goal id me f then s n = (w : View S C) × (a : Act (Option M)) × Valid s.homes me.1 a × Rule record { words = f n ∷ []; homes = homes_after s.homes me.1 a; views = set s.views id w } × then n (w, carried_after me.1 a)

  -- a step at the one word, which is read off the rule
  at_word : (slots id : ℕ) (me : Me (Option M) (View S C)) (f : ℕ → ℕ) (then : ℕ → Me (Option M) (View S C) → Type 0)
      → ((s : State (Option M) (View S C)) (r : Rule s) → get_elem? s.views id ≡ some me.0 → 2 * length r.history + one_if r.held < 2 ^ 64 → Goal id me f then s (2 * length r.history + one_if r.held))
      → Allows Rule slots id me 0 f then
  at_word slots id me f then step s r long at fits =
      let P : List ℕ → Type 0 = λ ws. (w : View S C) × (a : Act (Option M)) × Valid s.homes me.1 a × Rule record { words = set ws 0 (f (slice_index ws 0)); homes = homes_after s.homes me.1 a; views = set s.views id w } × then (slice_index ws 0) (w, carried_after me.1 a) in
      subst P (sym r.word) (step s r at (subst (λ (ws : List ℕ). slice_index ws 0 < 18446744073709551616) r.word fits))

  half : (a : ℕ) (b : Bool) → (2 * a + one_if b) / 2 ≡ a
  half a true = omega arith
  half a false = omega arith

  -- the pass only reads the word
  stays : (s : State (Option M) (View S C)) (r : Rule s) (id : ℕ) (v w : View S C) → get_elem? s.views id ≡ some v → v.role ≡ AsPass → w.role ≡ AsPass → w.number ≡ v.number → w.holds ≡ v.holds
      → PassOk r.chosen r.history w
      → Rule record { words = (2 * length r.history + one_if r.held) ∷ []; homes = s.homes; views = set s.views id w }
  stays s r id v w at vp wp same idle mine =
      moves s r id v w at vp wp same _ s.homes r.history r.held refl r.home (ap (λ (b : Bool). one_if r.held + one_if b) (sym idle)) mine (λ j u _ e. r.each j u e) r.below r.each_ended

  -- a view that took the word n as its floor
  floored : (chosen : S) (history : List (ℕ × C)) (held : Bool) (v w : View S C) → PassOk chosen history v → w.setting ≡ v.setting → w.number ≡ v.number → w.own ≡ v.own → w.seen ≡ v.seen
      → w.floor ≡ (2 * length history + one_if held) / 2 → (w.holds ≡ true → w.base ≡ history) → PassOk chosen history w
  floored chosen history held v w ok e₀ e₁ e₂ e₃ e₄ base = record {
    setting = e₀ ∙ ok.setting;
    own = ap (λ (n : ℕ). changes_of n history) e₁ ∙ ok.own ∙ sym e₂;
    own_seen = (λ k. changes_of (e₁ k) (e₃ k)) ∙ ok.own_seen ∙ sym e₂;
    seen = subst (λ (l : List (ℕ × C)). IsPrefix l history) (sym e₃) ok.seen;
    floor_seen = let l : length w.seen ≡ length v.seen = ap length e₃ in omega (arith, e₄, half (length history) held, l, ok.floor_seen, ok.floor);
    floor = omega (arith, e₄, half (length history) held);
    base = base;
  }

  pub load_allowed : (slots id : ℕ) (me : Me (Option M) (View S C)) → me.0.role ≡ AsPass → me.0.holds ≡ false → Allows Rule slots id me 0 (λ n. n) (loads (step slots 0 0 0 none) me)
  load_allowed slots id me pass idle = at_word slots id me (λ n. n) (loads (step slots 0 0 0 none) me) (λ s r at fits.
      let v = me.0 in
      let n : ℕ = 2 * length r.history + one_if r.held in
      let ok = (r.each id v at).pass pass in (
        looked n v,
        keeps,
        tt,
        stays s r id v (looked n v) at pass pass refl refl (floored r.chosen r.history r.held v (looked n v) ok refl refl refl refl refl ok.base),
        (idle, refl {A = Me (Option M) (View S C)}, omega (arith, half (length r.history) r.held, ok.floor)),
      ))

  -- the word is even, so no pass holds the turn
  even_free : (A B : Type 0) (l : ℕ) (held : Bool) → (2 * l + one_if held) % 2 ≡ 0 → MatchBool held A B → (held ≡ false) × B
  even_free A B l true even home = absurd (omega arith)
  even_free A B l false even home = (refl, home)

  claim_by : (id : ℕ) (me : Me (Option M) (View S C)) (s : State (Option M) (View S C)) (r : Rule s) → get_elem? s.views id ≡ some me.0 → me.0.role ≡ AsPass → me.0.holds ≡ false
      → (old : ℕ) → old % 2 ≡ 0 → (b : Bool) → (eqb (2 * length r.history + one_if r.held) old) ≡ b
      → (w : View S C) × (a : Act (Option M)) × Valid s.homes me.1 a × Rule record { words = either b (old + 1) (2 * length r.history + one_if r.held) ∷ []; homes = homes_after s.homes me.1 a; views = set s.views id w }
      × ((me.0.holds ≡ false) × MatchBool b (Wins of_setting of_entries me (2 * length r.history + one_if r.held) (w, carried_after me.1 a)) (Loses me (2 * length r.history + one_if r.held) (w, carried_after me.1 a)))
  claim_by id me s r at pass idle old even false is =
      let v = me.0 in
      let n : ℕ = 2 * length r.history + one_if r.held in
      let ok = (r.each id v at).pass pass in (
        tried n v,
        keeps,
        tt,
        stays s r id v (tried n v) at pass pass refl refl (floored r.chosen r.history r.held v (tried n v) ok refl refl refl refl refl ok.base),
        (idle, (refl {A = Me (Option M) (View S C)}, omega (arith, half (length r.history) r.held, ok.floor))),
      )
  claim_by id me s r at pass idle old even true is =
      let v = me.0 in
      let n : ℕ = 2 * length r.history + one_if r.held in
      let same : n ≡ old = eqb-true n old is in
      let free = even_free _ _ (length r.history) r.held (ap (λ (k : ℕ). k % 2) same ∙ even) r.home in
      let x = free.1.0 in
      let has : of_entries x ≡ r.history = free.1.2 in
      let ok = (r.each id v at).pass pass in
      let none_held : one_if r.held ≡ 0 = ap one_if free.0 in
      let not_held : one_if v.holds ≡ 0 = ap one_if idle in
      let w : View S C = taken (of_entries x) (tried n v) in (
        w,
        takes 0 (Some x),
        ap (λ (h : List (maybe.Option (Option M))). get_elem? h 0) free.1.1,
        moves s r id v w at pass pass refl _ _ r.history true (ap (λ (k : ℕ). k ∷ []) (omega (arith, same, none_held))) (ap (λ (h : List (maybe.Option (Option M))). set h 0 none) free.1.1) (omega (arith, none_held, not_held))
            (floored r.chosen r.history r.held v w ok refl refl refl refl refl (λ _. has)) (λ j u _ e. r.each j u e) r.below r.each_ended,
        (idle, (x, free.1.3 ∙ sym ok.setting, omega (arith, none_held, ap length has), (subst (λ (l : List (ℕ × C)). IsPrefix v.seen l) (sym has) ok.seen, ap (changes_of v.number) has ∙ ok.own, omega (arith, ap length has, ok.floor)), refl {A = Me (Option M) (View S C)})),
      )

  pub claim_allowed : (slots id : ℕ) (me : Me (Option M) (View S C)) (old : ℕ) → me.0.role ≡ AsPass → me.0.holds ≡ false → old % 2 ≡ 0
      → Allows Rule slots id me 0 (λ n. either (n == old) (old + 1) n) (claims of_setting of_entries (step slots 0 old (old + 1) none) me)
  claim_allowed slots id me old pass idle even = at_word slots id me (λ n. either (n == old) (old + 1) n) (claims of_setting of_entries (step slots 0 old (old + 1) none) me)
      (λ s r at fits. claim_by id me s r at pass idle old even (eqb (2 * length r.history + one_if r.held) old) refl)

  held_true : (A B : Type 0) (held : Bool) → 1 ≤ one_if held → MatchBool held A B → (held ≡ true) × A
  held_true A B true some_held home = (refl, home)
  held_true A B false some_held home = absurd (omega arith)

  lives_here : (v : View S C) → v.role ≡ AsPass → lives_as v.number v ≡ true
  lives_here v pass = ap (λ (q : Role). is_pass q && (v.number == v.number)) pass ∙ eq-eqb v.number v.number refl

  below_made : (b : Bool) → 1 ≤ one_if b → b ≡ true
  below_made true l = refl
  below_made false l = absurd (omega arith)

  at_most_one : (b : Bool) → one_if b ≤ 1
  at_most_one true = omega arith
  at_most_one false = omega arith

  lives_same : (v : View S C) (n : ℕ) → v.role ≡ AsPass → v.number ≡ n → lives_as n v ≡ true
  lives_same v n pass same = subst (λ (k : ℕ). lives_as k v ≡ true) same (lives_here v pass)

  -- the seats that did not step stay as they were, in the longer history
  another : (s : State (Option M) (View S C)) (r : Rule s) (id : ℕ) (v : View S C) → get_elem? s.views id ≡ some v → v.role ≡ AsPass → v.holds ≡ true
      → (e : List (ℕ × C)) → IsPrefix r.history e → ((m : ℕ) → m ≢ v.number → changes_of m e ≡ changes_of m r.history)
      → (j : ℕ) (u : View S C) → j ≢ id → get_elem? s.views j ≡ some u → SeatOk r.chosen e r.made r.ended j u
  another s r id v at pass holds e more others j u ne q =
      let ok = r.each j u q in record {
        root = λ z. let o = ok.root z in record { first = o.first; setting = o.setting; made_is = o.made_is; ended_is = o.ended_is; floor = omega (arith, o.floor, prefix_length r.history e more) };
        pass = λ z. let o = ok.pass z in
            let apart : u.number ≢ v.number = λ same. omega (arith, count_two (lives_as v.number) s.views j id u v q at (lives_same u v.number z same) (lives_here v pass) ne, r.numbers v.number, at_most_one (nat_lt v.number r.made)) in record {
              setting = o.setting;
              own = others u.number apart ∙ o.own;
              own_seen = o.own_seen;
              seen = prefix_more u.seen r.history e o.seen more;
              floor_seen = o.floor_seen;
              floor = omega (arith, o.floor, prefix_length r.history e more);
              base = λ h. absurd (omega (arith, count_two has_turn s.views j id u v q at h holds ne, r.holders, at_most_one r.held));
            };
        holder = ok.holder;
      }

  departed : (s : State (Option M) (View S C)) (r : Rule s) (id : ℕ) (v : View S C) → get_elem? s.views id ≡ some v → v.role ≡ AsPass
      → (e : List (ℕ × C)) → IsPrefix r.history e → ((m : ℕ) → m ≢ v.number → changes_of m e ≡ changes_of m r.history)
      → (k : ℕ) (z : Ended C) → get_elem? r.ended k ≡ some z → EndedOk e z
  departed s r id v at pass e more others k z q =
      let o = r.each_ended k z q in
      let apart : z.number ≢ v.number = λ same. omega (arith, count_one (lives_as v.number) s.views id v at (lives_here v pass), count_one (ended_as v.number) r.ended k z q (eq-eqb z.number v.number same), r.numbers v.number, at_most_one (nat_lt v.number r.made)) in
      record { own = others z.number apart ∙ o.own; own_seen = o.own_seen; seen = prefix_more z.seen r.history e o.seen more }

  abbrev or_else : M → Option M → M
  or_else d None = d
  or_else d (Some x) = x

  abbrev in_hand : M → List (ℕ × Option M) → M
  in_hand d [] = d
  in_hand d (z ∷ zs) = or_else d z.1

  one_hand : (l : List (ℕ × Option M)) (x y : M) → l ≡ (0, Some x) ∷ [] → l ≡ (0, Some y) ∷ [] → x ≡ y
  one_hand l x y p q = ap (in_hand x) (sym p ∙ q)

  give_back : (id : ℕ) (me : Me (Option M) (View S C)) (st : Step (Option M)) (f : ℕ → ℕ) (s : State (Option M) (View S C)) (r : Rule s) → get_elem? s.views id ≡ some me.0 → me.0.role ≡ AsPass → me.0.holds ≡ true
      → (x : M) → me.1 ≡ (0, Some x) ∷ [] → of_setting x ≡ me.0.setting → Extends me.0.number me.0.base (of_entries x)
      → f (2 * length me.0.base + 1) ≡ 2 * length (of_entries x)
      → Goal id me f (releases of_entries st me) s (2 * length r.history + one_if r.held)
  give_back id me st f s r at pass holds x out keeps_setting grown turns =
      let v = me.0 in
      let e : List (ℕ × C) = of_entries x in
      let w : View S C = released e v in
      let ok = (r.each id v at).pass pass in
      let base : v.base ≡ r.history = ok.base holds in
      let held = held_true _ _ r.held (omega (arith, count_one has_turn s.views id v at holds, r.holders)) r.home in
      let now : one_if r.held ≡ 1 = ap one_if held.0 in
      let had : one_if v.holds ≡ 1 = ap one_if holds in
      let more : IsPrefix r.history e = subst (λ (l : List (ℕ × C)). IsPrefix l e) base grown.more in
      let others : (m : ℕ) → m ≢ v.number → changes_of m e ≡ changes_of m r.history = λ m ne. grown.others m ne ∙ ap (changes_of m) base in
      let mine : 1 ≤ count_by (lives_as v.number) s.views = count_one (lives_as v.number) s.views id v at (lives_here v pass) in
      let made : v.number < r.made = ltb-true v.number r.made (below_made (nat_lt v.number r.made) (omega (arith, mine, r.numbers v.number))) in (
        w,
        gives,
        tt,
        moves s r id v w at pass pass refl _ _ e false (ap (λ (k : ℕ). k ∷ []) (ap f (omega (arith, now, ap length base)) ∙ turns ∙ omega arith))
            (x, (λ k. put_back (held.1 k) (out k)), refl, keeps_setting ∙ ok.setting) (omega (arith, now, had)) record {
              setting = ok.setting;
              own = refl;
              own_seen = refl;
              seen = prefix_all e;
              floor_seen = omega arith;
              floor = omega arith;
              base = λ q. cc;
            } (another s r id v at pass holds e more others) (subst (λ (l : List (ℕ × C)). All (λ (z : ℕ × C). z.0 < r.made) l → All (λ (z : ℕ × C). z.0 < r.made) e) base (grown.below r.made made) r.below)
            (departed s r id v at pass e more others),
        (λ y q. λ k. (released (of_entries (one_hand me.1 x y out q k)) v, rest (out k))),
      )

  pub release_allowed : (slots id : ℕ) (me : Me (Option M) (View S C)) (f : ℕ → ℕ) → me.0.role ≡ AsPass → me.0.holds ≡ true
      → (x : M) → me.1 ≡ (0, Some x) ∷ [] → of_setting x ≡ me.0.setting → Extends me.0.number me.0.base (of_entries x)
      → f (2 * length me.0.base + 1) ≡ 2 * length (of_entries x)
      → Allows Rule slots id me 0 f (releases of_entries (step slots 0 1 0 none) me)
  release_allowed slots id me f pass holds x out keeps_setting grown turns =
      at_word slots id me f (releases of_entries (step slots 0 1 0 none) me) (λ s r at fits. give_back id me (step slots 0 1 0 none) f s r at pass holds x out keeps_setting grown turns)

-- the pass's own entry is added
pub extends_by : {C : Type 0} (number : ℕ) (before after : List (ℕ × C)) (c : C) → after ≡ before ++ (number, c) ∷ [] → Extends number before after
extends_by {C} number before after c e = subst (Extends number before) (sym e) record {
  more = ((number, c) ∷ [], refl);
  others = λ m ne. changes_other m number before c (λ q. ne (sym q));
  below = λ made low all. All-push (λ (z : ℕ × C). z.0 < made) before (number, c) all low;
}

-- nothing is added
pub extends_none : {C : Type 0} (number : ℕ) (before after : List (ℕ × C)) → after ≡ before → Extends number before after
extends_none {C} number before after e = subst (Extends number before) (sym e) record {
  more = prefix_all before;
  others = λ m ne. refl;
  below = λ made low all. all;
}

-- the word does not wrap
pub one_turn_more : (old new : ℕ) → new ≡ old + 1 → new < 2 ^ 63 → (2 * old + 1 + 1) % 2 ^ 64 ≡ 2 * new
one_turn_more old new e small = omega arith

pub no_turn_more : (old new : ℕ) → new ≡ old → new < 2 ^ 63 → (2 * old + 1 + (2 ^ 64 - 1)) % 2 ^ 64 ≡ 2 * new
no_turn_more old new e small = omega arith
