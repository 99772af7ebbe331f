-- The root's steps keep the desk's rule: a pass is made, a pass is ended, a desk is opened and closed.
use Rattle.std.proofs.Common.{◌≡◌, ◌≢◌, ⊎_elim, ℕ, zero, suc, ◌+◌, ◌<◌, ◌≤◌, Bool, true, false, List, [], ◌∷◌, ◌++◌, length, set, get_or, sym, refl, ap, ◌∙◌, subst, arith, MatchBool, Option, Some, None}
use Rattle.std.proofs.lemmas.Bool.{eqb-true, lt-ltb, le-ltb}
use Rattle.std.proofs.lemmas.Bool.Decides.{nat_tests}
use Rattle.std.specs.Option.{IsSome}
use Rattle.std.specs.List.{All, Any, count_by}
use Rattle.std.specs.Prelude.{nat_lt, ◌==◌, ◌&&◌}
use Rattle.std.proofs.lemmas.List.Sums.{sum_by_push}
use mathlib.Core.Option.{some, none, some-injective, some-ne-none}
use mathlib.Core.Option as maybe
use Rattle.std.proofs.lemmas.List.{length_push}
use lib.ListN.{get_elem?}
use Rattle.atomic_table.specs.Table.{State, Splits, Joins, opening, Final, Seen}
use Rattle.atomic_table.proofs.Lists.{at_set, at_snoc, set_else}
use Rattle.catalogue_lock.specs.History.{changes_of}
use Rattle.catalogue_lock.specs.Ended.{Ended, is_pass}
use Rattle.catalogue_lock.specs.Ended.Role.{AsRoot, AsPass}
use Rattle.catalogue_lock.specs.Views.{root_view, spent_view, dealt, dealt_pass, gathered}
use Rattle.catalogue_lock.specs.Rule.{Ruled, SeatOk, EndedOk, one_if, lives, lives_as, has_turn, ended_as}
use Rattle.catalogue_lock.specs.declared.view.View.{View}
use Rattle.catalogue_lock.proofs.Counting.{count_set, count_le, count_find, at_within, at_reads, one}
use Rattle.catalogue_lock.proofs.Histories.{no_changes}
use Rattle.catalogue_lock.proofs.Kept.{pass_not_root}

abbrev or_else : {M : Type 0} → M → Option M → M
or_else d None = d
or_else d (Some z) = z

some_same : {M : Type 0} (x y : M) → Some x ≡ Some y → x ≡ y
some_same x y e = ap (or_else x) e

and_left : (a b : Bool) → a && b ≡ true → a ≡ true
and_left true b e = refl
and_left false b e = e

-- one number more
one_more : (n made : ℕ) → one_if (nat_lt n (made + 1)) ≡ one_if (nat_lt n made) + one_if (made == n)
one_more n made = grind (arith, nat_tests)

module _ {M S C : Type 0} (of_setting : M → S) (of_entries : M → List (ℕ × C)) where
  abbrev Rule : State (Option M) (View S C) → Type 0
  Rule = Ruled of_setting of_entries

  -- a seat of another than the root's, after the root has made or ended a pass
  elsewhere : (chosen : S) (history : List (ℕ × C)) (made made' : ℕ) (ended ended' : List (Ended C)) (j : ℕ) (u : View S C) → j ≢ 0
      → SeatOk chosen history made ended j u → SeatOk chosen history made' ended' j u
  elsewhere chosen history made made' ended ended' j u away ok = record {
    root = λ z. absurd (away (ok.root z).first);
    pass = ok.pass;
    holder = ok.holder;
  }

  pub split_allowed : (id : ℕ) (v : View S C) → v.role ≡ AsRoot → Splits Rule id v (dealt v) (dealt_pass v)
  split_allowed id v root s r at =
      let ok = (r.each id v at).root root in
      let p : View S C = dealt_pass v in
      let role : is_pass v.role ≡ false = ap is_pass root in
      let here : v.made ≡ r.made = ok.made_is in record {
        history = r.history;
        chosen = r.chosen;
        made = r.made + 1;
        ended = r.ended;
        held = r.held;
        word = r.word;
        home = r.home;
        holders = omega (arith, sum_by_push (one has_turn) (set s.views id (dealt v)) p, count_set has_turn s.views id v (dealt v) at, r.holders);
        each = λ j u e. ⊎_elim (λ q. ⊎_elim (λ t. subst (λ (z : View S C). SeatOk r.chosen r.history (r.made + 1) r.ended j z) t.1 record {
          root = λ z. record { first = t.0 ∙ ok.first; setting = ok.setting; made_is = ap (λ (k : ℕ). k + 1) here; ended_is = ok.ended_is; floor = ok.floor };
          pass = λ z. absurd (pass_not_root (sym z ∙ root));
          holder = (r.each id v at).holder;
        }) (λ t. elsewhere r.chosen r.history r.made (r.made + 1) r.ended r.ended j u (λ z. t.0 (z ∙ sym ok.first)) (r.each j u t.1)) (at_set s.views id j (dealt v) u q))
            (λ q. subst (λ (z : View S C). SeatOk r.chosen r.history (r.made + 1) r.ended j z) q record {
              root = λ z. absurd (pass_not_root z);
              pass = λ z. let none_yet : changes_of v.made r.history ≡ [] = subst (λ (k : ℕ). changes_of k r.history ≡ []) (sym here) (no_changes r.made r.history r.below) in record {
                setting = ok.setting;
                own = none_yet;
                own_seen = refl;
                seen = (r.history, refl);
                floor_seen = omega arith;
                floor = ok.floor;
                base = λ h. cc;
              };
              holder = λ h. refl;
            }) (at_snoc (set s.views id (dealt v)) p u j e);
        numbers = λ n. let o : one (lives_as n) v ≡ 0 = ap (λ (b : Bool). one_if (b && (v.number == n))) role in
            let o' : one (lives_as n) p ≡ one_if (r.made == n) = ap (λ (k : ℕ). one_if (k == n)) here in
            omega (arith, sum_by_push (one (lives_as n)) (set s.views id (dealt v)) p, count_set (lives_as n) s.views id v (dealt v) at, r.numbers n, o, o', one_more n r.made);
        count = omega (arith, sum_by_push (one lives) (set s.views id (dealt v)) p, count_set lives s.views id v (dealt v) at, r.count);
        below = λ k d h. let l : _ = r.below k d h in omega arith;
        each_ended = r.each_ended;
      }

  pub join_allowed : (id : ℕ) (v : View S C) (other : ℕ) (w : View S C) (spare : S) → v.role ≡ AsRoot → w.role ≡ AsPass → w.holds ≡ false → Joins Rule id v other w (gathered v w) (spent_view spare)
  join_allowed id v other w spare root pass idle s r at ne there =
      let ok = (r.each id v at).root root in
      let both : View S C = gathered v w in
      let spent : View S C = spent_view spare in
      let left : Ended C = record { number = w.number; own = w.own; seen = w.seen } in
      let ended : List (Ended C) = r.ended ++ left ∷ [] in
      let first : List (View S C) = set s.views id both in
      let was : get_elem? s.views other ≡ some w = sym (set_else s.views id other both ne) ∙ there in
      let good = (r.each other w was).pass pass in
      let role : is_pass v.role ≡ false = ap is_pass root in
      let role' : is_pass w.role ≡ true = ap is_pass pass in
      let no_turn : one has_turn w ≡ 0 = ap one_if idle in record {
        history = r.history;
        chosen = r.chosen;
        made = r.made;
        ended = ended;
        held = r.held;
        word = r.word;
        home = r.home;
        holders = omega (arith, count_set has_turn s.views id v both at, count_set has_turn first other w spent there, r.holders, no_turn);
        each = λ j u e. ⊎_elim (λ t. subst (λ (z : View S C). SeatOk r.chosen r.history r.made ended j z) t.1 record {
          root = λ z. cc;
          pass = λ z. cc;
          holder = λ h. cc;
        }) (λ q. ⊎_elim (λ t. subst (λ (z : View S C). SeatOk r.chosen r.history r.made ended j z) t.1 record {
          root = λ z. record { first = t.0 ∙ ok.first; setting = ok.setting; made_is = ok.made_is; ended_is = ap (λ (l : List (Ended C)). l ++ left ∷ []) ok.ended_is; floor = omega (arith, ok.floor, good.floor) };
          pass = λ z. absurd (pass_not_root (sym z ∙ root));
          holder = (r.each id v at).holder;
        }) (λ t. elsewhere r.chosen r.history r.made r.made r.ended ended j u (λ z. t.0 (z ∙ sym ok.first)) (r.each j u t.1)) (at_set s.views id j both u q.1)) (at_set first other j spent u e);
        numbers = λ n. let o : one (lives_as n) v ≡ 0 = ap (λ (b : Bool). one_if (b && (v.number == n))) role in
            let o' : one (lives_as n) w ≡ one_if (w.number == n) = ap (λ (b : Bool). one_if (b && (w.number == n))) role' in
            omega (arith, count_set (lives_as n) s.views id v both at, count_set (lives_as n) first other w spent there, sum_by_push (one (ended_as n)) r.ended left, r.numbers n, o, o');
        count = let o : one lives v ≡ 0 = ap one_if role in let o' : one lives w ≡ 1 = ap one_if role' in
            omega (arith, count_set lives s.views id v both at, count_set lives first other w spent there, length_push r.ended left, r.count, o, o');
        below = r.below;
        each_ended = λ k z q. ⊎_elim (λ t. r.each_ended k z t) (λ t. subst (EndedOk r.history) t record { own = good.own; own_seen = good.own_seen; seen = good.seen }) (at_snoc r.ended left z k q);
      }

  pub open_allowed : (m : M) → of_entries m ≡ [] → Rule (opening (0 ∷ []) (Some m ∷ []) (root_view (of_setting m)))
  open_allowed m empty = record {
    history = [];
    chosen = of_setting m;
    made = 0;
    ended = [];
    held = false;
    word = refl;
    home = (m, refl, empty, refl);
    holders = refl;
    each = λ j u e. alone j u e;
    numbers = λ n. sym (ap one_if (le-ltb n 0 (omega arith)));
    count = refl;
    below = λ k d h. absurd (omega arith);
    each_ended = λ k z q. absurd (some-ne-none z (sym q));
  }
    where
      alone : (j : ℕ) (u : View S C) → get_elem? (root_view (of_setting m) ∷ []) j ≡ some u → SeatOk (of_setting m) [] 0 [] j u
      alone zero u e = subst (SeatOk (of_setting m) [] 0 [] 0) (some-injective _ u e) record {
        root = λ z. record { first = refl; setting = refl; made_is = refl; ended_is = refl; floor = omega arith };
        pass = λ z. cc;
        holder = λ h. cc;
      }
      alone (suc j) u e = absurd (some-ne-none u (sym e))

  home_at : (held : Bool) (homes : List (maybe.Option (Option M))) (history : List (ℕ × C)) (chosen : S) → one_if held ≡ 0
      → MatchBool held (homes ≡ none ∷ []) ((x : M) × (homes ≡ some (Some x) ∷ []) × (of_entries x ≡ history) × (of_setting x ≡ chosen))
      → (x : M) × (homes ≡ some (Some x) ∷ []) × (of_entries x ≡ history) × (of_setting x ≡ chosen)
  home_at true homes history chosen none_holds home = absurd (omega arith)
  home_at false homes history chosen none_holds home = home

  at_or : {A : Type 0} (l : List A) (k : ℕ) (d : A) → k < length l → get_elem? l k ≡ some (get_or l k d)
  at_or [] k d h = absurd (omega arith)
  at_or (x ∷ xs) zero d h = refl
  at_or (x ∷ xs) (suc k) d h = at_or xs k d (omega arith)

  -- what stands of the ended passes in a history of theirs alone
  abbrev pub Settled : List (ℕ × C) → List (Ended C) → ℕ → Type 0
  Settled history ended made = All (EndedOk history) ended × ((n : ℕ) → n < made → Any (λ (e : Ended C). e.number ≡ n) ended) × All (λ (e : ℕ × C). e.0 < made) history

  settles : (s : State (Option M) (View S C)) (r : Rule s) → count_by lives s.views ≡ 0 → Settled r.history r.ended r.made
  settles s r gone = (
    λ k d h. r.each_ended k (get_or r.ended k d) (at_or r.ended k d h),
    λ n low. let l : count_by (lives_as n) s.views ≤ count_by lives s.views = count_le (lives_as n) lives s.views (λ i u q h. and_left (is_pass u.role) (u.number == n) h) in
        let o : one_if (nat_lt n r.made) ≡ 1 = ap one_if (lt-ltb n r.made low) in
        let f = count_find (ended_as n) r.ended (omega (arith, r.numbers n, l, gone, o)) in
        (f.0, f.1, at_within r.ended f.0 f.1 f.2, at_reads r.ended f.0 f.1 f.1 f.2, eqb-true f.1.number n f.3),
    r.below,
  )

  -- what is known of the machine that a desk gives back
  abbrev pub Closing : View S C → M → Type 0
  Closing v x = (of_setting x ≡ v.setting) × Settled (of_entries x) v.ended v.made

  -- no pass is live, so the machine is at home
  pub close_finds : (id : ℕ) (v : View S C) (words : List ℕ) (slots : List (Option M)) → v.role ≡ AsRoot → v.made ≤ length v.ended → Final (Seen Rule id v) words slots
      → (x : M) × (get_elem? slots 0 ≡ some (Some x)) × Closing v x
  close_finds id v words slots root out (s, (r, at), same, long, found) =
      let ok = (r.each id v at).root root in
      let gone : count_by lives s.views ≡ 0 = omega (arith, r.count, out, ok.made_is, ap length ok.ended_is) in
      let free : one_if r.held ≡ 0 = omega (arith, gone, r.holders, count_le has_turn lives s.views (λ i u q h. ap is_pass ((r.each i u q).holder h))) in
      let home = home_at r.held s.homes r.history r.chosen free r.home in
      let x = home.0 in (
        x,
        found 0 (Some x) (ap (λ (l : List (maybe.Option (Option M))). get_elem? l 0) home.1),
        (
          home.3 ∙ sym ok.setting,
          subst (λ (h : List (ℕ × C)). Settled h v.ended v.made) (sym home.2) (subst (λ (l : List (Ended C)). Settled r.history l v.made) (sym ok.ended_is) (subst (Settled r.history r.ended) (sym ok.made_is) (settles s r gone))),
        ),
      )

  is_some : (o : Option M) (x : M) → o ≡ Some x → IsSome o
  is_some o x e = subst IsSome (sym e) refl

  -- the slot's value is the machine
  pub close_has : (id : ℕ) (v : View S C) (words : List ℕ) (slots : List (Option M)) (got : Option M) → v.role ≡ AsRoot → v.made ≤ length v.ended → Final (Seen Rule id v) words slots → get_elem? slots 0 ≡ some got → IsSome got
  close_has id v words slots got root out final at = let f = close_finds id v words slots root out final in is_some got f.0 (some-injective got (Some f.0) (sym at ∙ f.1))

  pub close_gives : (id : ℕ) (v : View S C) (words : List ℕ) (slots : List (Option M)) (got : Option M) (y : M) → v.role ≡ AsRoot → v.made ≤ length v.ended → Final (Seen Rule id v) words slots → get_elem? slots 0 ≡ some got → got ≡ Some y → Closing v y
  close_gives id v words slots got y root out final at is = let f = close_finds id v words slots root out final in
      subst (Closing v) (some_same f.0 y (some-injective (Some f.0) got (sym f.1 ∙ at) ∙ is)) f.2
