-- The views of the seats at one desk, and what each kind of step makes of them.
use Rattle.std.specs.Prelude.{ℕ, ◌+◌, ◌/◌, max, List, [], ◌∷◌, ◌++◌, length, true, false}
use Rattle.catalogue_lock.specs.History.{changes_of}
use Rattle.catalogue_lock.specs.Ended.{Role}
use Rattle.catalogue_lock.specs.Ended.Role.{AsRoot, AsPass, Spent}
use Rattle.catalogue_lock.specs.declared.view.View.{View}

module _ {S C : Type 0} where
  -- a view of which nothing is known but its role and setting
  abbrev pub blank : Role → S → View S C
  blank role setting = record {
    of = record {};
    role = role;
    setting = setting;
    made = 0;
    ended = [];
    number = 0;
    own = [];
    seen = [];
    floor = 0;
    holds = false;
    base = [];
    loaded = 0;
    found = 0;
    looks = 0;
    tries = 0;
  }

  -- the root of a desk that is just opened
  abbrev pub root_view : S → View S C
  root_view setting = blank AsRoot setting

  -- a pass that is just made
  abbrev pub pass_view : S → ℕ → ℕ → View S C
  pass_view setting number floor = record (blank AsPass setting) { number = number; floor = floor }

  -- a seat that was joined into the root's
  abbrev pub spent_view : S → View S C
  spent_view setting = blank Spent setting

  -- a load found the word n
  abbrev pub looked : ℕ → View S C → View S C
  looked n v = record v { loaded = n; looks = v.looks + 1; floor = n / 2 }

  -- a compare and exchange found the word n
  abbrev pub tried : ℕ → View S C → View S C
  tried n v = record v { found = n; tries = v.tries + 1; floor = n / 2 }

  -- it won, so the pass holds the turn, and this is the history
  abbrev pub taken : List (ℕ × C) → View S C → View S C
  taken history v = record v { holds = true; base = history }

  -- the pass gives up the turn, and leaves this history
  abbrev pub released : List (ℕ × C) → View S C → View S C
  released history v = record v { own = changes_of v.number history; seen = history; floor = length history; holds = false }

  -- the root, once it has dealt one pass more
  abbrev pub dealt : View S C → View S C
  dealt root = record root { made = root.made + 1 }

  -- the view of the pass that a root deals next
  abbrev pub dealt_pass : View S C → View S C
  dealt_pass root = pass_view root.setting root.made root.floor

  -- the root takes in a pass
  abbrev pub gathered : View S C → View S C → View S C
  gathered root v = record root { ended = root.ended ++ record { number = v.number; own = v.own; seen = v.seen } ∷ []; floor = max root.floor v.floor }
