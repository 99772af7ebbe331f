use Rattle.std.proofs.Common.{◌≡◌, ◌+◌, ◌-◌, ◌<◌, ◌≤◌, ℕ, length, map, rules, ◌∙◌, ap, sym, inl, inr, arith}
use Rattle.std.specs.Prelude.{vec_capacity}
use Rattle.swoosh_resolver.specs.Tables.{standings_of}
use Rattle.swoosh_resolver.specs.Changes.{AreGiven, AreNumbers, AreVacated, Fits, whole_at, without}
use Rattle.swoosh_resolver.proofs.Counting.{length-kept}
use Rattle.swoosh_resolver.proofs.Giving.{numbers-given, stood-below}
use Rattle.swoosh_resolver.proofs.Bases.{all-whole}
use Rattle.swoosh_resolver.proofs.Installing.{free-or_closed}
use Rattle.swoosh_resolver.proofs.Opening.{within-from_some}
use Rattle.swoosh_resolver.proofs.Placing.{blocks-stay, placed-stays}
use Rattle.swoosh_resolver.proofs.Seats.{AreAtSeats, at-seats, base-placed, closed-covered, same-length, seats-same, values-same, whole-added, whole-free, whole-length, whole-starts, whole-values}
use Rattle.swoosh_resolver.proofs.Views.{fits-whole}
use Rattle.swoosh_resolver.proofs.blocks.Blocks.make_room.Goals as goal

pub seats-requires-clause-distinct : goal.seats-requires-clause-distinct
seats-requires-clause-distinct g c = rw c.as_slice.ensures.value c.requires.distinct

pub seats-requires-clause-old : goal.seats-requires-clause-old
seats-requires-clause-old g c n there =
    let blocks = c.self.inside.blocks.items in
    let closed = c.args.change.closed.items in
    let opened = c.args.change.opened.items in
    let fits : Fits g.R.Resolvable.meets blocks closed opened = rw (← c.self.view_is) at c.requires in
    let first : c.len-first.result ≡ length blocks = let e = c.len-first.ensures in let f = c.reserve.ensures.len in omega (arith, c.self.inside.blocks.ok) in
    let within = within-from_some blocks n (fits.named n (rw c.as_slice.ensures.value at there)) in
    omega arith

pub seats-requires-clause-stood : goal.seats-requires-clause-stood
seats-requires-clause-stood g c n there =
    let blocks = c.self.inside.blocks.items in
    let closed = c.args.change.closed.items in
    let opened = c.args.change.opened.items in
    let fits : Fits g.R.Resolvable.meets blocks closed opened = rw (← c.self.view_is) at c.requires in
    let first : c.len-first.result ≡ length blocks = let e = c.len-first.ensures in let f = c.reserve.ensures.len in omega (arith, c.self.inside.blocks.ok) in
    let low = stood-below blocks closed opened fits n (rw c.as_slice-2.ensures.value at there) in
    omega arith

pub seats-requires-clause-alone : goal.seats-requires-clause-alone
seats-requires-clause-alone g c = rw c.as_slice-2.ensures.value c.requires.alone

pub returns-clause-fits : goal.returns-clause-fits
returns-clause-fits g c =
    let blocks = c.self.inside.blocks.items in
    let closed = c.args.change.closed.items in
    let opened = c.args.change.opened.items in
    let fits : Fits g.R.Resolvable.meets blocks closed opened = rw (← c.self.view_is) at c.requires in
    let (moved, was, is) = c.in_ok-opened.ensures.moved in
    let items : c.reserve.new.self.items ≡ blocks = c.reserve.ensures.items in
    let whole : c.in_ok-opened.opened.items ≡ map (whole_at blocks) moved = rw (c.as_slice-3.ensures.value, items) at is in
    let same : standings_of moved ≡ standings_of opened = was.values in
    rw (items, whole) (fits-whole blocks closed opened (map (whole_at blocks) moved) (sym (values-same moved opened same) ∙ sym (whole-values blocks blocks moved)) (whole-free blocks blocks moved) fits)

pub returns-clause-opened : goal.returns-clause-opened
returns-clause-opened g c =
    let blocks = c.self.inside.blocks.items in
    let opened = c.args.change.opened.items in
    let (moved, was, is) = c.in_ok-opened.ensures.moved in
    let items : c.reserve.new.self.items ≡ blocks = c.reserve.ensures.items in
    let whole : c.in_ok-opened.opened.items ≡ map (whole_at blocks) moved = rw (c.as_slice-3.ensures.value, items) at is in
    let same : standings_of moved ≡ standings_of opened = was.values in
    rw whole (whole-values blocks blocks moved ∙ values-same moved opened same)

pub returns-clause-numbers : goal.returns-clause-numbers
returns-clause-numbers g c =
    let blocks = c.self.inside.blocks.items in
    let closed = c.args.change.closed.items in
    let opened = c.args.change.opened.items in
    let fits : Fits g.R.Resolvable.meets blocks closed opened = rw (← c.self.view_is) at c.requires in
    let first : c.len-first.result ≡ length blocks = let e = c.len-first.ensures in let f = c.reserve.ensures.len in omega (arith, c.self.inside.blocks.ok) in
    let numbers = c.in_ok-numbers.numbers.items in
    let vacated = c.in_ok-numbers.vacated.items in
    let left : AreVacated closed opened vacated = rw (c.as_slice.ensures.value, c.as_slice-2.ensures.value) at c.in_ok-numbers.ensures.vacated in
    let given : AreGiven vacated (length blocks) opened numbers = rw (first, c.as_slice-2.ensures.value) at c.in_ok-numbers.ensures.given in
    let are : AreNumbers closed (length blocks) (length opened) numbers = numbers-given blocks closed vacated opened numbers fits left given in
    let (moved, was, is) = c.in_ok-opened.ensures.moved in
    let items : c.reserve.new.self.items ≡ blocks = c.reserve.ensures.items in
    let whole : c.in_ok-opened.opened.items ≡ map (whole_at blocks) moved = rw (c.as_slice-3.ensures.value, items) at is in
    let same : standings_of moved ≡ standings_of opened = was.values in
    let len : length (map (whole_at blocks) moved) ≡ length opened = whole-length blocks moved ∙ same-length moved opened same in
    rw (whole, len, ← c.self.view_is) are

pub returns-clause-seated : goal.returns-clause-seated
returns-clause-seated g c =
    let blocks = c.self.inside.blocks.items in
    let opened = c.args.change.opened.items in
    let first : c.len-first.result ≡ length blocks = let e = c.len-first.ensures in let f = c.reserve.ensures.len in omega (arith, c.self.inside.blocks.ok) in
    let numbers = c.in_ok-numbers.numbers.items in
    let vacated = c.in_ok-numbers.vacated.items in
    let given : AreGiven vacated (length blocks) opened numbers = rw (first, c.as_slice-2.ensures.value) at c.in_ok-numbers.ensures.given in
    given.seated

pub returns-clause-distinct : goal.returns-clause-distinct
returns-clause-distinct g c =
    let blocks = c.self.inside.blocks.items in
    let opened = c.args.change.opened.items in
    let first : c.len-first.result ≡ length blocks = let e = c.len-first.ensures in let f = c.reserve.ensures.len in omega (arith, c.self.inside.blocks.ok) in
    let numbers = c.in_ok-numbers.numbers.items in
    let vacated = c.in_ok-numbers.vacated.items in
    let given : AreGiven vacated (length blocks) opened numbers = rw (first, c.as_slice-2.ensures.value) at c.in_ok-numbers.ensures.given in
    given.distinct

pub returns-clause-free : goal.returns-clause-free
returns-clause-free g c =
    let blocks = c.self.inside.blocks.items in
    let closed = c.args.change.closed.items in
    let opened = c.args.change.opened.items in
    let fits : Fits g.R.Resolvable.meets blocks closed opened = rw (← c.self.view_is) at c.requires in
    let first : c.len-first.result ≡ length blocks = let e = c.len-first.ensures in let f = c.reserve.ensures.len in omega (arith, c.self.inside.blocks.ok) in
    let numbers = c.in_ok-numbers.numbers.items in
    let vacated = c.in_ok-numbers.vacated.items in
    let left : AreVacated closed opened vacated = rw (c.as_slice.ensures.value, c.as_slice-2.ensures.value) at c.in_ok-numbers.ensures.vacated in
    let given : AreGiven vacated (length blocks) opened numbers = rw (first, c.as_slice-2.ensures.value) at c.in_ok-numbers.ensures.given in
    let are : AreNumbers closed (length blocks) (length opened) numbers = numbers-given blocks closed vacated opened numbers fits left given in
    rw (← c.self.view_is) (free-or_closed blocks closed vacated numbers opened are fits.named)

pub returns-clause-room : goal.returns-clause-room
returns-clause-room g c =
    let blocks = c.self.inside.blocks.items in
    let closed = c.args.change.closed.items in
    let opened = c.args.change.opened.items in
    let fits : Fits g.R.Resolvable.meets blocks closed opened = rw (← c.self.view_is) at c.requires in
    let first : c.len-first.result ≡ length blocks = let e = c.len-first.ensures in let f = c.reserve.ensures.len in omega (arith, c.self.inside.blocks.ok) in
    let numbers = c.in_ok-numbers.numbers.items in
    let vacated = c.in_ok-numbers.vacated.items in
    let left : AreVacated closed opened vacated = rw (c.as_slice.ensures.value, c.as_slice-2.ensures.value) at c.in_ok-numbers.ensures.vacated in
    let given : AreGiven vacated (length blocks) opened numbers = rw (first, c.as_slice-2.ensures.value) at c.in_ok-numbers.ensures.given in
    let are : AreNumbers closed (length blocks) (length opened) numbers = numbers-given blocks closed vacated opened numbers fits left given in
    let (moved, was, is) = c.in_ok-opened.ensures.moved in
    let items : c.reserve.new.self.items ≡ blocks = c.reserve.ensures.items in
    let whole : c.in_ok-opened.opened.items ≡ map (whole_at blocks) moved = rw (c.as_slice-3.ensures.value, items) at is in
    let same : standings_of moved ≡ standings_of opened = was.values in
    let seats : AreAtSeats blocks (without blocks vacated) moved numbers = seats-same blocks (without blocks vacated) opened moved numbers same (at-seats blocks closed vacated opened numbers left given) in
    let len : length (map (whole_at blocks) moved) ≡ length opened = whole-length blocks moved ∙ same-length moved opened same in
    let new = c.placed_in.new.postings in
    let own : length numbers ≡ length moved = given.len ∙ sym (same-length moved opened same) in
    rw (items, whole) (record {
      places = rw len (search rules);
      numbered = rw len are;
      within = λ n there. (elim (are.each n there) as (λ _. n < length blocks + (vec_capacity c.reserve.new.self - length blocks)) [
        | inl old' ↦ (let low = within-from_some blocks n (fits.named n old') in omega arith)
        | inr new' ↦ (let less = given.within n there new' in let roomy = c.in_ok-reserve.ensures.ok in let kept' = length-kept c.reserve.new.self in let same' = ap length items in let asked = c.len.ensures in omega arith)
      ]);
      vacates = left.members;
      once = left.distinct;
      covers = closed-covered closed vacated opened numbers (length blocks) left given;
      starts = whole-starts blocks (without blocks vacated) moved numbers seats;
      placed = all-whole g.R.Resolvable.is_posted g.met.R.Key.Eq.laws g.met.R.Resolvable.exact_keys new blocks moved was.placed was.based
          (base-placed g.R.Resolvable.is_posted blocks closed opened moved same fits new (λ e there. placed-stays c.self.inside.postings new c.placed_in.ensures.rows e.keys (c.self.invariant.placed e there)));
      spares = λ k. rw (whole-added blocks (without blocks vacated) moved numbers own seats) (was.spares k);
    })

pub invariant_of-self-in_err-opened : goal.invariant_of-self-in_err-opened
invariant_of-self-in_err-opened g c = rw c.reserve.ensures.items (blocks-stay c.self.inside.blocks.items c.self.inside.postings c.placed_in.new.postings c.self.inside.count c.placed_in.ensures.numbers c.placed_in.ensures.rows c.self.invariant)

pub invariant_of-self-2 : goal.invariant_of-self-2
invariant_of-self-2 g c = rw c.reserve.ensures.items (blocks-stay c.self.inside.blocks.items c.self.inside.postings c.placed_in.new.postings c.self.inside.count c.placed_in.ensures.numbers c.placed_in.ensures.rows c.self.invariant)
