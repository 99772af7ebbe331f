use Rattle.std.proofs.Common.{◌≡◌, ℕ, ◌+◌, ◌++◌, length, length-append, inl, inr, sym, ◌∙◌, ap, arith}
use Rattle.std.proofs.lemmas.List.Elements.{Contains-append_cases}
use Rattle.std.specs.Prelude.{vec_capacity}
use Rattle.std.specs.List.Sorted.{IsPermutation}
use Rattle.std.proofs.lemmas.List.Sorted.{IsPermutation-map, IsPermutation-sym, Contains-permutation, length_permutation}
use Rattle.merge_laws.specs.Resolution.{DoNotMatch}
use Rattle.merge_laws.proofs.Places.{AllPairs-permutation}
use Rattle.swoosh_resolver.specs.Tables.{Entry, Has, IsPlaced, Table, block_at, blocks_in, values_of}
use Rattle.swoosh_resolver.specs.Changes.{AreNumbers, AreOpened, Fits, HasRoom, added, view_of, without}
use Rattle.swoosh_resolver.proofs.Counting.{length-kept, length-within, capacity-within, closed-fit, count-fits, count-after}
use Rattle.swoosh_resolver.proofs.Installing.{added-rows, given-free, kept-number, opened-over, opened-view, still-among}
use Rattle.swoosh_resolver.proofs.Places.{count-closed, count-within}
use Rattle.swoosh_resolver.proofs.Placing.{keys_in-stay, placed-stays}
use Rattle.swoosh_resolver.proofs.blocks.Blocks.install.Goals as goal

pub overflow_sub-self : goal.overflow_sub-self
overflow_sub-self g c =
    let blocks = c.self.inside.blocks.items in
    let closed = c.args.ready.closed.items in
    let fits : Fits g.R.Resolvable.meets blocks closed c.args.ready.opened.items = rw (← c.self.view_is) at c.requires.fits in
    let fewer = count-closed closed blocks fits.distinct fits.named in
    closed-fit (length (blocks_in (without blocks closed))) (length closed) (length (blocks_in blocks)) c.self.inside.count c.len.result fewer c.self.invariant.counted (c.len.ensures ∙ length-kept c.args.ready.closed)

pub overflow_add-self : goal.overflow_add-self
overflow_add-self g c =
    let blocks = c.self.inside.blocks.items in
    let closed = c.args.ready.closed.items in
    let fits : Fits g.R.Resolvable.meets blocks closed c.args.ready.opened.items = rw (← c.self.view_is) at c.requires.fits in
    let fewer = count-closed closed blocks fits.distinct fits.named in
    let room = (rw (← c.self.view_is) at c.requires.room).places in
    count-fits (length (blocks_in (without blocks closed))) (length closed) (length (blocks_in blocks)) (length blocks) (vec_capacity c.self.inside.blocks) (length c.args.ready.opened.items) c.self.inside.count c.len.result c.len-2.result
    fewer (count-within blocks) (length-within c.self.inside.blocks) (capacity-within c.self.inside.blocks) room c.self.invariant.counted (c.len.ensures ∙ length-kept c.args.ready.closed) (c.len-2.ensures ∙ length-kept c.args.ready.opened)

pub close_all-requires-clause-distinct : goal.close_all-requires-clause-distinct
close_all-requires-clause-distinct g c = rw c.as_slice.ensures.value c.requires.room.once

pub close_all-requires-clause-named : goal.close_all-requires-clause-named
close_all-requires-clause-named g c n there =
    let fits : Fits g.R.Resolvable.meets c.self.inside.blocks.items c.args.ready.closed.items c.args.ready.opened.items = rw (← c.self.view_is) at c.requires.fits in
    fits.named n (c.requires.room.vacates n (rw c.as_slice.ensures.value at there))

pub close_all-requires-clause-posted : goal.close_all-requires-clause-posted
close_all-requires-clause-posted g c = c.self.invariant.posted

pub close_all-requires-clause-placed : goal.close_all-requires-clause-placed
close_all-requires-clause-placed g c = c.self.invariant.placed

pub put_all-requires-clause-distinct : goal.put_all-requires-clause-distinct
put_all-requires-clause-distinct g c = rw c.as_slice-2.ensures.value c.requires.room.numbered.distinct

pub put_all-requires-clause-each : goal.put_all-requires-clause-each
put_all-requires-clause-each g c = rw c.as_slice-2.ensures.value c.requires.room.numbered.len

pub put_all-requires-clause-within : goal.put_all-requires-clause-within
put_all-requires-clause-within g c n there =
    let within = (rw (← c.self.view_is) at c.requires.room).within n (rw c.as_slice-2.ensures.value at there) in
    let small = length-within c.self.inside.blocks in
    let same = c.close_all.ensures.capacity in
    omega arith

pub put_all-requires-clause-starts : goal.put_all-requires-clause-starts
put_all-requires-clause-starts g c i e il at =
    let blocks = c.self.inside.blocks.items in
    let closed = c.args.ready.closed.items in
    let numbers = c.args.ready.numbers.items in
    let vacated = c.args.ready.vacated.items in
    let opened = c.args.ready.opened.items in
    let fits : Fits g.R.Resolvable.meets blocks closed opened = rw (← c.self.view_is) at c.requires.fits in
    let room : HasRoom g.R.Key.PartialEq.eq g.R.Resolvable.is_posted c.args.self.now closed opened numbers vacated = c.requires.room in
    let mine : c.args.self.now.blocks ≡ blocks = ap (λ (t : Table g.row.R.Denot g.row.R-Key.Denot). t.blocks) (sym c.self.view_is) in
    let left : c.close_all.new.blocks.items ≡ without blocks vacated = c.close_all.ensures.blocks ∙ ap (without blocks) c.as_slice.ensures.value in
    rw (left, c.as_slice-2.ensures.value) ((rw mine at room.starts) i e il at)

pub put_all-requires-clause-room : goal.put_all-requires-clause-room
put_all-requires-clause-room g c k =
    let blocks = c.self.inside.blocks.items in
    let closed = c.args.ready.closed.items in
    let numbers = c.args.ready.numbers.items in
    let vacated = c.args.ready.vacated.items in
    let opened = c.args.ready.opened.items in
    let fits : Fits g.R.Resolvable.meets blocks closed opened = rw (← c.self.view_is) at c.requires.fits in
    let room : HasRoom g.R.Key.PartialEq.eq g.R.Resolvable.is_posted c.args.self.now closed opened numbers vacated = c.requires.room in
    let mine : c.args.self.now.blocks ≡ blocks = ap (λ (t : Table g.row.R.Denot g.row.R-Key.Denot). t.blocks) (sym c.self.view_is) in
    let left : c.close_all.new.blocks.items ≡ without blocks vacated = c.close_all.ensures.blocks ∙ ap (without blocks) c.as_slice.ensures.value in
    let eq = g.R.Key.PartialEq.eq in
    let here : HasRoom eq g.R.Resolvable.is_posted _ closed opened numbers vacated = rw (← c.self.view_is) at c.requires.room in
    let lists = added (without blocks vacated) opened numbers in
    let stay = keys_in-stay c.self.inside.postings c.close_all.new.postings c.close_all.ensures.rows lists (added-rows (without blocks vacated) g.R.Resolvable.is_posted c.self.inside.postings opened numbers here.placed) in
    rw (left, c.as_slice-2.ensures.value, stay, c.close_all.ensures.spares k) (here.spares k)

pub put_all-requires-clause-posted : goal.put_all-requires-clause-posted
put_all-requires-clause-posted g c = c.close_all.ensures.posted

pub put_all-requires-clause-standing : goal.put_all-requires-clause-standing
put_all-requires-clause-standing g c = c.close_all.ensures.placed

pub put_all-requires-clause-placed : goal.put_all-requires-clause-placed
put_all-requires-clause-placed g c e there =
    placed-stays c.self.inside.postings c.close_all.new.postings c.close_all.ensures.rows e.keys ((rw (← c.self.view_is) at c.requires.room).placed e there)

pub invariant_of-self : goal.invariant_of-self
invariant_of-self g c =
    let blocks = c.self.inside.blocks.items in
    let closed = c.args.ready.closed.items in
    let numbers = c.args.ready.numbers.items in
    let vacated = c.args.ready.vacated.items in
    let opened = c.args.ready.opened.items in
    let fits : Fits g.R.Resolvable.meets blocks closed opened = rw (← c.self.view_is) at c.requires.fits in
    let room : HasRoom g.R.Key.PartialEq.eq g.R.Resolvable.is_posted c.args.self.now closed opened numbers vacated = c.requires.room in
    let mine : c.args.self.now.blocks ≡ blocks = ap (λ (t : Table g.row.R.Denot g.row.R-Key.Denot). t.blocks) (sym c.self.view_is) in
    let left : c.close_all.new.blocks.items ≡ without blocks vacated = c.close_all.ensures.blocks ∙ ap (without blocks) c.as_slice.ensures.value in
    let given : AreNumbers closed (length blocks) (length opened) numbers = rw mine at room.numbered in
    let put' : AreOpened c.close_all.new.blocks.items numbers opened c.put_all.new.blocks.items = rw c.as_slice-2.ensures.value at c.put_all.ensures.opened in
    let are : AreOpened (without blocks closed) numbers opened c.put_all.new.blocks.items =
    opened-over blocks closed vacated numbers opened given fits.named c.close_all.new.blocks.items c.put_all.new.blocks.items (λ n. ap (λ bs. block_at bs n) left) room.vacates room.covers put' in
    let view : IsPermutation (blocks_in (without blocks closed) ++ opened) (blocks_in c.put_all.new.blocks.items) =
    opened-view (without blocks closed) numbers opened c.put_all.new.blocks.items given.len given.distinct (given-free blocks closed vacated numbers opened given fits.named) are in
    let values : IsPermutation (view_of blocks closed opened) (values_of (blocks_in c.put_all.new.blocks.items)) =
    IsPermutation-map (λ (e : Entry g.row.R.Denot ℕ). e.value) (blocks_in (without blocks closed) ++ opened) (blocks_in c.put_all.new.blocks.items) view in
    record {
      apart = AllPairs-permutation (DoNotMatch g.R.Resolvable.meets) (λ x y h. (h.1, h.0)) (view_of blocks closed opened) (values_of (blocks_in c.put_all.new.blocks.items)) values fits.apart;
      posted = c.put_all.ensures.posted;
      placed = λ e there. placed-stays c.close_all.new.postings c.put_all.new.postings c.put_all.ensures.rows e.keys
          (placed-stays c.self.inside.postings c.close_all.new.postings c.close_all.ensures.rows e.keys
          (elim (Contains-append_cases (blocks_in (without blocks closed)) opened e (Contains-permutation (blocks_in c.put_all.new.blocks.items) (blocks_in (without blocks closed) ++ opened) e
          (IsPermutation-sym (blocks_in (without blocks closed) ++ opened) (blocks_in c.put_all.new.blocks.items) view) there)) as (λ _. IsPlaced (Has g.R.Resolvable.is_posted e) c.self.inside.postings e.keys) [
            | inl kept ↦ c.self.invariant.placed e (still-among blocks closed e kept)
            | inr fresh ↦ (rw (← c.self.view_is) at c.requires.room).placed e fresh
          ]));
      counted =
          let fewer = count-closed closed blocks fits.distinct fits.named in
          let before = c.self.invariant.counted in
          let after = length_permutation (blocks_in (without blocks closed) ++ opened) (blocks_in c.put_all.new.blocks.items) view in
          let both = length-append (blocks_in (without blocks closed)) opened in
          count-after (length (blocks_in (without blocks closed))) (length closed) (length (blocks_in blocks)) (length opened) (length (blocks_in c.put_all.new.blocks.items)) c.self.inside.count c.len.result c.len-2.result
          fewer before (c.len.ensures ∙ length-kept c.args.ready.closed) (c.len-2.ensures ∙ length-kept c.args.ready.opened) (sym both ∙ sym after);
    }

pub returns-clause-view : goal.returns-clause-view
returns-clause-view g c =
    let blocks = c.self.inside.blocks.items in
    let closed = c.args.ready.closed.items in
    let numbers = c.args.ready.numbers.items in
    let vacated = c.args.ready.vacated.items in
    let opened = c.args.ready.opened.items in
    let fits : Fits g.R.Resolvable.meets blocks closed opened = rw (← c.self.view_is) at c.requires.fits in
    let room : HasRoom g.R.Key.PartialEq.eq g.R.Resolvable.is_posted c.args.self.now closed opened numbers vacated = c.requires.room in
    let mine : c.args.self.now.blocks ≡ blocks = ap (λ (t : Table g.row.R.Denot g.row.R-Key.Denot). t.blocks) (sym c.self.view_is) in
    let left : c.close_all.new.blocks.items ≡ without blocks vacated = c.close_all.ensures.blocks ∙ ap (without blocks) c.as_slice.ensures.value in
    let given : AreNumbers closed (length blocks) (length opened) numbers = rw mine at room.numbered in
    let put' : AreOpened c.close_all.new.blocks.items numbers opened c.put_all.new.blocks.items = rw c.as_slice-2.ensures.value at c.put_all.ensures.opened in
    let are : AreOpened (without blocks closed) numbers opened c.put_all.new.blocks.items =
    opened-over blocks closed vacated numbers opened given fits.named c.close_all.new.blocks.items c.put_all.new.blocks.items (λ n. ap (λ bs. block_at bs n) left) room.vacates room.covers put' in
    let view : IsPermutation (blocks_in (without blocks closed) ++ opened) (blocks_in c.put_all.new.blocks.items) =
    opened-view (without blocks closed) numbers opened c.put_all.new.blocks.items given.len given.distinct (given-free blocks closed vacated numbers opened given fits.named) are in
    let values : IsPermutation (view_of blocks closed opened) (values_of (blocks_in c.put_all.new.blocks.items)) =
    IsPermutation-map (λ (e : Entry g.row.R.Denot ℕ). e.value) (blocks_in (without blocks closed) ++ opened) (blocks_in c.put_all.new.blocks.items) view in
    rw (← c.self.view_is) values

pub returns-clause-opened : goal.returns-clause-opened
returns-clause-opened g c =
    let blocks = c.self.inside.blocks.items in
    let closed = c.args.ready.closed.items in
    let numbers = c.args.ready.numbers.items in
    let vacated = c.args.ready.vacated.items in
    let opened = c.args.ready.opened.items in
    let fits : Fits g.R.Resolvable.meets blocks closed opened = rw (← c.self.view_is) at c.requires.fits in
    let room : HasRoom g.R.Key.PartialEq.eq g.R.Resolvable.is_posted c.args.self.now closed opened numbers vacated = c.requires.room in
    let mine : c.args.self.now.blocks ≡ blocks = ap (λ (t : Table g.row.R.Denot g.row.R-Key.Denot). t.blocks) (sym c.self.view_is) in
    let left : c.close_all.new.blocks.items ≡ without blocks vacated = c.close_all.ensures.blocks ∙ ap (without blocks) c.as_slice.ensures.value in
    let given : AreNumbers closed (length blocks) (length opened) numbers = rw mine at room.numbered in
    let put' : AreOpened c.close_all.new.blocks.items numbers opened c.put_all.new.blocks.items = rw c.as_slice-2.ensures.value at c.put_all.ensures.opened in
    let are : AreOpened (without blocks closed) numbers opened c.put_all.new.blocks.items =
    opened-over blocks closed vacated numbers opened given fits.named c.close_all.new.blocks.items c.put_all.new.blocks.items (λ n. ap (λ bs. block_at bs n) left) room.vacates room.covers put' in
    let view : IsPermutation (blocks_in (without blocks closed) ++ opened) (blocks_in c.put_all.new.blocks.items) =
    opened-view (without blocks closed) numbers opened c.put_all.new.blocks.items given.len given.distinct (given-free blocks closed vacated numbers opened given fits.named) are in
    rw (← c.self.view_is) are

pub returns-clause-kept : goal.returns-clause-kept
returns-clause-kept g c =
    let blocks = c.self.inside.blocks.items in
    let closed = c.args.ready.closed.items in
    let numbers = c.args.ready.numbers.items in
    let vacated = c.args.ready.vacated.items in
    let opened = c.args.ready.opened.items in
    let fits : Fits g.R.Resolvable.meets blocks closed opened = rw (← c.self.view_is) at c.requires.fits in
    let room : HasRoom g.R.Key.PartialEq.eq g.R.Resolvable.is_posted c.args.self.now closed opened numbers vacated = c.requires.room in
    let mine : c.args.self.now.blocks ≡ blocks = ap (λ (t : Table g.row.R.Denot g.row.R-Key.Denot). t.blocks) (sym c.self.view_is) in
    let left : c.close_all.new.blocks.items ≡ without blocks vacated = c.close_all.ensures.blocks ∙ ap (without blocks) c.as_slice.ensures.value in
    let given : AreNumbers closed (length blocks) (length opened) numbers = rw mine at room.numbered in
    let put' : AreOpened c.close_all.new.blocks.items numbers opened c.put_all.new.blocks.items = rw c.as_slice-2.ensures.value at c.put_all.ensures.opened in
    let are : AreOpened (without blocks closed) numbers opened c.put_all.new.blocks.items =
    opened-over blocks closed vacated numbers opened given fits.named c.close_all.new.blocks.items c.put_all.new.blocks.items (λ n. ap (λ bs. block_at bs n) left) room.vacates room.covers put' in
    let view : IsPermutation (blocks_in (without blocks closed) ++ opened) (blocks_in c.put_all.new.blocks.items) =
    opened-view (without blocks closed) numbers opened c.put_all.new.blocks.items given.len given.distinct (given-free blocks closed vacated numbers opened given fits.named) are in
    rw (← c.self.view_is) (kept-number blocks closed vacated numbers opened given fits.named c.put_all.new.blocks.items are)
