use Rattle.std.proofs.Common.{◌≡◌, ◌≢◌, ℕ, ◌+◌, ◌<◌, ◌≤◌, ◌++◌, ◌∷◌, [], Option, Some, drop, get_or, length, length-append, refl, append_assoc, append-nil, sym, take, ◌∙◌, ap, subst, arith}
use Rattle.std.specs.Prelude.{Contains, IsSome, count_by, option_map, unwrap_or, vec_capacity}
use Rattle.std.proofs.lemmas.List.{get_or_at, get_or_default, nil_from_length, take_all, take_more}
use Rattle.feature_index.specs.Postings.{key_at, spare_of}
use Rattle.swoosh_resolver.specs.Tables.{Entry, block_at, keys_at, places_at}
use Rattle.swoosh_resolver.specs.Changes.{AreOpened, added}
use Rattle.swoosh_resolver.proofs.Installing.{added-at, block-among, drop-among, length-added, next-stands, opened_more, opened_none}
use Rattle.swoosh_resolver.proofs.Opening.{count-keys, count-split}
use Rattle.swoosh_resolver.proofs.Placing.{keys_at-stay, placed-stays}
use Rattle.swoosh_resolver.proofs.install.put_all.Goals as goal

pub loop-placed-init : goal.loop-placed-init
loop-placed-init g c = record {
  place = refl;
  rest = c.into_iter-placed-iterator.ensures.into_iter_gives.0;
  opened = opened_none c.args.blocks.now.items;
  posted = c.requires.posted;
  spares = λ k. omega arith;
  rows = λ place k at. at;
  capacity = omega arith;
}

pub put-requires-clause-place : goal.put-requires-clause-place
put-requires-clause-place g c =
    let blocks = c.args.blocks.now.items in
    let numbers = c.args.numbers.now in
    let opened = c.args.opened.items in
    let done = c.loop-placed.yielded in
    let x = c.in-Some.placed in
    let now = c.loop-placed.blocks.items in
    let all : done ++ (x ∷ c.next.new.self.rest.items) ≡ opened = rw c.in-Some.ensures.steps.0 at c.loop-placed.invariant.rest in
    let few : length done < length opened = let n = length-append done (x ∷ c.next.new.self.rest.items) in let e = ap length all in omega arith in
    let len = c.requires.each in
    let there : get_or opened (length done) x ≡ x = subst (λ xs. get_or xs (length done) x ≡ x) all (get_or_at done x c.next.new.self.rest.items x (length done) refl) in
    let n = get_or numbers (length done) 0 in
    let number : get_or numbers c.loop-placed.place 0 ≡ n = ap (λ i. get_or numbers i 0) c.loop-placed.invariant.place in
    let stays : block_at now n ≡ block_at blocks n = next-stands blocks numbers (length done) done now (omega arith) c.requires.distinct c.loop-placed.invariant.opened in
    let places : places_at now n ≡ places_at blocks n = ap (λ (o : Option (Entry g.row.R.Denot ℕ)). unwrap_or (option_map (λ e. e.keys) o) []) stays in
    let among : Contains opened x = (length done, few, there) in
    let lists = added blocks opened numbers in
    let own : get_or lists (length done) [] ≡ drop (length (places_at blocks n)) x.keys = added-at blocks opened numbers (length done) x len few there in
    let longs : length done < length lists = let l = length-added blocks opened numbers len in omega arith in
    let below = c.requires.within n (length done, omega arith, get_or_default numbers (length done) n 0 (omega arith)) in
    let grown = c.loop-placed.invariant.capacity in
    subst (λ m. m < vec_capacity c.loop-placed.blocks) (sym number) (omega arith)

pub put-requires-clause-starts : goal.put-requires-clause-starts
put-requires-clause-starts g c =
    let blocks = c.args.blocks.now.items in
    let numbers = c.args.numbers.now in
    let opened = c.args.opened.items in
    let done = c.loop-placed.yielded in
    let x = c.in-Some.placed in
    let now = c.loop-placed.blocks.items in
    let all : done ++ (x ∷ c.next.new.self.rest.items) ≡ opened = rw c.in-Some.ensures.steps.0 at c.loop-placed.invariant.rest in
    let few : length done < length opened = let n = length-append done (x ∷ c.next.new.self.rest.items) in let e = ap length all in omega arith in
    let len = c.requires.each in
    let there : get_or opened (length done) x ≡ x = subst (λ xs. get_or xs (length done) x ≡ x) all (get_or_at done x c.next.new.self.rest.items x (length done) refl) in
    let n = get_or numbers (length done) 0 in
    let number : get_or numbers c.loop-placed.place 0 ≡ n = ap (λ i. get_or numbers i 0) c.loop-placed.invariant.place in
    let stays : block_at now n ≡ block_at blocks n = next-stands blocks numbers (length done) done now (omega arith) c.requires.distinct c.loop-placed.invariant.opened in
    let places : places_at now n ≡ places_at blocks n = ap (λ (o : Option (Entry g.row.R.Denot ℕ)). unwrap_or (option_map (λ e. e.keys) o) []) stays in
    let among : Contains opened x = (length done, few, there) in
    let lists = added blocks opened numbers in
    let own : get_or lists (length done) [] ≡ drop (length (places_at blocks n)) x.keys = added-at blocks opened numbers (length done) x len few there in
    let longs : length done < length lists = let l = length-added blocks opened numbers len in omega arith in
    subst (λ m. places_at now m ≡ take (length (places_at now m)) x.keys) (sym number)
    (subst (λ ps. ps ≡ take (length ps) x.keys) (sym places) (c.requires.starts (length done) x few there))

pub put-requires-clause-room : goal.put-requires-clause-room
put-requires-clause-room g c k =
    let blocks = c.args.blocks.now.items in
    let numbers = c.args.numbers.now in
    let opened = c.args.opened.items in
    let done = c.loop-placed.yielded in
    let x = c.in-Some.placed in
    let now = c.loop-placed.blocks.items in
    let all : done ++ (x ∷ c.next.new.self.rest.items) ≡ opened = rw c.in-Some.ensures.steps.0 at c.loop-placed.invariant.rest in
    let few : length done < length opened = let n = length-append done (x ∷ c.next.new.self.rest.items) in let e = ap length all in omega arith in
    let len = c.requires.each in
    let there : get_or opened (length done) x ≡ x = subst (λ xs. get_or xs (length done) x ≡ x) all (get_or_at done x c.next.new.self.rest.items x (length done) refl) in
    let n = get_or numbers (length done) 0 in
    let number : get_or numbers c.loop-placed.place 0 ≡ n = ap (λ i. get_or numbers i 0) c.loop-placed.invariant.place in
    let stays : block_at now n ≡ block_at blocks n = next-stands blocks numbers (length done) done now (omega arith) c.requires.distinct c.loop-placed.invariant.opened in
    let places : places_at now n ≡ places_at blocks n = ap (λ (o : Option (Entry g.row.R.Denot ℕ)). unwrap_or (option_map (λ e. e.keys) o) []) stays in
    let among : Contains opened x = (length done, few, there) in
    let lists = added blocks opened numbers in
    let own : get_or lists (length done) [] ≡ drop (length (places_at blocks n)) x.keys = added-at blocks opened numbers (length done) x len few there in
    let longs : length done < length lists = let l = length-added blocks opened numbers len in omega arith in
    let eq = g.R.Key.PartialEq.eq in
    let old = c.args.postings.now in
    let next : take (length done + 1) lists ≡ take (length done) lists ++ get_or lists (length done) [] ∷ [] = take_more lists (length done) [] longs in
    let rows : (place : ℕ) → Contains (drop (length (places_at blocks n)) x.keys) place → IsSome (key_at old place) = λ place c'. (c.requires.placed x among).rows place (drop-among (length (places_at blocks n)) x.keys place c') in
    let stay : keys_at c.loop-placed.postings (drop (length (places_at blocks n)) x.keys) ≡ keys_at old (drop (length (places_at blocks n)) x.keys) = keys_at-stay old c.loop-placed.postings c.loop-placed.invariant.rows (drop (length (places_at blocks n)) x.keys) rows in
    let room = c.requires.room k in
    let before = c.loop-placed.invariant.spares k in
    let counted = count-split eq old k lists (length done) longs in
    let need : count_by (eq k) (keys_at c.loop-placed.postings (drop (length (places_at blocks n)) x.keys)) ≤ spare_of eq c.loop-placed.postings k =
    (let one : count_by (eq k) (keys_at old (drop (length (places_at blocks n)) x.keys)) ≤ spare_of eq c.loop-placed.postings k = (let same = ap (λ ps. count_by (eq k) (keys_at old ps)) own in omega arith) in
    subst (λ ks. count_by (eq k) ks ≤ spare_of eq c.loop-placed.postings k) (sym stay) one) in
    subst (λ m. count_by (eq k) (keys_at c.loop-placed.postings (drop (length (places_at now m)) x.keys)) ≤ spare_of eq c.loop-placed.postings k) (sym number)
    (subst (λ ps. count_by (eq k) (keys_at c.loop-placed.postings (drop (length ps) x.keys)) ≤ spare_of eq c.loop-placed.postings k) (sym places) need)

pub put-requires-clause-standing : goal.put-requires-clause-standing
put-requires-clause-standing g c e at =
    let blocks = c.args.blocks.now.items in
    let numbers = c.args.numbers.now in
    let opened = c.args.opened.items in
    let done = c.loop-placed.yielded in
    let x = c.in-Some.placed in
    let now = c.loop-placed.blocks.items in
    let all : done ++ (x ∷ c.next.new.self.rest.items) ≡ opened = rw c.in-Some.ensures.steps.0 at c.loop-placed.invariant.rest in
    let few : length done < length opened = let n = length-append done (x ∷ c.next.new.self.rest.items) in let e = ap length all in omega arith in
    let len = c.requires.each in
    let there : get_or opened (length done) x ≡ x = subst (λ xs. get_or xs (length done) x ≡ x) all (get_or_at done x c.next.new.self.rest.items x (length done) refl) in
    let n = get_or numbers (length done) 0 in
    let number : get_or numbers c.loop-placed.place 0 ≡ n = ap (λ i. get_or numbers i 0) c.loop-placed.invariant.place in
    let stays : block_at now n ≡ block_at blocks n = next-stands blocks numbers (length done) done now (omega arith) c.requires.distinct c.loop-placed.invariant.opened in
    let places : places_at now n ≡ places_at blocks n = ap (λ (o : Option (Entry g.row.R.Denot ℕ)). unwrap_or (option_map (λ e. e.keys) o) []) stays in
    let among : Contains opened x = (length done, few, there) in
    let lists = added blocks opened numbers in
    let own : get_or lists (length done) [] ≡ drop (length (places_at blocks n)) x.keys = added-at blocks opened numbers (length done) x len few there in
    let longs : length done < length lists = let l = length-added blocks opened numbers len in omega arith in
    placed-stays c.args.postings.now c.loop-placed.postings c.loop-placed.invariant.rows e.keys (c.requires.standing e (block-among blocks n e (sym stays ∙ subst (λ m. block_at now m ≡ Some e) number at)))

pub put-requires-clause-placed : goal.put-requires-clause-placed
put-requires-clause-placed g c =
    let blocks = c.args.blocks.now.items in
    let numbers = c.args.numbers.now in
    let opened = c.args.opened.items in
    let done = c.loop-placed.yielded in
    let x = c.in-Some.placed in
    let now = c.loop-placed.blocks.items in
    let all : done ++ (x ∷ c.next.new.self.rest.items) ≡ opened = rw c.in-Some.ensures.steps.0 at c.loop-placed.invariant.rest in
    let few : length done < length opened = let n = length-append done (x ∷ c.next.new.self.rest.items) in let e = ap length all in omega arith in
    let len = c.requires.each in
    let there : get_or opened (length done) x ≡ x = subst (λ xs. get_or xs (length done) x ≡ x) all (get_or_at done x c.next.new.self.rest.items x (length done) refl) in
    let n = get_or numbers (length done) 0 in
    let number : get_or numbers c.loop-placed.place 0 ≡ n = ap (λ i. get_or numbers i 0) c.loop-placed.invariant.place in
    let stays : block_at now n ≡ block_at blocks n = next-stands blocks numbers (length done) done now (omega arith) c.requires.distinct c.loop-placed.invariant.opened in
    let places : places_at now n ≡ places_at blocks n = ap (λ (o : Option (Entry g.row.R.Denot ℕ)). unwrap_or (option_map (λ e. e.keys) o) []) stays in
    let among : Contains opened x = (length done, few, there) in
    let lists = added blocks opened numbers in
    let own : get_or lists (length done) [] ≡ drop (length (places_at blocks n)) x.keys = added-at blocks opened numbers (length done) x len few there in
    let longs : length done < length lists = let l = length-added blocks opened numbers len in omega arith in
    placed-stays c.args.postings.now c.loop-placed.postings c.loop-placed.invariant.rows x.keys (c.requires.placed x among)

pub loop-placed-preserved : goal.loop-placed-preserved
loop-placed-preserved g c =
    let blocks = c.args.blocks.now.items in
    let numbers = c.args.numbers.now in
    let opened = c.args.opened.items in
    let done = c.loop-placed.yielded in
    let x = c.in-Some.placed in
    let now = c.loop-placed.blocks.items in
    let all : done ++ (x ∷ c.next.new.self.rest.items) ≡ opened = rw c.in-Some.ensures.steps.0 at c.loop-placed.invariant.rest in
    let few : length done < length opened = let n = length-append done (x ∷ c.next.new.self.rest.items) in let e = ap length all in omega arith in
    let len = c.requires.each in
    let there : get_or opened (length done) x ≡ x = subst (λ xs. get_or xs (length done) x ≡ x) all (get_or_at done x c.next.new.self.rest.items x (length done) refl) in
    let n = get_or numbers (length done) 0 in
    let number : get_or numbers c.loop-placed.place 0 ≡ n = ap (λ i. get_or numbers i 0) c.loop-placed.invariant.place in
    let stays : block_at now n ≡ block_at blocks n = next-stands blocks numbers (length done) done now (omega arith) c.requires.distinct c.loop-placed.invariant.opened in
    let places : places_at now n ≡ places_at blocks n = ap (λ (o : Option (Entry g.row.R.Denot ℕ)). unwrap_or (option_map (λ e. e.keys) o) []) stays in
    let among : Contains opened x = (length done, few, there) in
    let lists = added blocks opened numbers in
    let own : get_or lists (length done) [] ≡ drop (length (places_at blocks n)) x.keys = added-at blocks opened numbers (length done) x len few there in
    let longs : length done < length lists = let l = length-added blocks opened numbers len in omega arith in
    let eq = g.R.Key.PartialEq.eq in
    let old = c.args.postings.now in
    let next : take (length done + 1) lists ≡ take (length done) lists ++ get_or lists (length done) [] ∷ [] = take_more lists (length done) [] longs in
    let rows : (place : ℕ) → Contains (drop (length (places_at blocks n)) x.keys) place → IsSome (key_at old place) = λ place c'. (c.requires.placed x among).rows place (drop-among (length (places_at blocks n)) x.keys place c') in
    let stay : keys_at c.loop-placed.postings (drop (length (places_at blocks n)) x.keys) ≡ keys_at old (drop (length (places_at blocks n)) x.keys) = keys_at-stay old c.loop-placed.postings c.loop-placed.invariant.rows (drop (length (places_at blocks n)) x.keys) rows in
    let total = length-append done (x ∷ []) in
    let longer : length (done ++ x ∷ []) ≡ length done + 1 = omega arith in
    record {
      place = let e = c.loop-placed.invariant.place in omega arith;
      rest = append_assoc done (x ∷ []) c.next.new.self.rest.items ∙ all;
      opened = rw longer (opened_more blocks numbers done now c.put.new.blocks.items x (omega arith) c.requires.distinct c.loop-placed.invariant.opened
          (subst (λ m. block_at c.put.new.blocks.items m ≡ Some x) number c.put.ensures.here)
          (subst (λ m. (j : ℕ) → j ≢ m → block_at c.put.new.blocks.items j ≡ block_at now j) number c.put.ensures.others));
      posted = c.put.ensures.posted;
      spares = λ k.
          let before = c.loop-placed.invariant.spares k in
          let used : spare_of eq c.loop-placed.postings k ≤ spare_of eq c.put.new.postings k + count_by (eq k) (keys_at c.loop-placed.postings (drop (length (places_at blocks n)) x.keys)) =
          subst (λ ps. spare_of eq c.loop-placed.postings k ≤ spare_of eq c.put.new.postings k + count_by (eq k) (keys_at c.loop-placed.postings (drop (length ps) x.keys))) places
          (subst (λ m. spare_of eq c.loop-placed.postings k ≤ spare_of eq c.put.new.postings k + count_by (eq k) (keys_at c.loop-placed.postings (drop (length (places_at now m)) x.keys))) number (c.put.ensures.spares k)) in
          let used' : spare_of eq c.loop-placed.postings k ≤ spare_of eq c.put.new.postings k + count_by (eq k) (keys_at old (get_or lists (length done) [])) =
          subst (λ ps. spare_of eq c.loop-placed.postings k ≤ spare_of eq c.put.new.postings k + count_by (eq k) (keys_at old ps)) (sym own)
          (subst (λ ks. spare_of eq c.loop-placed.postings k ≤ spare_of eq c.put.new.postings k + count_by (eq k) ks) stay used) in
          let counted = count-keys eq old k (take (length done) lists) (get_or lists (length done) []) [] in
          rw (longer, next) (omega arith);
      rows = λ place k at'. c.put.ensures.rows place k (c.loop-placed.invariant.rows place k at');
      capacity = let before = c.loop-placed.invariant.capacity in let more = c.put.ensures.capacity in omega arith;
    }

pub put-requires-clause-posted : goal.put-requires-clause-posted
put-requires-clause-posted g c = c.loop-placed.invariant.posted

pub returns-clause-opened : goal.returns-clause-opened
returns-clause-opened g c =
    let done = c.loop-placed.yielded in
    let numbers = c.args.numbers.now in
    let nothing : c.loop-placed.placed-iterator.rest.items ≡ [] = nil_from_length _ (sym c.loop-placed.placed-iterator.rest.ok.0 ∙ c.in-None.ensures.steps.0) in
    let all : done ≡ c.args.opened.items = sym (append-nil done) ∙ ap (λ xs. done ++ xs) (sym nothing) ∙ c.loop-placed.invariant.rest in
    let whole : take (length done) numbers ≡ numbers = (let len = ap length all in let each = c.requires.each in take_all (length done) numbers (omega arith)) in
    subst (λ es. AreOpened c.args.blocks.now.items numbers es c.loop-placed.blocks.items) all (rw whole at c.loop-placed.invariant.opened)

pub returns-clause-posted : goal.returns-clause-posted
returns-clause-posted g c = c.loop-placed.invariant.posted

pub returns-clause-rows : goal.returns-clause-rows
returns-clause-rows g c = c.loop-placed.invariant.rows
