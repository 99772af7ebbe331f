use Rattle.std.proofs.Common.{◌≡◌, ℕ, ◌<◌, length, get_or, rules, ◌∙◌, ap, arith}
use Rattle.std.specs.Prelude.{slice_index}
use Rattle.std.proofs.lemmas.List.{get_or_default, length-set}
use Rattle.std.proofs.lemmas.List.Edits.{map_over_more}
use Rattle.std.proofs.lemmas.List.Elements.{Contains-get_or}
use Rattle.swoosh_resolver.proofs.Moving.{over-at}
use Rattle.swoosh_resolver.proofs.install.moved_places.Goals as goal

pub bounds-rows-index : goal.bounds-rows-index
bounds-rows-index c =
    let f : ℕ → ℕ = λ place. slice_index c.args.rows.now place in
    let xs = c.args.places.items in
    let ys = c.loop-i.places.items in
    let i = c.loop-i.i in
    let x = c.index.result.now in
    let len : length ys ≡ length xs = c.loop-i.invariant.len in
    let within : i < length xs = let e = c.len-i-end.ensures in let t = c.loop-i-test.true in omega (arith, c.args.places.ok) in
    let is : x ≡ get_or ys i x = search rules in
    let same : x ≡ get_or xs i 0 = is ∙ get_or_default ys i x 0 (omega arith) ∙ ap (λ l. get_or l i 0) c.loop-i.invariant.done ∙ over-at f xs i within in
    let less : x < length c.args.rows.now = rw same (c.requires (get_or xs i 0) (Contains-get_or xs i 0 within)) in
    less

pub offset_bounds-rows-index : goal.offset_bounds-rows-index
offset_bounds-rows-index c =
    let f : ℕ → ℕ = λ place. slice_index c.args.rows.now place in
    let xs = c.args.places.items in
    let ys = c.loop-i.places.items in
    let i = c.loop-i.i in
    let x = c.index.result.now in
    let len : length ys ≡ length xs = c.loop-i.invariant.len in
    let within : i < length xs = let e = c.len-i-end.ensures in let t = c.loop-i-test.true in omega (arith, c.args.places.ok) in
    let is : x ≡ get_or ys i x = search rules in
    let same : x ≡ get_or xs i 0 = is ∙ get_or_default ys i x 0 (omega arith) ∙ ap (λ l. get_or l i 0) c.loop-i.invariant.done ∙ over-at f xs i within in
    let less : x < length c.args.rows.now = rw same (c.requires (get_or xs i 0) (Contains-get_or xs i 0 within)) in
    search (rules, less)

pub loop-i-preserved : goal.loop-i-preserved
loop-i-preserved c =
    let f : ℕ → ℕ = λ place. slice_index c.args.rows.now place in
    let xs = c.args.places.items in
    let ys = c.loop-i.places.items in
    let i = c.loop-i.i in
    let x = c.index.result.now in
    let len : length ys ≡ length xs = c.loop-i.invariant.len in
    let within : i < length xs = let e = c.len-i-end.ensures in let t = c.loop-i-test.true in omega (arith, c.args.places.ok) in
    let is : x ≡ get_or ys i x = search rules in
    record {
      len = length-set ys i (f x) ∙ len;
      done = map_over_more f xs ys i x within c.loop-i.invariant.done is;
    }
