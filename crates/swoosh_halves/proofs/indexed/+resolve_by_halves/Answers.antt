use Rattle.std.proofs.Common.{◌≡◌, ◌++◌, subst, ap₂, ◌∙◌}
use Rattle.std.proofs.lemmas.List.{take-append-drop}
use Rattle.std.proofs.lemmas.Result.{IfOk-weaker}
use Rattle.merge_laws.specs.Resolution.{IsResolution}
use Rattle.swoosh_halves.proofs.indexed.+resolve_by_halves.Goals as goal

-- no two blocks of a half match
pub resolve_together-requires-clause-one : goal.resolve_together-requires-clause-one
resolve_together-requires-clause-one g t c = c.resolution_is_apart.ensures c.split_off.new.self.items c.in_ok-one.one.items c.in_ok-one.ensures

pub resolve_together-requires-clause-other : goal.resolve_together-requires-clause-other
resolve_together-requires-clause-other g t c = c.resolution_is_apart.ensures c.in_ok-back.back.items c.in_ok-other.other.items c.in_ok-other.ensures

-- what the blocks of the halves resolve to, the list does
pub returns : goal.returns
returns g t c =
    let match = g.R.Resolvable.meets in
    let merge = g.R.Join.join in
    let list = c.args.list.items in
    let front = c.split_off.new.self.items in
    let back = c.in_ok-back.back.items in
    let one = c.in_ok-one.one.items in
    let other = c.in_ok-other.other.items in
    let whole : front ++ back ≡ list = ap₂ ◌++◌ c.in_ok-back.ensures.items c.in_ok-back.ensures.tail ∙ take-append-drop _ list in
    IfOk-weaker c.resolve_together.result (λ all. IsResolution match merge (one ++ other) all.items) (λ all. IsResolution match merge list all.items)
    (λ all blocks. subst (λ l. IsResolution match merge l all.items) whole
    (c.resolution_goes_on.ensures.with_list front back one other all.items c.in_ok-one.ensures c.in_ok-other.ensures blocks))
    c.resolve_together.ensures
