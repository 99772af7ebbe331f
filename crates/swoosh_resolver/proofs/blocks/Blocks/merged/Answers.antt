use Rattle.std.proofs.Common.{◌≡◌, Option, sym, ◌∙◌, subst, inl, inr}
use Rattle.std.specs.Prelude.{IfSome}
use Rattle.swoosh_resolver.specs.Tables.{Base, Entry}
use Rattle.swoosh_resolver.proofs.Standing.{absorbs-left, absorbs-right}
use Rattle.swoosh_resolver.proofs.blocks.Blocks.merged.Goals as goal

pub merged-requires : goal.merged-requires
merged-requires g c =
    let join = g.R.Join.join in
    let other = c.args.other.now in
    let value = c.args.value.now.value in
    let absorbs : IfSome c.args.value.now.base (λ b. join b.value value ≡ value) =
    subst (λ (e : Entry g.row.R.Denot g.row.R-Key.Denot). IfSome e.base (λ b. join b.value e.value ≡ e.value)) c.value.view_is c.value.invariant.2 in
    elim c.larger-standing.ensures as (λ _. IfSome c.larger-standing.result (λ b. join b.value (join other value) ≡ join other value)) [
      | inl new ↦ subst (λ (o : Option (Base g.row.R.Denot)). IfSome o (λ b. join b.value (join other value) ≡ join other value)) (sym new) (absorbs-left g.met.R.Join.join_laws c.args.standing other value c.requires)
      | inr old ↦ subst (λ (o : Option (Base g.row.R.Denot)). IfSome o (λ b. join b.value (join other value) ≡ join other value)) (sym (old ∙ c.in_ok-before.ensures)) (absorbs-right g.met.R.Join.join_laws c.args.value.now.base other value absorbs)
    ]
