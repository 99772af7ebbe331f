use Rattle.std.proofs.Common.{◌≡◌, ◌∙◌, Option, None, refl, inl, inr}
use Rattle.std.specs.Prelude.{◌⊎◌}
use Rattle.swoosh_resolver.specs.Tables.{Base}
use Rattle.swoosh_resolver.proofs.change.Change.with_last.Goals as goal

pub returns : goal.returns
returns g c =
    let (last, items, value, base) = c.in_ok-opened.ensures in (
      refl,
      (last, items, value ∙ c.in_ok-keyed.ensures.value, elim c.in_ok-keyed.ensures.base as (λ _. (last.base ≡ None) ⊎ (last.base ≡ c.args.value.base)) [ inl none ↦ inl (base ∙ none) | inr its ↦ inr (base ∙ its) ]),
    )
