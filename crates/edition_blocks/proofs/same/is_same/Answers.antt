use Rattle.std.proofs.Common.{◌≡◌, true, false, refl, ap, sym, ◌∙◌}
use Rattle.catalogue_editions.specs.Equal.{same_editions}
use Rattle.catalogue_editions.specs.declared.edition.Edition.{Edition}
use Rattle.edition_blocks.proofs.same.is_same.Goals as goal

pub returns-then-not-are_same_lists : goal.returns-then-not-are_same_lists
returns-then-not-are_same_lists c = (
  λ h. cc,
  λ e. (let clash : false ≡ true = c.if-not-are_same_lists.ensures.1
      (c.contributors.ensures ∙ ap (λ (x : Edition). x.content.contributors) e ∙ sym c.contributors-2.ensures) in cc),
)

pub returns-then-not-are_same_features : goal.returns-then-not-are_same_features
returns-then-not-are_same_features c = (
  λ h. cc,
  λ e. (let clash : false ≡ true = c.if-not-are_same_features.ensures.1
      (c.features.ensures ∙ ap (λ (x : Edition). x.features) e ∙ sym c.features-2.ensures) in cc),
)

pub returns : goal.returns
returns c =
    let one = c.content-3.ensures.value ∙ c.in_ok-shown.ensures in
    let other = c.content-4.ensures.value ∙ c.in_ok-beside.ensures in (
      λ h. same_editions c.args.one.now c.args.other.now
          (sym c.features.ensures ∙ c.if-not-are_same_features.ensures.0 refl ∙ c.features-2.ensures)
          (sym one ∙ c.are_same_contents.ensures.0 h ∙ other),
      λ e. c.are_same_contents.ensures.1 (one ∙ ap (λ (x : Edition). x.content) e ∙ sym other),
    )
