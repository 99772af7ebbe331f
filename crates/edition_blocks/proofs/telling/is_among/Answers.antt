use Rattle.std.proofs.Common.{◌≡◌, Bor, sym, ap, ◌∙◌, rules}
use Rattle.std.specs.declared.cmp.Ordering.TheVariants.{Equal}
use Rattle.std.proofs.lemmas.Fn.{always_returns_same}
use Rattle.std.proofs.lemmas.Result.{IfOk-weaker}
use Rattle.catalogue_editions.specs.Ids.{edition_cmp}
use Rattle.catalogue_editions.specs.declared.edition.Edition.{Edition}
use Rattle.edition_blocks.proofs.AmongLaws.{tied-seen, standing-seen, missing-seen}
use Rattle.edition_blocks.proofs.telling.is_among.Goals as goal

pub returns-in-Ok : goal.returns-in-Ok
returns-in-Ok c =
    let es = c.args.editions.now in
    let e = c.args.edition.now in
    let d = c.index-editions-place.result in
    let tie = c.in-Ok.ensures.position (λ (y : Bor Edition). edition_cmp y.now e) (always_returns_same _ _ _ (λ a r f k. (search rules, search rules))) d in
    IfOk-weaker c.is_same.result _ _ (λ same is. (
      λ h. standing-seen es c.requires e c.in-Ok.place d c.in-Ok.ensures.bound (ap (λ (x : Bor Edition). x.now) (sym c.index-editions-place.is) ∙ is.0 h),
      λ h. is.1 (ap (λ (x : Bor Edition). x.now) c.index-editions-place.is ∙ tied-seen es c.requires e c.in-Ok.place d c.in-Ok.ensures.bound tie h),
    )) c.is_same.ensures

pub returns-in-Err : goal.returns-in-Err
returns-in-Err c = (
  λ h. cc,
  λ h. absurd (missing-seen c.args.editions.now c.requires c.args.edition.now c.in-Err.field-0
      (c.in-Err.ensures.position (λ (y : Bor Edition). edition_cmp y.now c.args.edition.now) (always_returns_same _ _ _ (λ a r f k. (search rules, search rules)))) h),
)
