use Rattle.std.proofs.Common.{◌≡◌, ◌∙◌, refl, ap, ap₂, sym}
use Rattle.std.proofs.lemmas.Result.{IfOk-weaker}
use Rattle.field_merge.specs.Merging.{join}
use Rattle.catalogue_editions.specs.Borrowed.{contents_of}
use Rattle.catalogue_editions.specs.Sound.{is_sound}
use Rattle.catalogue_editions.specs.SoundLaws.{sound-join}
use Rattle.catalogue_editions.specs.Joined.{joined_all}
use Rattle.catalogue_editions.proofs.JoinedLaws.{joined-both, halves-of}
use Rattle.catalogue_editions.proofs.contents.+merged_by_halves.Goals as goal

pub of-requires : goal.of-requires
of-requires t c =
    ap is_sound (c.in_ok-joined-in-Some.ensures ∙ ap₂ join c.content.ensures.value c.content-in-Some.ensures.value)
    ∙ sound-join c.in_ok-one-in-Some.one c.in_ok-other-in-Some.other c.content.ensures.sound c.content-in-Some.ensures.sound

pub returns-in_ok-joined-in-Some : goal.returns-in_ok-joined-in-Some
returns-in_ok-joined-in-Some t c =
    let first = c.args.first.now in
    let behind = c.args.behind.now in
    let left = c.split_at.result.0.now in
    let middle = c.in-Some.middle.now in
    let rest = c.in-Some.rest.now in
    let whole = halves-of behind left middle rest c.split_at.ensures.by_index.0 c.in-Some.ensures.cases.0 in
    let merge = joined-both first first (contents_of left) middle.now (contents_of rest) (contents_of behind)
    c.in_ok-one-in-Some.one c.in_ok-other-in-Some.other refl whole (sym c.in_ok-one-in-Some.ensures) (sym c.in_ok-other-in-Some.ensures) in
    IfOk-weaker c.of.result _ (λ merge. merge ≡ joined_all first (contents_of behind))
    (λ _ made. made ∙ c.in_ok-joined-in-Some.ensures ∙ ap₂ join c.content.ensures.value c.content-in-Some.ensures.value ∙ sym merge) c.of.ensures
