use Rattle.std.proofs.Common.{◌≡◌, ◌++◌, ◌≤◌, ◌+◌, ◌*◌, ◌/◌, ◌%◌, Bor, List, length, map, get_or, take, drop, sym, ap, subst, ◌∙◌, append_assoc, append-nil, arith}
use Rattle.std.specs.Prelude.{IfOk, min}
use Rattle.std.proofs.lemmas.Grind.{div_ceil_times}
use Rattle.std.proofs.lemmas.List.{map-append, nil_from_length, take-append-drop}
use Rattle.catalogue_editions.specs.Ids.{least}
use Rattle.catalogue_editions.specs.declared.edition.Edition.{Edition}
use Rattle.record_editions.specs.EditionKeys.{work_pairs, work_key_by}
use Rattle.catalogue_export.proofs.ShareLaws.{AreShares, are-shares}
use Rattle.catalogue_export.proofs.works_text.pairs_by_workers.Goals as goal

pub loop-made-init : goal.loop-made-init
loop-made-init g c =
    let names = c.args.names.now in
    let editions = c.args.editions.now in
    let size = c.share_of-size.result in
    let parts = c.in_ok-parts.parts.items in
    let count : length parts ≡ length editions / size + min 1 (length editions % size) = omega (arith, c.in_ok-parts.ensures.len, c.in_ok-parts.parts.ok) in
    let few : length editions ≤ length parts * size = subst (λ n. length editions ≤ n * size) (sym count) (div_ceil_times (length editions) size c.share_of-size.ensures).0 in (
      editions,
      subst (λ made. AreShares size (λ es part. part.items ≡ work_pairs names (map (λ (e : Bor Edition). e.now) es)) editions made) (sym c.into_iter-made-iterator.ensures.into_iter_gives.0)
          (are-shares size (λ es part. part.items ≡ work_pairs names (map (λ (e : Bor Edition). e.now) es)) editions parts few
          (λ n d within.
          let given = (c.in_ok-parts.ensures.each n d within).1 in
          subst (λ es. IfOk (get_or parts n d) (λ part. part.items ≡ work_pairs names (map (λ (e : Bor Edition). e.now) es))) given.argument_is.value given.call)),
      ap (λ pairs. pairs ++ work_pairs names (map (λ (e : Bor Edition). e.now) editions)) c.in_ok-pairs.ensures.items,
    )

pub loop-made-preserved : goal.loop-made-preserved
loop-made-preserved g c =
    let names = c.args.names.now in
    let size = c.share_of-size.result in
    let rest = c.loop-made.invariant.0 in
    let told = λ (es : List (Bor Edition)). work_pairs names (map (λ (e : Bor Edition). e.now) es) in
    let come = subst (λ made. AreShares size (λ es part. part.items ≡ told es) rest made) c.in-Some.ensures.steps.0 c.loop-made.invariant.1 in
    let is = subst (λ made. IfOk made (λ part. part.items ≡ told (take size rest))) c.in_ok-part.was come.0 in
    let both : told (take size rest) ++ told (drop size rest) ≡ told rest =
    sym (map-append (λ (e : Edition). (work_key_by names e, least e)) (map (λ (e : Bor Edition). e.now) (take size rest)) (map (λ (e : Bor Edition). e.now) (drop size rest))
    ) ∙ ap (work_pairs names) (sym (map-append (λ (e : Bor Edition). e.now) (take size rest) (drop size rest)) ∙ ap (map (λ (e : Bor Edition). e.now)) (take-append-drop size rest)) in (
      drop size rest,
      come.1,
      ap (λ pairs. pairs ++ told (drop size rest)) (c.in_ok-append.ensures.items ∙ ap (λ more. c.loop-made.pairs.items ++ more) is)
          ∙ append_assoc c.loop-made.pairs.items (told (take size rest)) (told (drop size rest))
          ∙ ap (λ more. c.loop-made.pairs.items ++ more) both
          ∙ c.loop-made.invariant.2,
    )

pub returns : goal.returns
returns g c =
    let names = c.args.names.now in
    let none = subst (λ made. AreShares c.share_of-size.result (λ es part. part.items ≡ work_pairs names (map (λ (e : Bor Edition). e.now) es)) c.loop-made.invariant.0 made)
    (nil_from_length _ (sym c.loop-made.made-iterator.rest.ok.0 ∙ c.in-None.ensures.steps.0)) c.loop-made.invariant.1 in
    sym (append-nil c.loop-made.pairs.items)
    ∙ ap (λ rest. c.loop-made.pairs.items ++ work_pairs names (map (λ (e : Bor Edition). e.now) rest)) (sym none)
    ∙ c.loop-made.invariant.2
