use Rattle.std.proofs.Common.{◌++◌, ◌∷◌, [], take, ◌∙◌, sym, ap}
use Rattle.std.proofs.lemmas.List.{take_more}
use Rattle.edition_doubts.specs.Groups.{gathered}
use Rattle.edition_doubts.proofs.groups.gathered.Goals as goal

pub loop-rec-preserved : goal.loop-rec-preserved
loop-rec-preserved c =
    let records = c.args.records.now in
    let editions = c.args.editions.now in
    let i = c.loop-rec.rec-index in
    let rec = c.rec-item.result in
    let within = c.loop-rec-test.true in
    c.in_ok-add_member.ensures records (take i records) c.requires (i, within, sym c.rec-item.is) c.loop-rec.invariant
    ∙ sym
    (ap (λ some. gathered some editions) (take_more records i rec within ∙ ap (λ x. take i records ++ x ∷ []) (sym c.rec-item.is)))
