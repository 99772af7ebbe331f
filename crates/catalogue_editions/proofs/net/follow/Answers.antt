use Rattle.std.proofs.Common.{sym, ap, ◌∙◌}
use Rattle.std.specs.BTreeMap.{is_at, insert_entry}
use Rattle.std.specs.Map.{remove_entry}
use Rattle.union_base.specs.RecordIds.{id_cmp}
use Rattle.catalogue_editions.specs.CurrentRecords.{after_op}
use Rattle.catalogue_editions.proofs.net.follow.Goals as goal

pub returns-in_ok-insert-in-Load : goal.returns-in_ok-insert-in-Load
returns-in_ok-insert-in-Load c =
    let all = c.args.editions.now.entries in
    c.in_ok-insert-in-Load.ensures.entries
    ∙ ap (λ id. insert_entry id_cmp all id c.in_ok-copied-in-Load.field-0) (c.in_ok-id-in-Load.ensures ∙ c.least.ensures)
    ∙ ap (insert_entry id_cmp all _) c.in_ok-copied-in-Load.ensures
    ∙ ap (after_op c.args.library.now all) (sym c.in-Load.is)

pub returns-in_ok-copied-in-Withdraw : goal.returns-in_ok-copied-in-Withdraw
returns-in_ok-copied-in-Withdraw c =
    let library = c.args.library.now in
    let all = c.args.editions.now.entries in
    c.remove.ensures.entries
    ∙ ap (λ number. remove_entry (is_at (id_cmp (record { library = library; control = number }))) all) c.in_ok-copied-in-Withdraw.ensures
    ∙ ap (after_op library all) (sym c.in-Withdraw.is)
