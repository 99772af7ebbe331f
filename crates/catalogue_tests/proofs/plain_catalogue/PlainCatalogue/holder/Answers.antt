use Rattle.std.proofs.Common.{sym, ap, ◌∙◌}
use Rattle.std.specs.Prelude.{is_none, not}
use Rattle.catalogue_core.specs.Histories.{is_current, current}
use Rattle.catalogue_core.specs.Walks.{holder_of}
use Rattle.catalogue_core.proofs.Looking.{none-copied, holder-current}
use Rattle.catalogue_tests.proofs.plain_catalogue.PlainCatalogue.holder.Goals as goal

pub returns-clause-none : goal.returns-clause-none
returns-clause-none c =
    let id = c.args.id.now in
    let editions = c.self.inside.editions.items in
    sym (none-copied c.holder_in.result)
    ∙ ap is_none (c.holder_in.ensures ∙ ap (λ es. holder_of es id) c.deref.ensures.value)
    ∙ holder-current c.self.inside.history.items editions c.self.invariant.1 id
    ∙ ap (λ turns. not (is_current (current turns) id)) c.self.view_is
