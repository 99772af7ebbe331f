use Rattle.std.proofs.Common.{◌≡◌, ◌≤◌, ◌++◌, length, sym, subst, ap, ◌∙◌, arith}
use Rattle.catalogue_export.specs.Editions.{edition_text}
use Rattle.union_trial.proofs.SizeLaws.{edition-size}
use Rattle.union_trial.proofs.measuring.record_size.Goals as goal

pub returns-clause-bound : goal.returns-clause-bound
returns-clause-bound c =
    let own = edition_text c.args.catalogue.now.names c.args.edition.now in
    let text : c.append_edition.new.into.items ≡ own = (rw c.names.ensures at c.in_ok-append_edition.ensures.text) ∙ ap (λ front. front ++ own) c.clear.ensures.items in
    let few : length c.append_edition.new.into.items ≤ 99999 = subst (λ t. length t ≤ 99999) (sym text) (edition-size c.args.catalogue.now.names c.args.edition.now) in
    grind (arith, c.len.ensures, few, c.append_edition.new.into.ok)
