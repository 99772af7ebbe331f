use Rattle.std.proofs.Common.{[], ◌++◌, sym, ap, ◌∙◌}
use Rattle.std.specs.Option.{option_copied, option_map_or}
use Rattle.catalogue_core.specs.Histories.{current}
use Rattle.catalogue_query.specs.Answers.{told}
use Rattle.catalogue_query.proofs.TellingLaws.{told-holder}
use Rattle.catalogue_query.proofs.answering.lines_of_holder.Goals as goal
use Rattle.catalogue_query.proofs.answering.lines_of_holder.Goals.{in-Some+in_ok-add_told, in_default}

pub returns : goal.returns
returns c =
    let found = c.holder.ensures.holder in
    let says = told c.args.catalogue.now.names c.args.query.now (current c.args.catalogue.now.history) in
    let all = told-holder says c.args.catalogue.now.history found.0 c.args.id.now (option_copied c.holder.result) found.1 found.2 in (
      found.0,
      found.1,
      elim c.match-holder.branch [
        | in-Some+in_ok-add_told w ↦
            rw w.lines-is (w.in_ok-add_told.ensures ∙ ap (λ l. l ++ says w.in-Some.edition.now) c.new-lines.ensures.items
            ∙ sym (ap (λ o. option_map_or says (option_copied o) []) w.in-Some.is) ∙ all)
        | in_default w ↦
            rw w.lines-is (c.new-lines.ensures.items ∙ sym (ap (λ o. option_map_or says (option_copied o) []) w.in_default.is) ∙ all)
      ],
    )
