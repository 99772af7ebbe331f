use Rattle.std.proofs.Common.{◌+◌, ◌++◌, sym, ap, ◌∙◌}
use Rattle.std.proofs.lemmas.List.{length_push}
use Rattle.names_file.specs.NamesFiles.{refused_line}
use Rattle.names_file.proofs.TallyLaws.{count_refused, lines_refused}
use Rattle.names_file.proofs.tally.Tally.refuse.Goals as goal

pub returns-clause-counted : goal.returns-clause-counted
returns-clause-counted c =
    λ one is all before.
    let number = c.args.self.now.frames + 1 in
    record {
      frames = ap (λ n. n + 1) before.frames ∙ sym (length_push all one);
      refused = ap (λ n. n + 1) before.refused ∙ sym (count_refused all one c.args.fault is);
      lines = c.in_ok-add_refused.ensures ∙ ap (λ lines. lines ++ refused_line number c.args.fault) before.lines
          ∙ sym (lines_refused all one c.args.fault number (ap (λ n. n + 1) before.frames) is);
    }
