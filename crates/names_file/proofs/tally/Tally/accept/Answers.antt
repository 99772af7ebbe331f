use Rattle.std.proofs.Common.{◌+◌, sym, ap, ◌∙◌}
use Rattle.std.proofs.lemmas.List.{length_push}
use Rattle.names_file.proofs.TallyLaws.{count_read, lines_read}
use Rattle.names_file.proofs.tally.Tally.accept.Goals as goal

pub returns-clause-counted : goal.returns-clause-counted
returns-clause-counted c =
    λ one none all before.
    record {
      frames = ap (λ n. n + 1) before.frames ∙ sym (length_push all one);
      refused = before.refused ∙ sym (count_read all one none);
      lines = before.lines ∙ sym (lines_read all one none);
    }
