use Rattle.std.proofs.Common.{◌++◌, ap, ◌∙◌}
use Rattle.std.specs.Prelude.{length, nat_lt}
use Rattle.names_file.specs.NamesFiles.{lines_from, taken_from, counts_line}
use Rattle.names_file.proofs.reading.Reading.finish.Goals as goal

pub returns : goal.returns
returns c =
    λ all read.
    let tally = c.args.self.tally in
    let pairs = c.pairs.result in
    record {
      judged = read.judged;
      table_is = read.table_is;
      pairs = pairs;
      size = c.pairs.ensures.means (taken_from all) read.table_is;
      told =
          c.in_ok-add_counts.ensures ∙ ap (λ lines. lines ++ counts_line tally.frames pairs tally.refused) read.tallied.lines
          ∙ ap (λ n. lines_from 1 all ++ counts_line n pairs tally.refused) read.tallied.frames
          ∙ ap (λ n. lines_from 1 all ++ counts_line (length all) pairs n) read.tallied.refused;
      refused = ap (nat_lt 0) read.tallied.refused;
    }
