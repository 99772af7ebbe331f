use Rattle.std.proofs.Common.{◌≡◌, [], ◌++◌, length, ap, subst, ◌∙◌}
use Rattle.std.specs.Prelude.{nat_lt}
use Rattle.catalogue_core.specs.Histories.{current}
use Rattle.iso2709_frame.specs.Frames.{frames}
use Rattle.library_batches.specs.Batches.{AreBatches}
use Rattle.library_batches.specs.Outcomes.{found_in}
use Rattle.library_batches.specs.Reports.{report_text}
use Rattle.union_files.proofs.SourceLaws.{on_told}
use Rattle.union_script.proofs.BatchLaws.{some_of}
use Rattle.union_script.proofs.loading.load_source.Goals as goal

pub returns-clause-reads : goal.returns-clause-reads
returns-clause-reads g c =
    let library = c.args.library.now in
    let history = c.args.union.now.catalogue.history in
    let own : c.in_ok-reader.reader.library ≡ library = ap (λ reader. reader.library) c.in_ok-reader.ensures in (
      c.in_ok-applied.ensures.reads.0,
      on_told (g.S.Source.left c.args.source.now)
          (λ bytes read. (
            read.0,
            record {
              loads = record {
                batches = read.1.batches;
                read = subst (λ code. AreBatches [] code (frames bytes) read.1.batches) own read.1.read;
                notices = c.in_ok-applied.applied.notices.items;
                tells = read.1.tells;
                report =
                    c.in_ok-add_report.ensures.told (frames bytes) (found_in (current history) read.1.batches) (c.frames.ensures ∙ read.1.frames)
                    (c.refused-refused.ensures ∙ read.1.refused) read.1.counted
                    ∙ ap (λ code. c.in_ok-applied.applied.notices.items ++ report_text code (frames bytes) (found_in (current history) read.1.batches)) c.bytes.ensures.value;
                applied = read.1.applied;
              };
              refused = some_of (length c.refused-refused.result.now) c.is_empty.result c.is_empty.ensures ∙ ap (λ xs. nat_lt 0 (length xs)) (c.refused-refused.ensures ∙ read.1.refused);
            },
          ))
          c.in_ok-applied.ensures.reads.1,
    )
