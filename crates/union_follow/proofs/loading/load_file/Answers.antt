use Rattle.std.proofs.Common.{◌≡◌, ◌++◌, ◌||◌, [], length, ap, subst, sym, ◌∙◌}
use Rattle.std.specs.Prelude.{nat_lt}
use Rattle.iso2709_frame.specs.Frames.{frames}
use Rattle.library_batches.specs.Batches.{AreBatches}
use Rattle.library_batches.specs.Outcomes.{AreCounted}
use Rattle.catalogue_core.specs.Entries.{entries_of}
use Rattle.library_batches.specs.Tallies.{found as found_under}
use Rattle.library_batches.specs.Reports.{report_text}
use Rattle.union_files.proofs.SourceLaws.{on_told}
use Rattle.union_files.specs.declared.reports.Reports.{Reports}
use Rattle.union_follow.proofs.loading.load_file.Goals as goal

pub returns-in-Ok-clause-reads : goal.returns-in-Ok-clause-reads
returns-in-Ok-clause-reads g c =
    let library = c.args.file.now.library in
    let own : c.in_ok-reader.reader.library ≡ library = ap (λ reader. reader.library) c.in_ok-reader.ensures in
    let reports = c.in_ok-counts.ensures.reports in (
      c.in_ok-counts.ensures.reads.0,
      on_told (g.S.Source.left c.args.file.now.source)
          (λ bytes read. (
            read.0,
            (let found = found_under (entries_of c.load_batches.new.load.catalogue.history) c.args.pass in
                let counted = subst (AreCounted found) (sym c.report_of-report.ensures.counts) read.1.counted in
                let frames_are = c.report_of-report.ensures.frames ∙ read.1.frames in
                let refused_are = c.report_of-report.ensures.refused ∙ read.1.refused in
                record {
                  batches = read.1.batches;
                  read = subst (λ code. AreBatches [] code (frames bytes) read.1.batches) own read.1.read;
                  applied = read.1.applied;
                  text = c.in-Ok.ensures.text (frames bytes) found frames_are refused_are counted
                      ∙ ap (λ (r : Reports). r.text.items ++ report_text library (frames bytes) found) reports;
                  refused = c.in-Ok.ensures.refused ∙ (ap (λ r. r.refused || nat_lt 0 (length c.report_of-report.result.refused.items)) reports
                      ∙ ap (λ xs. c.args.load.now.reports.refused || nat_lt 0 (length xs)) refused_are);
                }),
          ))
          c.in_ok-counts.ensures.reads.1,
    )
