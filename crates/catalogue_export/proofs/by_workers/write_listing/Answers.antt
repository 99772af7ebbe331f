use Rattle.std.proofs.Common.{◌∙◌, arith}
use Rattle.catalogue_export.proofs.WritingLaws.{taken-back}
use Rattle.catalogue_export.proofs.by_workers.write_listing.Goals as goal

pub returns-in-Err-clause-unchanged : goal.returns-in-Err-clause-unchanged
returns-in-Err-clause-unchanged g c =
    c.truncate.ensures.items
    ∙ taken-back c.len-had.result c.args.left.now.items c.write_by_workers.new.left.items _ (omega (arith, c.len-had.ensures, c.args.left.now.ok)) c.in-Err.ensures.stopped
