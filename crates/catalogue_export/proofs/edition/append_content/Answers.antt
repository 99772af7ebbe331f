use Rattle.std.proofs.Math.Seq.{take-length}
use Rattle.marc_fields.proofs.AppendingLaws.{Appends-refused}
use Rattle.catalogue_export.specs.Exported.{edition_bytes}
use Rattle.catalogue_export.proofs.SoundLaws.{parts-short}
use Rattle.catalogue_export.proofs.edition.append_content.Goals as goal

pub append_kept-requires : goal.append_kept-requires
append_kept-requires c = rw (c.in_ok-all.ensures, c.in_ok-own.ensures) (parts-short c.args.content.now c.fixed.ensures.sound c.args.key.now)

pub returns-in_err-all-clause-text : goal.returns-in_err-all-clause-text
returns-in_err-all-clause-text c =
    let old = c.args.into.now.items in
    Appends-refused c.from_residual-in_err-all.result old old (edition_bytes c.args.content.now c.args.key.now)
    c.from_residual-in_err-all.ensures.0 (take-length old)
