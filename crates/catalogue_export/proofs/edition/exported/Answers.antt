use Rattle.catalogue_export.proofs.SoundLaws.{parts-short}
use Rattle.catalogue_export.proofs.edition.exported.Goals as goal

pub kept_record-requires : goal.kept_record-requires
kept_record-requires c = rw (c.in_ok-all.ensures, c.in_ok-own.ensures) (parts-short c.args.content.now c.fixed.ensures.sound c.args.key.now)
