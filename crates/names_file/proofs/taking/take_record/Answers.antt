use Rattle.std.proofs.Common.{None, refl, sym, subst}
use Rattle.authority_names.specs.Records.{taken_of}
use Rattle.names_file.specs.Judging.{IsRecordJudged}
use Rattle.names_file.proofs.taking.take_record.Goals as goal

pub returns-in-Ok : goal.returns-in-Ok
returns-in-Ok c =
    let r = c.args.rec.now in
    (taken_of r, subst (λ refusal. IsRecordJudged refusal r None (taken_of r)) (sym c.in-Ok.ensures.answer.0) (refl, refl), c.in-Ok.ensures.added)
