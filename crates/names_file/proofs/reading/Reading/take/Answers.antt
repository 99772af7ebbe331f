use Rattle.std.proofs.Common.{None, Some, refl, subst}
use Rattle.names_file.specs.Judging.{Judged, IsJudged}
use Rattle.names_file.proofs.TallyLaws.{reading_more}
use Rattle.names_file.proofs.reading.Reading.take.Goals as goal

pub returns-in_ok-refuse-in-Some-clause-read : goal.returns-in_ok-refuse-in-Some-clause-read
returns-in_ok-refuse-in-Some-clause-read c =
    λ all before.
    let took = c.in_ok-fault.ensures in
    let one : Judged = record { frame = (c.args.cut, c.args.frame.now); fault = Some c.in-Some.fault; taken = took.0 } in
    let judged : IsJudged (c.args.cut, c.args.frame.now) (Some c.in-Some.fault) took.0
    = subst (λ fault. IsJudged (c.args.cut, c.args.frame.now) fault took.0) c.in-Some.is took.1 in (
      one,
      refl,
      reading_more all one c.args.self.now.table c.take_frame.new.table c.args.self.now.tally c.refuse.new.self before judged took.2
          (c.in_ok-refuse-in-Some.ensures.counted one refl all before.tallied),
    )

pub returns-in-None-clause-read : goal.returns-in-None-clause-read
returns-in-None-clause-read c =
    λ all before.
    let took = c.in_ok-fault.ensures in
    let one : Judged = record { frame = (c.args.cut, c.args.frame.now); fault = None; taken = took.0 } in
    let judged : IsJudged (c.args.cut, c.args.frame.now) None took.0
    = subst (λ fault. IsJudged (c.args.cut, c.args.frame.now) fault took.0) c.in-None.is took.1 in (
      one,
      refl,
      reading_more all one c.args.self.now.table c.take_frame.new.table c.args.self.now.tally c.accept.new.self before judged took.2
          (c.accept.ensures.counted one refl all before.tallied),
    )
