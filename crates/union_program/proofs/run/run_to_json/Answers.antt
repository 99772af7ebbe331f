use Rattle.union_json.specs.ToJson.{IsToJson}
use Rattle.union_program.proofs.JsonLaws.{ended_run, ended_noted}
use Rattle.union_program.proofs.run.run_to_json.Goals as goal

pub returns-clause-run : goal.returns-clause-run
returns-clause-run g c =
    ended_run g.N.Sink.written g.N.Sink.faults c.args.file.now.library (IsToJson c.args.file.now.library) _ _ c.args.notes.now c.to_json_file-status.new.notes c.end.new.notes
    c.to_json_file-status.result c.end.result c.end.ensures.same c.to_json_file-status.ensures.run c.end.ensures.still

pub returns-clause-noted : goal.returns-clause-noted
returns-clause-noted g c =
    ended_noted g.N.Sink.written g.N.Sink.faults c.args.notes.now c.to_json_file-status.new.notes c.end.new.notes c.to_json_file-status.result c.end.result
    c.end.ensures.same c.to_json_file-status.ensures.quiet c.end.ensures.noted
