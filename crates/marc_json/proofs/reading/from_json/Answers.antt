use Rattle.marc_json.proofs.BackLaws.{read_back}
use Rattle.marc_json.proofs.reading.from_json.Goals as goal

pub returns-clause-back : goal.returns-clause-back
returns-clause-back c = read_back c.args.line.now c.read_line.result c.read_line.ensures.found c.read_line.ensures.refused
