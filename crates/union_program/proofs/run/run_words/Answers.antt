use Rattle.std.proofs.Common.{rules}
use Rattle.union_program.proofs.JobLaws.{has_none, has_read}
use Rattle.union_program.proofs.run.run_words.Goals as goal

pub returns-in-Some-Check-clause-has : goal.returns-in-Some-Check-clause-has
returns-in-Some-Check-clause-has g c = has_read c.read.ensures c.in-Some-Check.is (search rules)

pub returns-in-Some-ToJson-clause-has : goal.returns-in-Some-ToJson-clause-has
returns-in-Some-ToJson-clause-has g c = has_read c.read.ensures c.in-Some-ToJson.is (search rules)

pub returns-in-Some-FromJson-clause-has : goal.returns-in-Some-FromJson-clause-has
returns-in-Some-FromJson-clause-has g c = has_read c.read.ensures c.in-Some-FromJson.is (search rules)

pub returns-in-Some-Export-clause-has : goal.returns-in-Some-Export-clause-has
returns-in-Some-Export-clause-has g c = has_read c.read.ensures c.in-Some-Export.is (search rules)

pub returns-in-Some-Works-clause-has : goal.returns-in-Some-Works-clause-has
returns-in-Some-Works-clause-has g c = has_read c.read.ensures c.in-Some-Works.is (search rules)

pub returns-in-Some-Watch-clause-has : goal.returns-in-Some-Watch-clause-has
returns-in-Some-Watch-clause-has g c = has_read c.read.ensures c.in-Some-Watch.is (search rules)

pub returns-in-Some-Follow-clause-has : goal.returns-in-Some-Follow-clause-has
returns-in-Some-Follow-clause-has g c = has_read c.read.ensures c.in-Some-Follow.is (search rules)

pub returns-in-Some-Script-clause-has : goal.returns-in-Some-Script-clause-has
returns-in-Some-Script-clause-has g c = has_read c.read.ensures c.in-Some-Script.is (search rules)

pub returns-in-Some-Trial-clause-has : goal.returns-in-Some-Trial-clause-has
returns-in-Some-Trial-clause-has g c = has_read c.read.ensures c.in-Some-Trial.is (search rules)

pub returns-in-Some-Help-clause-has : goal.returns-in-Some-Help-clause-has
returns-in-Some-Help-clause-has g c = has_read c.read.ensures c.in-Some-Help.is (search rules)

pub returns-in-Some-Version-clause-has : goal.returns-in-Some-Version-clause-has
returns-in-Some-Version-clause-has g c = has_read c.read.ensures c.in-Some-Version.is (search rules)

pub returns-in-None-clause-has : goal.returns-in-None-clause-has
returns-in-None-clause-has g c = has_none c.read.ensures c.in-None.is (search rules)
