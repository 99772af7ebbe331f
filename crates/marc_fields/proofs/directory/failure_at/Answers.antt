use Rattle.std.proofs.Common.{sym}
use Rattle.marc_fields.proofs.DirectoryLaws.{failure-digits, failure-tag}
use Rattle.marc_fields.proofs.directory.failure_at.Goals as goal

pub returns-in-Digits : goal.returns-in-Digits
returns-in-Digits c = failure-digits c.args.before c.args.count c.args.directory.now c.requires.some (rw c.in-Digits.is at c.requires.rule)

pub returns-in-None : goal.returns-in-None
returns-in-None c = failure-tag c.args.before c.args.count c.args.directory.now c.requires.some (rw c.in-Tag.is at c.requires.rule) (sym c.in-None.ensures)
