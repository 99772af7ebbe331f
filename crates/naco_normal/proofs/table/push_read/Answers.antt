use Rattle.std.proofs.Common.{◌++◌, sym, ap, ◌∙◌, append-nil}
use Rattle.naco_normal.proofs.TableLemmas.{leaves_letter, leaves_none}
use Rattle.naco_normal.proofs.table.push_read.Goals as goal

pub returns-in_ok-push : goal.returns-in_ok-push
returns-in_ok-push c =
    c.in_ok-push.ensures.items ∙ ap (λ l. c.args.read.now.items ++ l) (sym (leaves_letter c.args.c c.requires c.if-letter-eq-SEVERAL.false c.if-letter-ne-DELETED.true))

pub returns-else-letter-ne-DELETED : goal.returns-else-letter-ne-DELETED
returns-else-letter-ne-DELETED c =
    sym (ap (λ l. c.args.read.now.items ++ l) (leaves_none c.args.c c.requires c.if-letter-eq-SEVERAL.false c.if-letter-ne-DELETED.false) ∙ append-nil c.args.read.now.items)
