use Rattle.std.proofs.Common.{sym, ap, ◌∙◌, map-id}
use Rattle.std.proofs.lemmas.Iterator.{YieldsList-from_chars}
use Rattle.std.proofs.lemmas.Iterator.Consumers.{YieldsList-end}
use Rattle.naco_normal.specs.Normal.{letters}
use Rattle.naco_normal.proofs.TableLemmas.{letters_by_one}
use Rattle.naco_normal.proofs.table.letters_by_table.Goals as goal

pub returns : goal.returns
returns c =
    let end = YieldsList-end (YieldsList-from_chars c.args.text.now c.utf8.text cc) c.loop-c.yielded _ c.loop-c.yielded_by _ _ c.in-None.is c.next.ensures.steps in
    c.loop-c.invariant.read ∙ sym (letters_by_one c.loop-c.yielded c.loop-c.invariant.tabled) ∙ ap letters (sym (map-id c.loop-c.yielded) ∙ end.0)
