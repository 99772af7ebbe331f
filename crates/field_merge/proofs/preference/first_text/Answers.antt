use Rattle.field_merge.proofs.PreferredLaws.{text_at, text_whole}
use Rattle.field_merge.proofs.preference.first_text.Goals as goal

pub returns-in-Some : goal.returns-in-Some
returns-in-Some c = rw (c.split_at.ensures.front, c.split_at-in-Some.ensures.back) (text_at c.args.text.now c.in-Some.at c.in-Some.ensures)

pub returns-in-None : goal.returns-in-None
returns-in-None c = text_whole c.args.text.now c.in-None.ensures
