use Rattle.std.proofs.Common.{◌≡◌, true, false, sym, ap, ◌∙◌}
use Rattle.union_words.specs.Statuses.{is_done}
use Rattle.union_json.proofs.RunLaws.{done-late}
use Rattle.union_json.proofs.made.write_made.Goals as goal

pub returns-in-Ok-put_all-clause-late : goal.returns-in-Ok-put_all-clause-late
returns-in-Ok-put_all-clause-late g c = done-late c.args.made.now.end c.requires

pub returns-in-Ok-put_all-clause-part : goal.returns-in-Ok-put_all-clause-part
returns-in-Ok-put_all-clause-part g c = λ is. let clash : true ≡ false = sym c.requires ∙ ap is_done is in cc
