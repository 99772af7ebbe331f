use Rattle.record_editions.proofs.KeyTexts.{key-by_none}
use Rattle.record_editions.proofs.laws.key_without_names.Goals as goal

pub returns : goal.returns
returns c = key-by_none
