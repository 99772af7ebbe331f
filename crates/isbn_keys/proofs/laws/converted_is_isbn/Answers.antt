use Rattle.isbn_keys.proofs.CheckLaws.{converted-is_isbn}
use Rattle.isbn_keys.proofs.laws.converted_is_isbn.Goals as goal

pub returns : goal.returns
returns c = converted-is_isbn
