use Rattle.union_words.proofs.PlaceLaws.{place_of_none}
use Rattle.union_why.specs.Requests.{is_id_word}
use Rattle.union_why.proofs.request.library_count.Goals as goal

pub returns-in-None-clause-value : goal.returns-in-None-clause-value
returns-in-None-clause-value c = place_of_none is_id_word c.args.words.now c.in-None.ensures
