-- How a reader of queries answers a line.
use Rattle.std.specs.Prelude.{◌≡◌, Result, Ok, Err, MatchResult}
use Rattle.catalogue_query.specs.declared.query.Query.{Query}
use Rattle.catalogue_query.specs.declared.query.QueryRefusal.{QueryRefusal}
use Rattle.catalogue_query.specs.declared.query.QueryRefusal.TheVariants.{Unknown, Word, Memory}

-- a refusal is that of the line, or lack of memory, which may come at any line
abbrev pub IsRefusal : QueryRefusal → Result Query QueryRefusal → Type 0
IsRefusal Unknown meaning = meaning ≡ Err Unknown
IsRefusal Word meaning = meaning ≡ Err Word
IsRefusal Memory meaning = Unit {0}

-- the answer is the query of the line, or the reason why it has none
abbrev pub IsReadAs : Result Query QueryRefusal → Result Query QueryRefusal → Type 0
IsReadAs result meaning = MatchResult result (λ query. meaning ≡ Ok query) (λ refusal. IsRefusal refusal meaning)
