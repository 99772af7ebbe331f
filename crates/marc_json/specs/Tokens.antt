-- What the writer of JSON holds after a write. Only the crate's private clauses cite it.
use Rattle.std.specs.Prelude.{◌≡◌, List, ◌++◌, Result, OnOk}
use Rattle.json.specs.Token.{Token}
use Rattle.json.specs.Tree.{json_tokens}
use Rattle.json.specs.Written.{Written}
use Rattle.serde_json.specs.Data.{Data as Json}
use Rattle.serde_json.specs.Written.{outline}

-- the tokens of a value
unfoldable pub value_tokens : Json → List Token
value_tokens value = json_tokens (outline value)

-- on success the tokens are appended; what the buffer held at the start stays
pub record Sends {E : Type 0} (answer : Result (Unit {0}) E) (old new : Written) (tokens : List Token) : Type 0 where
  pub ok : OnOk answer (new.tokens ≡ old.tokens ++ tokens)
  pub before : new.before ≡ old.before
