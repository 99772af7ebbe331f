-- The texts by which inputs and statuses are told.
use Rattle.std.specs.Prelude.{ℕ, List, [], ◌∷◌, ◌++◌, codes}
use Rattle.union_words.specs.declared.input.Input.{Input}
use Rattle.union_words.specs.declared.input.Input.TheVariants.{Library, Asks, Script, Names}
use Rattle.union_words.specs.declared.status.Status.{Status}
use Rattle.union_words.specs.declared.status.Status.TheVariants.{Done, DoneWithRefusals, Usage, OpenFault, ReadFault, WriteFault, TooLong, Memory}

-- the end of a line
abbrev pub line_feed : ℕ
line_feed = 0x0A

-- how an input is named
abbrev pub input_name : Input → List ℕ
input_name (Library code) = code
input_name Asks = codes "asks"
input_name Script = codes "script"
input_name Names = codes "names"

-- the one line of a run that ended early; none of a run that was done, or could not write
abbrev pub early_text : Status → List ℕ
early_text Done = []
early_text DoneWithRefusals = []
early_text Usage = codes "union: bad command line" ++ line_feed ∷ []
early_text (OpenFault input) = codes "union: cannot open " ++ (input_name input ++ line_feed ∷ [])
early_text (ReadFault input) = codes "union: read failed in " ++ (input_name input ++ line_feed ∷ [])
early_text WriteFault = []
early_text (TooLong input) = codes "union: " ++ (input_name input ++ (codes " is too long" ++ line_feed ∷ []))
early_text Memory = codes "union: out of memory" ++ line_feed ∷ []
