-- The leader of a record (ISO 2709, 'Record label'; MARC 21, 'Leader').
use Rattle.std.specs.Prelude.{ℕ, suc, Bool, ◌==◌, ◌||◌, if◌then◌else◌, List, [], ◌∷◌, ◌++◌, take, slice_index, slice_range, Option, Some, None, Result, Ok, Err}
use Rattle.marc_leader.specs.Codes.{Codes, is_printable}
use Rattle.marc_leader.specs.Numeral.{are_digits, number_of, numeral}
use Rattle.marc_leader.specs.declared.leader.Leader.{Leader}
use Rattle.marc_leader.specs.declared.leader.LeaderRule.{LeaderRule}
use Rattle.marc_leader.specs.declared.leader.LeaderRule.TheVariants.{LengthDigits, BaseDigits, Counts}

-- the 24 bytes: the record's length, five codes, the counts of indicators and of the bytes of a subfield code, the base
-- address of data, three codes, and the entry map with the last code
abbrev pub leader_text : Leader → List ℕ
leader_text leader =
    let c = leader.codes in
    numeral 5 leader.length
    ++ (c.status ∷ c.kind ∷ c.level ∷ c.control ∷ c.coding ∷ 50 ∷ 50 ∷ [])
    ++ numeral 5 leader.base
    ++ (c.encoding ∷ c.form ∷ c.part ∷ 52 ∷ 53 ∷ 48 ∷ c.last ∷ [])

-- the byte may stand at that offset: `2` at 10 and 11, `4`, `5` and `0` at 20 to 22, elsewhere an ASCII graphic or a blank
abbrev pub may_stand : ℕ → ℕ → Bool
may_stand at byte =
    (if at == 10 || at == 11 then byte == 50
    else (if at == 20 then byte == 52
    else (if at == 21 then byte == 53
    else (if at == 22 then byte == 48
    else is_printable byte))))

-- the least offset, counted from the first, of a byte that may not stand there
abbrev pub misfit_from : ℕ → List ℕ → Option ℕ
misfit_from at [] = None
misfit_from at (byte ∷ rest) = (if may_stand at byte then misfit_from (suc at) rest else Some at)

-- the least offset of a byte that may not stand there
abbrev pub misfit : List ℕ → Option ℕ
misfit text = misfit_from 0 text

-- bytes 00 to 04, the record's length
abbrev pub length_place : List ℕ → List ℕ
length_place text = take 5 text

-- bytes 12 to 16, the base address of data
abbrev pub base_place : List ℕ → List ℕ
base_place text = slice_range text 12 17

-- the codes that stand in the 24 bytes
abbrev pub codes_of : List ℕ → Codes
codes_of text = record {
  status = slice_index text 5;
  kind = slice_index text 6;
  level = slice_index text 7;
  control = slice_index text 8;
  coding = slice_index text 9;
  encoding = slice_index text 17;
  form = slice_index text 18;
  part = slice_index text 19;
  last = slice_index text 23;
}

-- the leader that stands in 24 bytes without a misfit, else the misfit
abbrev pub counted : Option ℕ → List ℕ → Result Leader LeaderRule
counted (Some at) text = Err (Counts at)
counted None text = Ok (record {
  length = number_of (length_place text);
  base = number_of (base_place text);
  codes = codes_of text;
})

-- the leader that stands in the 24 bytes, or the first rule that they break
abbrev pub leader_of : List ℕ → Result Leader LeaderRule
leader_of text =
    (if are_digits (length_place text)
    then (if are_digits (base_place text) then counted (misfit text) text else Err BaseDigits)
    else Err LengthDigits)
