-- Lines of groups, and of records by themselves, that are added one after the other.
use Rattle.std.proofs.Common.{◌≡◌, ℕ, ◌<◌, Bool, true, false, List, [], ◌∷◌, ◌++◌, length, take, refl, sym, ap, ◌∙◌, subst, arith}
use Rattle.std.specs.Option.{option_to_list}
use Rattle.union_keys.specs.Groups.{Table, named_by, groups_from}
use Rattle.union_keys.specs.Lines.{AddsLine, AddsLines, alone}
use Rattle.union_keys.specs.declared.standing.Standing.{Standing}

-- an empty line ends the group that is begun
pub group-ended : (table : Table) (lines later : List (List ℕ)) (line : List ℕ) (begun : Bool) (members : List Standing) (text now after : List ℕ)
    (count : ℕ) → lines ≡ line ∷ later → length line ≡ 0 → begun ≡ true → AddsLine members text now count
    → AddsLines (groups_from table later false []) now after → AddsLines (groups_from table lines begun members) text after
group-ended table lines later [] begun members text now after count first none is added rest =
    subst (λ ls. AddsLines (groups_from table ls begun members) text after) (sym first)
    (subst (λ t. AddsLines (groups_from table ([] ∷ later) t members) text after) (sym is) (now, count, added, rest))
group-ended table lines later (b ∷ line) begun members text now after count first none is added rest = absurd (omega arith)

-- and is passed over where none is
pub group-none : (table : Table) (lines later : List (List ℕ)) (line : List ℕ) (begun : Bool) (members : List Standing) (text after : List ℕ)
    → lines ≡ line ∷ later → length line ≡ 0 → begun ≡ false → AddsLines (groups_from table later begun members) text after
    → AddsLines (groups_from table lines begun members) text after
group-none table lines later [] begun members text after first none is rest =
    subst (λ ls. AddsLines (groups_from table ls begun members) text after) (sym first)
    (subst (λ t. AddsLines (groups_from table ([] ∷ later) t members) text after) (sym is)
    (subst (λ t. AddsLines (groups_from table later t members) text after) is rest))
group-none table lines later (b ∷ line) begun members text after first none is rest = absurd (omega arith)

-- any other line may add a record
pub group-longer : (table : Table) (lines later : List (List ℕ)) (line : List ℕ) (begun : Bool) (members more : List Standing) (text after : List ℕ)
    → lines ≡ line ∷ later → 0 < length line → more ≡ members ++ option_to_list (named_by table line)
    → AddsLines (groups_from table later true more) text after → AddsLines (groups_from table lines begun members) text after
group-longer table lines later [] begun members more text after first some added rest = absurd (omega arith)
group-longer table lines later (b ∷ line) begun members more text after first some added rest =
    subst (λ ls. AddsLines (groups_from table ls begun members) text after) (sym first)
    (subst (λ ms. AddsLines (groups_from table later true ms) text after) added rest)

-- the lines end within a group, or between two
pub groups-last : (table : Table) (begun : Bool) (members : List Standing) (text now : List ℕ) (count : ℕ) → begun ≡ true
    → AddsLine members text now count → AddsLines (groups_from table [] begun members) text now
groups-last table begun members text now count is added =
    subst (λ t. AddsLines (groups_from table [] t members) text now) (sym is) (now, count, added, refl)

pub groups-none : (table : Table) (begun : Bool) (members : List Standing) (text : List ℕ) → begun ≡ false
    → AddsLines (groups_from table [] begun members) text text
groups-none table begun members text is = subst (λ t. AddsLines (groups_from table [] t members) text text) (sym is) refl

-- the first of the records by itself, and then the others
pub alone-next : (rest behind one : List Standing) (s : Standing) (text now after : List ℕ) (count : ℕ) → rest ≡ s ∷ behind → one ≡ take 1 rest
    → AddsLine one text now count → AddsLines (alone behind) now after → AddsLines (alone rest) text after
alone-next rest behind one s text now after count first is added later =
    let same : one ≡ s ∷ [] = is ∙ ap (take 1) first in
    subst (λ all. AddsLines (alone all) text after) (sym first)
    (now, count, subst (λ ms. AddsLine ms text now count) same added, later)
