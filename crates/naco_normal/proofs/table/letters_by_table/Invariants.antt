use Rattle.std.proofs.Common.{◌≡◌, true, nat_lt, [], ◌∷◌, flat_map}
use Rattle.std.specs.List.{list_all}
use Rattle.naco_normal.specs.Normal.{letters}
use Rattle.naco_normal.proofs.table.letters_by_table.Given as goal

-- what the characters so far leave, each of which is in the table
abbrev pub invariant-loop-c : goal.invariant-loop-c
invariant-loop-c l = record {
  read : l.read.items ≡ flat_map (λ c. letters (c ∷ [])) l.yielded;
  tabled : list_all (λ c. nat_lt c 0x500) l.yielded ≡ true;
}
