use Rattle.std.proofs.Common.{◌≡◌, ◌≤◌, take, length}
use Rattle.isbn_keys.specs.Isbn.{without_hyphens}
use Rattle.isbn_keys.proofs.isbn.without_hyphens.Given as goal

abbrev pub invariant-loop-c : goal.invariant-loop-c
invariant-loop-c l = record {
  kept : take l.len l.characters ≡ without_hyphens (take l.c-index l.part);
  few : l.len ≤ 13;
  room : length l.characters ≡ 13;
}
