use Rattle.std.proofs.Common.{◌∷◌, ◌++◌, [], Bor, map, sym, ap, ◌∙◌}
use Rattle.std.specs.Prelude.{if◌then◌else◌}
use Rattle.std.specs.BTreeMap.{is_at, insert_entry}
use Rattle.std.specs.Map.{remove_entry}
use Rattle.union_base.specs.declared.record_id.RecordId.{RecordId}
use Rattle.union_base.specs.RecordIds.{id_cmp}
use Rattle.record_homes.proofs.TableLaws.{none-from_new}
use Rattle.record_homes.specs.Maps.{at_id}
use Rattle.record_homes.specs.Moves.{new_home, taken_back}
use Rattle.record_homes.proofs.HomeLaws.{remove-inserted, taken_back-more}
use Rattle.record_homes.proofs.moves.let_one_in.Goals as goal

pub returns-then-new-clause-back : goal.returns-then-new-clause-back
returns-then-new-clause-back c =
    let homes = c.args.homes.now.entries in
    let came = c.args.came.now.items in
    let key = c.in_ok-copied-in-Some.field-0 in
    let home = new_home c.in-Some.place in
    let none = none-from_new (at_id homes key) (sym c.in_ok-new-in-Some.ensures.new ∙ c.if-new.true) in
    let is = c.in_ok-copied-in-Some.ensures in
    let inserted = c.in_ok-new-in-Some.ensures.added ∙ ap (λ b. if◌then◌else◌ b (insert_entry id_cmp homes key home) homes) c.if-new.true in
    taken_back-more c.add.new.self.entries came c.push_reserved.new.self.items c.args.id (c.push_reserved.ensures.items ∙ ap (λ ids. ids ++ c.args.id ∷ []) c.reserve.ensures.items)
    ∙ ap (λ all. taken_back all (map (λ (id : Bor RecordId). id.now) came))
    (ap (remove_entry (is_at (id_cmp c.args.id.now))) inserted ∙ remove-inserted homes c.args.id.now key home is (sym (ap (at_id homes) is) ∙ none))
