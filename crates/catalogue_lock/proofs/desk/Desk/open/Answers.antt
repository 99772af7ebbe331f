use Rattle.std.proofs.Common.{rules, arith, ◌≡◌, ◌∷◌, [], List, Option, Some, sym, subst}
use Rattle.std.proofs.lemmas.Grind.{common_steps}
use Rattle.atomic_table.specs.Table.{opening}
use Rattle.catalogue_lock.specs.Views.{root_view}
use Rattle.catalogue_lock.specs.Rule.{Ruled}
use Rattle.catalogue_lock.proofs.Roots.{open_allowed}
use Rattle.catalogue_lock.proofs.desk.Desk.open.Goals as goal

pub new-requires : goal.new-requires
new-requires g c =
    let m = c.args.machine in
    let slots : c.push.new.self.items ≡ Some m ∷ [] = first_of (search rules, grind (arith, common_steps)) in
    let about : c.of-about.result.value ≡ m = c.of-about.ensures in
    let Opens : g.row.M.Denot → Type 0 = λ x. Ruled g.M.Machine.setting g.M.Machine.entries (opening (0 ∷ []) c.push.new.self.items (root_view (g.M.Machine.setting x))) in
    let Lies : List (Option g.row.M.Denot) → Type 0 = λ l. Ruled g.M.Machine.setting g.M.Machine.entries (opening (0 ∷ []) l (root_view (g.M.Machine.setting m))) in
    subst Opens (sym about) (subst Lies (sym slots) (open_allowed g.M.Machine.setting g.M.Machine.entries m c.requires))
