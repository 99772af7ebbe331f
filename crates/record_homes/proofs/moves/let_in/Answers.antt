use Rattle.std.proofs.Common.{◌≡◌, suc, ◌∷◌, ◌++◌, [], Bor, List, map, cond, drop, add-one, refl, sym, ap, subst, ◌∙◌}
use Rattle.std.specs.Prelude.{Option}
use Rattle.std.proofs.Math.Seq.{drop-cons}
use Rattle.std.proofs.lemmas.List.{map-append}
use Rattle.union_base.specs.declared.record_id.RecordId.{RecordId}
use Rattle.record_homes.specs.Maps.{MapOf}
use Rattle.record_homes.specs.declared.place.Place.{Place}
use Rattle.record_homes.proofs.HomeLaws.{LetsIn, lets-begin, lets-next}
use Rattle.record_homes.proofs.moves.let_in.Goals as goal
use Rattle.record_homes.proofs.moves.let_in.Goals.{then-not-branch+in_ok-push, else-not-branch}

-- the touched ids in a list
abbrev pairs : List (Bor RecordId × Option Place) → MapOf (Option Place)
pairs listed = map (λ (t : Bor RecordId × Option Place). (t.0.now, t.1)) listed

pub loop-id-init : goal.loop-id-init
loop-id-init c = record {
  lets = subst (LetsIn c.args.homes.now.entries c.args.touched.now.entries c.args.homes.now.entries (pairs c.new-rest.result.items)) (sym c.entries-entries.ensures.all)
      (lets-begin c.args.homes.now.entries c.args.touched.now.entries (pairs c.new-rest.result.items) (ap pairs c.new-rest.ensures.items) c.entries-entries.ensures.ordered);
  back = refl;
}

pub loop-id-preserved : goal.loop-id-preserved
loop-id-preserved c =
    let touched = c.entries-entries.result.now in
    let i = c.loop-id.id-index in
    let t = c.loop-id-item.result in
    let listed = c.loop-id.rest.items in
    let first : drop i touched ≡ t ∷ drop (suc i) touched = drop-cons touched i t c.loop-id-test.true ∙ ap (λ (x : RecordId × Option Place). x ∷ drop (suc i) touched) (sym c.loop-id-item.is) in
    let next = lets-next c.loop-id.invariant.lets t (drop (suc i) touched) first c.let_one_in.new.homes.entries c.in_ok-let_one_in.ensures.admitted c.in_ok-let_one_in.field-0 c.in_ok-let_one_in.ensures.new in
    record {
      lets = rw add-one (elim c.if-not-branch.branch [
        | then-not-branch+in_ok-push w ↦
            rw w.rest-is
            (next (pairs w.push.new.self.items)
            (ap pairs w.in_ok-push.ensures.items ∙ map-append (λ (t : Bor RecordId × Option Place). (t.0.now, t.1)) listed (_ ∷ [])
            ∙ sym (ap (λ b. cond {A = MapOf (Option Place)} b (pairs listed) (pairs listed ++ t ∷ [])) w.if-not-branch.true)))
        | else-not-branch w ↦
            rw w.rest-is (next (pairs listed) (sym (ap (λ b. cond {A = MapOf (Option Place)} b (pairs listed) (pairs listed ++ t ∷ [])) w.if-not-branch.false)))
      ]);
      back = c.in_ok-let_one_in.ensures.back ∙ c.loop-id.invariant.back;
    }
