use Rattle.std.proofs.Common.{◌≡◌, ◌<◌, ◌≤◌, ℕ, length, get_or, set, refl, sym, ◌∙◌, subst, inl, inr, arith}
use Rattle.std.specs.Prelude.{◌↔◌}
use Rattle.std.proofs.lemmas.Bool.{cases_eq}
use Rattle.std.proofs.lemmas.List.{length-set, get_or-set_other}
use Rattle.key_groups.specs.Groups.{Follows}
use Rattle.key_groups.proofs.Linking.{AreLinks-set, Follows-further}
use Rattle.key_groups.proofs.links.first_of_group.Goals as goal

pub bounds-links-next : goal.bounds-links-next
bounds-links-next c =
    let so = c.loop-at.invariant in
    let up = so.links c.loop-at.at so.within in
    omega (arith, up, so.within)

pub loop-at-init : goal.loop-at-init
loop-at-init c = record {
  links = c.requires.links;
  within = c.requires.place;
  kept = λ label. ((λ follows. follows), (λ follows. follows));
  ends = λ i end. end;
  one = λ label follows. refl;
}

pub loop-at-preserved : goal.loop-at-preserved
loop-at-preserved c =
    let so = c.loop-at.invariant in
    let links = c.loop-at.links in
    let at = c.loop-at.at in
    let next = get_or links at 0 in
    let last = get_or links next 0 in
    let up : next ≤ at = so.links at so.within in
    let nl : next < length links = omega (arith, up, so.within) in
    let further : last ≤ next = so.links next nl in
    let size : length (set links at last) ≡ length links = length-set links at last in
    let same : (label : ℕ → ℕ) → Follows (set links at last) label ↔ Follows links label = λ label. Follows-further links at label so.within nl in
    record {
      links = AreLinks-set links at last (omega (arith, up, further)) so.links;
      within = omega (arith, up, further, so.within, size);
      kept = λ label. ((λ follows. (so.kept label).0 ((same label).0 follows)), (λ follows. (same label).1 ((so.kept label).1 follows)));
      ends = λ i end. elim (cases_eq i at) [
        | inl here ↦ absurd (c.loop-at-test.true (sym (subst (λ k. get_or links k 0 ≡ k) here (so.ends i end))))
        | inr other ↦ get_or-set_other links at i last 0 other ∙ so.ends i end
      ];
      one = λ label follows. (let old = (same label).0 follows in old next nl ∙ old at so.within ∙ so.one label old);
    }

pub loop-at-smaller : goal.loop-at-smaller
loop-at-smaller c =
    let so = c.loop-at.invariant in
    let links = c.loop-at.links in
    let at = c.loop-at.at in
    let up = so.links at so.within in
    let further = so.links (get_or links at 0) (omega (arith, up, so.within)) in
    omega (arith, up, further, c.loop-at-test.true)
