use Rattle.std.proofs.Common.{◌≡◌, ◌++◌, ◌∷◌, ◌||◌, Some, sym, ap, ◌∙◌, subst, refl}
use Rattle.std.proofs.lemmas.List.{nil_from_length}
use Rattle.union_explain.specs.Broken.{is_astray}
use Rattle.union_explain.specs.Located.{located, located_ahead}
use Rattle.union_explain.specs.Readings.{ahead}
use Rattle.union_explain.specs.Reports.{IsRising}
use Rattle.union_explain.specs.Rows.{row}
use Rattle.union_explain.proofs.RowLaws.{Remains, Remains-all, Remains-found, Remains-missed, Remains-none_text, Remains-none_rows, Remains-none_astray, Remains-first}
use Rattle.union_explain.proofs.StopLaws.{ahead-begun, goes-more}
use Rattle.union_explain.proofs.explain.add_rows.Goals.{then-found+in_ok-add, else-found}
use Rattle.union_explain.proofs.explain.add_rows.Goals as goal

pub loop-told-init : goal.loop-told-init
loop-told-init g c = record {
  name = refl;
  faults = refl;
  goes = ahead-begun c.in_ok-locator.locator.at c.in_ok-locator.locator.unread (g.S.Source.left c.args.source.now) c.in_ok-locator.ensures.unread c.in_ok-locator.ensures.at;
  rising = c.requires;
  remains = λ bytes told. Remains-all c.args.form c.args.library.now bytes c.args.refused.now c.args.table.now.text c.args.table.now.rows
      c.in_ok-locator.locator.at c.args.table.now.astray c.in_ok-locator.locator.unread _ told c.in_ok-locator.ensures.unread c.in_ok-locator.ensures.at;
}

pub loop-told-preserved : goal.loop-told-preserved
loop-told-preserved g c =
    let told = c.in-Some.told.now in
    let behind = c.in-Some.behind.now in
    let first : c.loop-told.rest.now ≡ told ∷ behind = c.in-Some.ensures.cases.0 in
    let rising : IsRising c.loop-told.passed (told ∷ behind) = subst (IsRising c.loop-told.passed) first c.loop-told.invariant.rising in
    record {
      name = c.nth.ensures.name ∙ c.loop-told.invariant.name;
      faults = c.in_ok-found.ensures.faults ∙ c.loop-told.invariant.faults;
      goes = goes-more 0 c.loop-told.locator.at c.nth.new.self.at (g.S.Source.left c.args.source.now) _ _ c.loop-told.invariant.goes c.in_ok-found.ensures.goes;
      rising = rising.1;
      remains = λ bytes is.
          let h = Remains-first c.args.form c.args.library.now (located bytes) c.args.refused.now c.loop-told.rest.now behind told
          c.loop-told.passed _ c.args.table.now.text c.loop-told.table.text c.args.table.now.rows c.loop-told.table.rows
          c.args.table.now.astray c.loop-told.table.astray (c.loop-told.invariant.remains bytes is) first in
          elim c.if-found.branch [
            | then-found+in_ok-add w ↦
                Remains-found c.args.form c.args.library.now (located bytes) c.args.refused.now behind told c.loop-told.passed
                _ _ c.args.table.now.text c.loop-told.table.text c.if-found.table.text
                c.args.table.now.rows c.loop-told.table.rows c.if-found.table.rows
                c.args.table.now.astray c.loop-told.table.astray c.if-found.table.astray c.nth.new.self.frame h rising.0
                (rw w.if-found.true at c.in_ok-found.ensures.finds)
                (ap (λ t. t.text) w.table-is ∙ (w.in_ok-add.ensures.text
                ∙ ap (λ f. c.loop-told.table.text ++ row c.args.form c.args.library.now told f) w.frame.ensures))
                (ap (λ t. t.rows) w.table-is ∙ w.in_ok-add.ensures.rows)
                (ap (λ t. t.astray) w.table-is ∙ (w.in_ok-add.ensures.astray
                ∙ ap (λ f. c.loop-told.table.astray || is_astray told (Some f)) w.frame.ensures))
            | else-found w ↦
                subst (λ t. Remains c.args.form c.args.library.now (located bytes) c.args.refused.now behind told.number
                (located_ahead c.nth.new.self.at (ahead c.nth.new.self.unread (g.S.Source.left c.nth.new.source)))
                c.args.table.now.text t.text c.args.table.now.rows t.rows c.args.table.now.astray t.astray)
                (sym (w.table-is ∙ w.miss.ensures))
                (Remains-missed c.args.form c.args.library.now (located bytes) c.args.refused.now behind told c.loop-told.passed
                _ _ c.args.table.now.text c.loop-told.table.text c.args.table.now.rows c.loop-told.table.rows
                c.args.table.now.astray c.loop-told.table.astray
                h rising.0 (rw w.if-found.false at c.in_ok-found.ensures.finds))
          ];
    }

pub returns-clause-text : goal.returns-clause-text
returns-clause-text g c bytes told =
    Remains-none_text _ _ _ _ c.loop-told.rest.now _ _ _ _ _ _ _ _ (c.loop-told.invariant.remains bytes told)
    (nil_from_length c.loop-told.rest.now c.in_default.ensures.cases)

pub returns-clause-astray : goal.returns-clause-astray
returns-clause-astray g c bytes told =
    Remains-none_astray _ _ _ _ c.loop-told.rest.now _ _ _ _ _ _ _ _ (c.loop-told.invariant.remains bytes told)
    (nil_from_length c.loop-told.rest.now c.in_default.ensures.cases)

pub returns-clause-rows : goal.returns-clause-rows
returns-clause-rows g c bytes told =
    Remains-none_rows _ _ _ _ c.loop-told.rest.now _ _ _ _ _ _ _ _ (c.loop-told.invariant.remains bytes told)
    (nil_from_length c.loop-told.rest.now c.in_default.ensures.cases)
