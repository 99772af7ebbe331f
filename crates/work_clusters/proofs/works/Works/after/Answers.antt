use Rattle.std.proofs.Common.{◌≡◌, Bool, true, false, ◌&&◌, Some, None, refl, sym, ap, ◌∙◌}
use Rattle.std.specs.Prelude.{find}
use Rattle.std.specs.Option.{option_map, option_copied}
use Rattle.std.specs.Ordering.{is_lt}
use Rattle.std.specs.Range.Bound.{bound_map}
use Rattle.std.specs.BTreeMap.Range.{range_contains, entries_between}
use Rattle.std.specs.declared.ops.Bound.TheVariants.{Excluded, Unbounded}
use Rattle.work_clusters.specs.Works.{key_cmp, key_after, some}
use Rattle.work_clusters.proofs.Reading.{first_kept}
use Rattle.work_clusters.proofs.works.Works.after.Goals.{in-Some, in-None}
use Rattle.work_clusters.proofs.works.Works.after.Goals as goal

and_true : (a : Bool) → (a && true) ≡ a
and_true true = refl
and_true false = refl

pub returns : goal.returns
returns c =
    let es = c.self.inside.rows.entries in
    let rows : c.range.result ≡ entries_between key_cmp (bound_map (λ x. x.now) c.match-key.start) Unbounded es = c.range.ensures.between tt in
    c.first_filled.ensures ∙ ap (λ rows. option_map (λ row. row.0) (find (λ row. some row.1.ids) rows)) rows
    ∙ elim c.match-key.branch [
      | in-Some w ↦
          let key = w.in-Some.key.now in
          ap (λ start. option_map (λ row. row.0) (find (λ row. some row.1.ids) (entries_between key_cmp (bound_map (λ x. x.now) start) Unbounded es))) w.start-is
          ∙ first_kept (range_contains key_cmp (Excluded key) Unbounded) (Some key) (λ q. and_true (is_lt (key_cmp key q))) es
          ∙ ap (λ v. key_after v.works (Some key)) c.self.view_is ∙ ap (λ given. key_after c.args.self.now.works (option_copied given)) (sym w.in-Some.is)
      | in-None w ↦
          ap (λ start. option_map (λ row. row.0) (find (λ row. some row.1.ids) (entries_between key_cmp (bound_map (λ x. x.now) start) Unbounded es))) w.start-is
          ∙ first_kept (range_contains key_cmp Unbounded Unbounded) None (λ q. refl) es
          ∙ ap (λ v. key_after v.works None) c.self.view_is ∙ ap (λ given. key_after c.args.self.now.works (option_copied given)) (sym w.in-None.is)
    ]
