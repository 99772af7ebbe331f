-- Contents that have the same parts are equal.
use Rattle.std.proofs.Common.{◌≡◌, true, IsTrue, List}
use mathlib.Core.HLevel.{Σ_prop_path}
use Rattle.std.proofs.Math.Bool.{Bool-set}
use Rattle.union_base.specs.declared.record_id.RecordId.{RecordId}
use Rattle.union_base.specs.declared.field.Field.{Field}
use Rattle.field_merge.specs.Kept.{are_kept}
use Rattle.field_merge.specs.declared.content.Content.{Content}

-- the same in each part
pub record HaveSameParts (a b : Content) : Type 0 where
  pub contributors : a.contributors ≡ b.contributors
  pub fixed : a.fixed ≡ b.fixed
  pub f005 : a.f005 ≡ b.f005
  pub f010 : a.f010 ≡ b.f010
  pub f040 : a.f040 ≡ b.f040
  pub f1xx : a.f1xx ≡ b.f1xx
  pub f240 : a.f240 ≡ b.f240
  pub f245 : a.f245 ≡ b.f245
  pub united : a.united ≡ b.united

-- contents of the same parts are one
pub same_contents : (a b : Content) → HaveSameParts a b → a ≡ b
same_contents a b same =
    let lists : ◌≡◌ {A = (d : List RecordId × List Field) × IsTrue (are_kept d.0 d.1)} ((a.contributors, a.united), a.kept) ((b.contributors, b.united), b.kept) =
    Σ_prop_path (λ d. Bool-set (are_kept d.0 d.1) true) (λ i. (same.contributors i, same.united i)) in
    λ i. record {
      contributors = (lists i).0.0;
      fixed = same.fixed i;
      f005 = same.f005 i;
      f010 = same.f010 i;
      f040 = same.f040 i;
      f1xx = same.f1xx i;
      f240 = same.f240 i;
      f245 = same.f245 i;
      united = (lists i).0.1;
      kept = (lists i).1;
    }
