use Rattle.std.proofs.Common.{◌≡◌, ℕ, true, IsTrue, List, refl}
use mathlib.Core.HLevel.{Σ_prop_path}
use Rattle.std.proofs.Math.Bool.{Bool-set}
use Rattle.catalogue_editions.specs.Batches.{is_batch}
use Rattle.catalogue_editions.specs.declared.op.Op.{Op}
use Rattle.catalogue_editions.specs.declared.batch.Batch.{Batch}
use Rattle.catalogue_editions.proofs.batch.Batch.copied.Goals as goal

-- batches of one library that have the same operations are equal
same_batches : (x y : Batch) → x.library ≡ y.library → x.ops ≡ y.ops → x ≡ y
same_batches x y library ops =
    let fits : ◌≡◌ {A = (d : List ℕ × List Op) × IsTrue (is_batch d.0 d.1)} ((x.library, x.ops), x.fits) ((y.library, y.ops), y.fits) =
    Σ_prop_path (λ d. Bool-set (is_batch d.0 d.1) true) (λ i. (library i, ops i)) in
    λ i. record { library = library i; ops = ops i; fits = (fits i).1 }

pub returns : goal.returns
returns c = same_batches _ c.args.self.now refl c.in_ok-copied.ensures
