-- The batches of a stream are determined by its frames.
use Rattle.std.proofs.Common.{◌≡◌, ℕ, true, IsTrue, List, [], ◌∷◌, refl, sym, ap, ◌∙◌}
use mathlib.Core.HLevel.{Σ_prop_path}
use Rattle.std.proofs.Math.Bool.{Bool-set}
use Rattle.std.specs.Prelude.{filter}
use Rattle.std.specs.List.{AllZip}
use Rattle.std.proofs.lemmas.Option.{same_Some}
use Rattle.marc_fields.proofs.RecordLaws.{Spells-one}
use Rattle.catalogue_editions.specs.Batches.{is_batch}
use Rattle.record_editions.specs.Ops.{op}
use Rattle.catalogue_editions.specs.declared.batch.Batch.{Batch}
use Rattle.catalogue_editions.specs.declared.op.Op.{Op}
use Rattle.library_batches.specs.Batches.{IsOpOf, IsBatchOf, AreBatches, blocks, has_accepted}
use Rattle.library_batches.specs.Streams.{Frame, accepted}

-- a list goes together with one list at most, place by place, where each of its elements goes together with one
one-zip : {A B : Type 0} (R : A → B → Type 0) → ((x : A) (y z : B) → R x y → R x z → y ≡ z) → (xs : List A) (ys zs : List B) → AllZip R xs ys
    → AllZip R xs zs → ys ≡ zs
one-zip R one [] [] [] p q = refl
one-zip R one [] [] (z ∷ zs) p q = absurd q
one-zip R one [] (y ∷ ys) zs p q = absurd p
one-zip R one (x ∷ xs) [] zs p q = absurd p
one-zip R one (x ∷ xs) (y ∷ ys) [] p q = absurd q
one-zip {A} {B} R one (x ∷ xs) (y ∷ ys) (z ∷ zs) p q =
    ap (λ b. b ∷ ys) (one x y z p.0 q.0) ∙ ap (λ (rest : List B). z ∷ rest) (one-zip R one xs ys zs p.1 q.1)

one-op : (prefer : List (List ℕ)) (library frame : List ℕ) (a b : Op) → IsOpOf prefer library frame a → IsOpOf prefer library frame b → a ≡ b
one-op prefer library frame a b p q =
    same_Some a b (sym p.2 ∙ (ap (op prefer library) (Spells-one frame p.0 q.0 p.1 q.1) ∙ q.2))

same-batch : (a b : Batch) → a.library ≡ b.library → a.ops ≡ b.ops → a ≡ b
same-batch a b p q =
    let pairs : ◌≡◌ {A = (d : List ℕ × List Op) × IsTrue (is_batch d.0 d.1)} ((a.library, a.ops), a.fits) ((b.library, b.ops), b.fits) =
    Σ_prop_path (λ d. Bool-set (is_batch d.0 d.1) true) (λ i. (p i, q i)) in
    λ i. record { library = (pairs i).0.0; ops = (pairs i).0.1; fits = (pairs i).1 }

one-batch : (prefer : List (List ℕ)) (library : List ℕ) (block : List Frame) (a b : Batch) → IsBatchOf prefer library block a
    → IsBatchOf prefer library block b → a ≡ b
one-batch prefer library block a b p q =
    same-batch a b (p.library_is ∙ sym q.library_is)
    (one-zip (IsOpOf prefer library) (one-op prefer library) (accepted block) a.ops b.ops p.ops q.ops)

pub one-batches : (prefer : List (List ℕ)) (library : List ℕ) (frames : List Frame) (one other : List Batch) → AreBatches prefer library frames one
    → AreBatches prefer library frames other → one ≡ other
one-batches prefer library frames one other p q =
    one-zip (IsBatchOf prefer library) (one-batch prefer library) (filter has_accepted (blocks frames)) one other p q
