-- The parts of an export that several workers made.
use Rattle.std.proofs.Common.{◌≡◌, ℕ, List, ◌++◌, subst}
use Rattle.std.specs.Prelude.{Result, OnOk, OnErr}
use Rattle.union_base.specs.declared.record_id.RecordId.{RecordId}
use Rattle.catalogue_editions.specs.declared.edition.Edition.{Edition}
use Rattle.catalogue_export.specs.Writing.{HasWritten, GainsFront, Output, IsExport}
use Rattle.catalogue_export.specs.Parts.{IsPartOf}
use Rattle.catalogue_export.specs.declared.by_workers.Part.{Part}
use Rattle.catalogue_export.specs.declared.export_fail.ExportFail.{ExportFail}

-- the writing of a part is the export of its editions
pub part-export : (told : Edition → List ℕ) (noted : Edition → List (RecordId × ℕ)) (editions : List Edition) (part : Part) (out : Output)
    (left most : List (RecordId × ℕ)) (result : Result (Unit {0}) ExportFail) → IsPartOf told noted editions part
    → HasWritten part.text.items out result → OnOk result (most ≡ left ++ part.left.items) → OnErr result (GainsFront left most part.left.items)
    → IsExport told noted editions out left most result
part-export told noted editions part out left most result is written gained stopped = record {
  written = subst (λ text. HasWritten text out result) is.text written;
  gained = subst (λ more. OnOk result (most ≡ left ++ more)) is.left gained;
  stopped = subst (λ more. OnErr result (GainsFront left most more)) is.left stopped;
}
