-- How many bytes the export has.
use Rattle.std.proofs.Common.{◌≡◌, ℕ, ◌+◌, ◌≤◌, List, length, take, ap, ◌∙◌, length-append}
use Rattle.std.specs.Prelude.{Some, slice_get, Result, Ok, Err, IfOk}
use Rattle.authority_names.specs.Leads.{Table}
use Rattle.catalogue_core.specs.EditionKeys.{work_key_by}
use Rattle.catalogue_core.specs.Histories.{AreEditionsOf}
use Rattle.catalogue_editions.specs.declared.history_entry.HistoryEntry.{HistoryEntry}
use Rattle.catalogue_editions.specs.declared.edition.Edition.{Edition}
use Rattle.catalogue_core.proofs.WalkLaws.{told-more}
use Rattle.catalogue_export.specs.Editions.{edition_text, export_text}
use Rattle.catalogue_export.proofs.ExportedProof.{exported-whole}

-- an edition's record is a frame
pub edition-size : (names : Table) (e : Edition) → length (edition_text names e) ≤ 99999
unfolding edition_text
edition-size names e = (exported-whole e.content (work_key_by names e) e.sound).size

-- one edition more
pub size-more : (names : Table) (all : List Edition) (place : ℕ) (e : Edition) → slice_get all place ≡ Some e
    → length (export_text names (take (place + 1) all)) ≡ length (export_text names (take place all)) + length (edition_text names e)
size-more names all place e at =
    ap length (told-more (edition_text names) all place e at) ∙ length-append (export_text names (take place all)) (edition_text names e)

-- what was counted of the editions is the size of the export
pub sized-whole : {E : Type 0} (names : Table) (result : Result ℕ E) (history : List HistoryEntry) (all seen : List Edition) → AreEditionsOf history all → seen ≡ all
    → IfOk result (λ size. size ≡ length (export_text names seen))
    → IfOk result (λ size. (all : List Edition) × AreEditionsOf history all × (size ≡ length (export_text names all)))
sized-whole names (Ok size) history all seen are same is = (all, are, is ∙ ap (λ es. length (export_text names es)) same)
sized-whole names (Err e) history all seen are same is = tt
