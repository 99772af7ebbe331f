-- How the table grows library by library.
use Rattle.std.proofs.Common.{◌≡◌, ◌+◌, ◌-◌, ◌++◌, ◌∷◌, [], ℕ, Bool, ◌||◌, List, drop, Some, sym, ap, ◌∙◌, arith, append_assoc}
use Rattle.std.specs.Prelude.{codes, decimal}
use Rattle.std.specs.List.{slice_get}
use Rattle.union_words.specs.Words.{LibraryFile}
use Rattle.union_words.proofs.StopLaws.{drop-get}
use Rattle.union_explain.specs.Located.{located}
use Rattle.union_explain.specs.Rows.{row_count, any_astray}
use Rattle.union_explain.specs.Runs.{library_rows, all_rows, table_rows, are_astray, refused_in, counts_text}
use Rattle.union_explain.specs.declared.form.Form.{Form}
use Rattle.union_explain.proofs.RowLaws.{or_assoc}

-- the rows of the next library are added
pub text-next : (form : Form) (report : List ℕ) (contents : List ℕ → List ℕ) (all : List LibraryFile) (place : ℕ) (file : LibraryFile)
    (before after total : List ℕ) → slice_get all place ≡ Some file → after ≡ before ++ library_rows form report contents file
    → before ++ all_rows form report contents (drop place all) ≡ total
    → after ++ all_rows form report contents (drop (place + 1) all) ≡ total
text-next form report contents all place file before after total here added h =
    let rest = all_rows form report contents (drop (place + 1) all) in
    ap (λ xs. xs ++ rest) added
    ∙ (append_assoc before (library_rows form report contents file) rest
    ∙ (sym (ap (λ xs. before ++ all_rows form report contents xs) (drop-get all place file here)) ∙ h))

-- and counted
pub rows-next : (report : List ℕ) (contents : List ℕ → List ℕ) (all : List LibraryFile) (place : ℕ) (file : LibraryFile)
    (before after total : ℕ) → slice_get all place ≡ Some file
    → after ≡ before + row_count (located (contents file.path)) (refused_in report file.library)
    → before + table_rows report contents (drop place all) ≡ total
    → after + table_rows report contents (drop (place + 1) all) ≡ total
rows-next report contents all place file before after total here added h =
    omega (arith, added, h, ap (table_rows report contents) (drop-get all place file here))

-- and whether a line told of no frame of its file
pub astray-next : (report : List ℕ) (contents : List ℕ → List ℕ) (all : List LibraryFile) (place : ℕ) (file : LibraryFile)
    (before after total : Bool) → slice_get all place ≡ Some file
    → after ≡ (before || any_astray (located (contents file.path)) (refused_in report file.library))
    → (before || are_astray report contents (drop place all)) ≡ total
    → (after || are_astray report contents (drop (place + 1) all)) ≡ total
astray-next report contents all place file before after total here noted h =
    let rest = are_astray report contents (drop (place + 1) all) in
    ap (λ t. t || rest) noted
    ∙ (or_assoc before (any_astray (located (contents file.path)) (refused_in report file.library)) rest
    ∙ (sym (ap (λ xs. before || are_astray report contents xs) (drop-get all place file here)) ∙ h))

-- a text that was made of three parts and a line feed
pub three_parts : (start first second third all x y z : List ℕ) → start ≡ [] → first ≡ start ++ x → second ≡ first ++ y → third ≡ second ++ z
    → all ≡ third ++ 0x0A ∷ [] → all ≡ x ++ (y ++ (z ++ 0x0A ∷ []))
three_parts start first second third all x y z a b c d e =
    let one : first ≡ x = b ∙ ap (λ xs. xs ++ x) a in
    e ∙ (ap (λ xs. xs ++ 0x0A ∷ []) (d ∙ ap (λ xs. xs ++ z) (c ∙ ap (λ xs. xs ++ y) one)) ∙ simp append_assoc)

-- the parts of the line of counts
pub counts_text-is : (lines lines' rows passed : ℕ) → lines ≡ lines' → passed ≡ lines - rows
    → (codes "lines " ++ decimal lines) ++ ((codes " explained " ++ decimal rows) ++ ((codes " passed " ++ decimal passed) ++ 0x0A ∷ []))
    ≡ counts_text lines' rows
unfolding counts_text
counts_text-is lines lines' rows passed a b =
    ap (λ n. (codes "lines " ++ decimal lines) ++ ((codes " explained " ++ decimal rows) ++ ((codes " passed " ++ decimal n) ++ 0x0A ∷ []))) b
    ∙ ap (λ n. (codes "lines " ++ decimal n) ++ ((codes " explained " ++ decimal rows) ++ ((codes " passed " ++ decimal (n - rows)) ++ 0x0A ∷ []))) a
