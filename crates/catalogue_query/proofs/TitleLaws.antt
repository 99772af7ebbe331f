-- When a line gives a title.
use Rattle.std.proofs.Common.{◌≡◌, ℕ, ◌==◌, ◌&&◌, not, if◌then◌else◌, Bool, true, false, List, [], ◌∷◌, length, Option, Some, None, refl, sym}
use Rattle.std.proofs.lemmas.Bool.{false≢true}
use Rattle.naco_normal.specs.Words.{is_empty}
use Rattle.catalogue_query.specs.declared.query.Query.{Query}
use Rattle.catalogue_query.specs.declared.query.Query.TheVariants.{Title}

-- the title of a form, where the text may have one
abbrev title_of : Bool → List ℕ → Option Query
title_of may form = if may && not (is_empty form) then Some (Title form) else None

-- a form with letters is a title
pub title_found : (may : Bool) (form given : List ℕ) → may ≡ true → given ≡ form → (length given == 0) ≡ false → Some (Title given) ≡ title_of may form
title_found may form [] is same some = absurd (false≢true (sym some))
title_found may form (c ∷ cs) is same some = rw (is, sym same) refl

-- where a text may have none, it has none
pub title_missing : (may : Bool) (form : List ℕ) → may ≡ false → None ≡ title_of may form
title_missing may form is = rw is refl
