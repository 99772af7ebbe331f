use Rattle.std.specs.Ordering.{nat_cmp}
use Rattle.std.specs.Cmp.Lexicographic.{slice_cmp}
use Rattle.std.specs.FinMap.{get-empty}
use Rattle.std.proofs.Common.{◌∙◌, ap, subst, sym}
use Rattle.std.specs.FinMap.{get}
use Rattle.authority_names.specs.Places.{table_of, HasPlaces}
use Rattle.authority_names.proofs.TextLaws.{places-none, texts-none}
use Rattle.authority_names.proofs.name_table.NameTable.empty.Goals as goal

pub returns-clause-means : goal.returns-clause-means
returns-clause-means c = λ x. ap (λ es. get (table_of es) x) c.with_hasher.ensures.empty ∙ get-empty (slice_cmp nat_cmp) x

pub invariant_of-result : goal.invariant_of-result
invariant_of-result c =
    (subst HasPlaces (sym c.with_hasher.ensures.empty) places-none, texts-none (table_of c.with_hasher.result.entries) (λ x. ap (λ es. get (table_of es) x) c.with_hasher.ensures.empty ∙ get-empty (slice_cmp nat_cmp) x))
