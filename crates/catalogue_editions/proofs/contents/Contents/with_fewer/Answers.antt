use Rattle.std.proofs.Common.{◌∙◌, ◌++◌, ◌∷◌, List, ap, ap₂, sym}
use Rattle.union_base.specs.SortedLists.{union}
use Rattle.union_base.specs.RecordIds.{id_cmp}
use Rattle.field_merge.specs.declared.content.Content.{Content}
use Rattle.catalogue_editions.specs.Joined.{all_in, parts_behind}
use Rattle.catalogue_editions.specs.declared.contents.Behind.{Behind}
use Rattle.catalogue_editions.proofs.JoinedLaws.{joined-both}
use Rattle.catalogue_editions.proofs.contents.Contents.with_fewer.Goals as goal

pub invariant_of-result : goal.invariant_of-result
invariant_of-result c =
    let middle = c.other.inside.first in
    let items = ap (λ (b : Behind). all_in b.parts.items) c.in_ok-more.ensures.ok ∙ c.in_ok-parts.ensures
    ∙ ap₂ (λ (xs ys : List (List Content)). all_in xs ++ middle ∷ all_in ys) c.parts_behind-left.ensures c.parts_behind-right.ensures in
    let merge = joined-both c.in_ok-shared.field-0 c.self.inside.first (all_in (parts_behind c.self.inside.more)) middle
    (all_in (parts_behind c.other.inside.more)) (all_in c.in_ok-more.more.value.parts.items) c.args.self.now c.args.other.now
    c.in_ok-shared.ensures items c.self.view_is c.other.view_is in
    ap (λ (b : Behind). b.contributors) c.in_ok-more.ensures.ok ∙ c.in_ok-contributors.ensures
    ∙ ap₂ (union id_cmp) c.contributors.ensures c.contributors-2.ensures ∙ sym (ap (λ (x : Content). x.contributors) merge)

pub returns : goal.returns
returns c =
    let middle = c.other.inside.first in
    let items = ap (λ (b : Behind). all_in b.parts.items) c.in_ok-more.ensures.ok ∙ c.in_ok-parts.ensures
    ∙ ap₂ (λ (xs ys : List (List Content)). all_in xs ++ middle ∷ all_in ys) c.parts_behind-left.ensures c.parts_behind-right.ensures in
    joined-both c.in_ok-shared.field-0 c.self.inside.first (all_in (parts_behind c.self.inside.more)) middle
    (all_in (parts_behind c.other.inside.more)) (all_in c.in_ok-more.more.value.parts.items) c.args.self.now c.args.other.now
    c.in_ok-shared.ensures items c.self.view_is c.other.view_is
