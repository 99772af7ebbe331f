use Rattle.std.proofs.Common.{◌≡◌, List, ap, ◌∙◌}
use Rattle.std.specs.Ordering.{is_eq}
use Rattle.std.specs.Cmp.Lexicographic.{slice_cmp, lists_total}
use Rattle.std.specs.FinMap.{slice_cmp-IsAntisymmetric}
use Rattle.edition_blocks.proofs.SameLaws.{same-by}
use Rattle.edition_blocks.proofs.same.are_same_lists.Goals as goal

pub returns : goal.returns
returns g c =
    same-by (slice_cmp g.K.Ord.cmp) (lists_total g.met.K.Ord.total) (slice_cmp-IsAntisymmetric g.met.K.Element.ties) c.args.one.now c.args.other.now c.is_eq.result
    (c.is_eq.ensures ∙ ap is_eq (c.cmp.ensures ∙ ap (λ (xs : List g.row.K.Denot). slice_cmp g.K.Ord.cmp xs c.as_slice-2.result.now) c.as_slice.ensures.value
    ∙ ap (slice_cmp g.K.Ord.cmp c.args.one.now) c.as_slice-2.ensures.value))
