use Rattle.union_base.specs.SortedLists.{has}
use Rattle.edition_derivations.proofs.CommonLaws.{common-of_one, common-of_other, found-any}
use Rattle.edition_derivations.proofs.laws.common_value_is_of_both.Goals as goal

pub returns : goal.returns
returns g c = record {
  one = common-of_one g.met.K.Ord.total g.met.K.Element.ties;
  other = common-of_other g.met.K.Ord.total g.met.K.Element.ties;
  exact = λ xs ys. found-any (has g.K.Ord.cmp ys) xs;
}
