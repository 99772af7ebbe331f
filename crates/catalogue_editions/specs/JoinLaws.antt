-- Merging editions is idempotent, commutative and associative.
use Rattle.merge_laws.specs.Resolution.{JoinLaws}
use Rattle.match_features.specs.JoinLaws.{features_join_laws}
use Rattle.field_merge.specs.MergingLaws.{join_laws}
use Rattle.catalogue_editions.specs.Equal.{same_editions}
use Rattle.catalogue_editions.specs.Joining.{join}

-- to merge editions is idempotent, commutative and associative
pub edition_join_laws : JoinLaws join
edition_join_laws = record {
  idempotent = λ x. same_editions (join x x) x (features_join_laws.idempotent x.features) (join_laws.idempotent x.content);
  commutative = λ x y.
      same_editions (join x y) (join y x) (features_join_laws.commutative x.features y.features) (join_laws.commutative x.content y.content);
  associative = λ x y z.
      same_editions (join (join x y) z) (join x (join y z))
      (features_join_laws.associative x.features y.features z.features) (join_laws.associative x.content y.content z.content);
}
