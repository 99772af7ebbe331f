use Rattle.match_features.specs.JoinLaws.{features_join_laws}
use Rattle.match_features.proofs.laws.merging_is_a_union.Goals as goal

pub returns-clause-idempotent : goal.returns-clause-idempotent
returns-clause-idempotent c = features_join_laws.idempotent

pub returns-clause-commutative : goal.returns-clause-commutative
returns-clause-commutative c = features_join_laws.commutative

pub returns-clause-associative : goal.returns-clause-associative
returns-clause-associative c = features_join_laws.associative
