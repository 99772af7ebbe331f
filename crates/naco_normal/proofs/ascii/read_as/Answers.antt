use Rattle.std.proofs.Common.{true, get_or, eqb, refl}
use Rattle.std.proofs.lemmas.Bool.{agree_below_at, eqb-true}
use Rattle.naco_normal.specs.declared.ascii.TheConstants.{READ_AS}
use Rattle.naco_normal.specs.Ascii.{read_as}
use Rattle.naco_normal.proofs.ascii.read_as.Goals as goal

-- the table is held against the definition at each byte
pub returns : goal.returns
returns c = eqb-true _ _ (agree_below_at (λ b. eqb (get_or READ_AS b 0) (read_as b)) (λ b. true) 128 c.args.byte refl c.requires)
